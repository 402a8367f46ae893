mod CharacterLemmas
mod OnLinesLemmas
mod OnPagesLemmas
mod PageTimesLemmas
mod SaidLemmas
mod WarnedLemmas
