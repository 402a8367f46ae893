use Rattle.multi_token.proofs.SpellingLemmas as lemmas
use Rattle.multi_token.proofs.laws.no_spelling_begins_another.Goals as goal

pub returns : goal.returns
returns c = lemmas.no_spelling_begins_another
