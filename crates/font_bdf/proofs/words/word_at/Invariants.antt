use Rattle.std.proofs.Common.{◌≡◌, [], get_or}
use Rattle.std.specs.Option.{option_copied}
use Rattle.font_bdf.specs.Lines.{word_at}
use Rattle.font_bdf.specs.Parts.{words_of, length_of}
use Rattle.font_bdf.proofs.words.word_at.Given as goal

abbrev pub invariant-loop-rest : goal.invariant-loop-rest
invariant-loop-rest l = get_or (words_of (option_copied l.rest)) l.left [] ≡ word_at l.place l.line

abbrev pub decreases-loop-rest : goal.decreases-loop-rest
decreases-loop-rest l = length_of (option_copied l.rest)
