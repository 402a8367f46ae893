use Rattle.page_plane.proofs.WordLemmas.{word_bit}
use Rattle.page_plane.proofs.words.word_of.Goals as goal

pub returns : goal.returns
returns c = λ i h. word_bit c.args.bits c.args.turn c.args.mask i
