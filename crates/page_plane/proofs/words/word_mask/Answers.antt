use Rattle.page_plane.proofs.WordLemmas.{mask_bit}
use Rattle.page_plane.proofs.words.word_mask.Goals as goal

pub returns : goal.returns
returns c = λ m h. rw c.from.ensures (mask_bit c.args.turn c.args.width m c.requires.some c.requires.word h)
