use Rattle.std.proofs.Common.{refl}
use Rattle.page_plane.proofs.WordLemmas.{octets_painted}
use Rattle.page_plane.proofs.words.painted_word.Goals as goal

pub returns-clause-bits : goal.returns-clause-bits
returns-clause-bits c = λ m h.
    rw c.to_le_bytes.ensures
    (octets_painted c.args.octets.now c.args.part c.swap_bytes-part.result c.from_le_bytes-word.result _ m c.args.on c.told-octets c.fits-octets
    c.swap_bytes-part.ensures c.swap_bytes-part.type_inv c.from_le_bytes-word.ensures (rw c.word_ink.ensures refl) h)
