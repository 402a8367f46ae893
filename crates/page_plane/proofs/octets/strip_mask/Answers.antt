use Rattle.std.proofs.Common.{◌*◌}
use Rattle.page_plane.proofs.BitLemmas.{strip_bit}
use Rattle.page_plane.proofs.octets.strip_mask.Goals as goal

pub returns : goal.returns
returns c = λ j h.
    rw (c.saturating_sub-before.ensures, c.saturating_sub-after.ensures, c.from-start.ensures, c.from.ensures)
    (strip_bit c.args.x c.args.width (8 * c.args.strip) j h c.requires.left c.requires.right)
