use Rattle.page_plane.specs.Plane.{is_lit}
use Rattle.latsefur_c.specs.Drawn.{HoldsPlane}
use Rattle.latsefur_c.proofs.draw.octets_of.Given as goal

abbrev pub invariant-loop-row : goal.invariant-loop-row
invariant-loop-row l = HoldsPlane l.plane.width l.row (is_lit l.plane) l.octets.items
