use Rattle.page_plane.specs.Plane.{is_lit}
use Rattle.latsefur_c.specs.Drawn.{HoldsPlane}
use Rattle.latsefur_c.specs.Framed.{StandsInFront}
use Rattle.latsefur_c.proofs.plane.write_plane.Given as goal

abbrev pub invariant-loop-row : goal.invariant-loop-row
invariant-loop-row l = StandsInFront (HoldsPlane l.plane.width l.row (is_lit l.plane)) l.fn.buffer l.buffer
