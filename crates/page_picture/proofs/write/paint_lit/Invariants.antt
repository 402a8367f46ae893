use Rattle.std.proofs.Common.{nat_lt, ◌&&◌}
use Rattle.page_plane.specs.Plane.{is_lit}
use Rattle.page_picture.specs.Painted.{IsPainted}
use Rattle.page_picture.proofs.write.paint_lit.Given as goal

abbrev pub invariant-loop-row : goal.invariant-loop-row
invariant-loop-row l = IsPainted l.plane.width l.plane.height l.colour (λ x y. nat_lt y l.row && is_lit l.plane x y) l.initial.octets l.octets
