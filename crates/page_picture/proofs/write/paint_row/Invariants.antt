use Rattle.page_plane.specs.Plane.{is_lit}
use Rattle.page_picture.specs.Painted.{IsPainted}
use Rattle.page_picture.proofs.PaintLemmas.{has_octets}
use Rattle.page_picture.proofs.write.paint_row.Given as goal

abbrev pub invariant-loop-place : goal.invariant-loop-place
invariant-loop-place l = IsPainted l.plane.width l.plane.height l.colour (has_octets (is_lit l.plane) l.row l.place) l.initial.octets l.octets
