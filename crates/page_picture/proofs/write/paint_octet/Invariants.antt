use Rattle.page_plane.specs.Plane.{is_lit}
use Rattle.page_picture.specs.Painted.{IsPainted}
use Rattle.page_picture.proofs.PaintLemmas.{has_first}
use Rattle.page_picture.proofs.write.paint_octet.Given as goal

abbrev pub invariant-loop-column : goal.invariant-loop-column
invariant-loop-column l = IsPainted l.plane.width l.plane.height l.colour (has_first (is_lit l.plane) l.row l.place l.column) l.initial.octets l.octets
