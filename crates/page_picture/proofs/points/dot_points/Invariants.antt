use Rattle.std.proofs.Common.{◌≡◌}
use Rattle.page_picture.specs.Dots.{dots, value_at}
use Rattle.page_picture.proofs.points.dot_points.Given as goal

abbrev pub invariant-loop-row : goal.invariant-loop-row
invariant-loop-row l = l.points.items ≡ dots l.side (value_at l.colours l.width) l.width l.row
