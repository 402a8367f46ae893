use Rattle.std.proofs.Common.{◌≡◌, ◌++◌}
use Rattle.page_picture.specs.Dots.{row_points, value_at}
use Rattle.page_picture.proofs.points.push_row.Given as goal

abbrev pub invariant-loop-line : goal.invariant-loop-line
invariant-loop-line l = l.points.items ≡ l.fn.points.items ++ row_points l.side (value_at l.colours l.width) l.width l.row l.line
