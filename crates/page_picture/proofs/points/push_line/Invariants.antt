use Rattle.std.proofs.Common.{◌≡◌, ◌++◌}
use Rattle.page_picture.specs.Dots.{line_points, value_at}
use Rattle.page_picture.proofs.points.push_line.Given as goal

abbrev pub invariant-loop-column : goal.invariant-loop-column
invariant-loop-column l = l.points.items ≡ l.fn.points.items ++ line_points l.side (value_at l.colours l.width) l.row l.line l.column
