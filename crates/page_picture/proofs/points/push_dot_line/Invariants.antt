use Rattle.std.proofs.Common.{◌≡◌, ◌++◌}
use Rattle.page_picture.specs.Dots.{dot_line}
use Rattle.page_picture.proofs.points.push_dot_line.Given as goal

abbrev pub invariant-loop-point : goal.invariant-loop-point
invariant-loop-point l = l.points.items ≡ l.fn.points.items ++ dot_line l.side l.colour l.line l.point
