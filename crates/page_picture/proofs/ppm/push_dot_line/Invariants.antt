use Rattle.std.proofs.Common.{◌≡◌, ◌++◌}
use Rattle.std.specs.List.{flat_map}
use Rattle.page_picture.specs.Dots.{dot_line}
use Rattle.page_picture.specs.Palette.{shares}
use Rattle.page_picture.proofs.ppm.push_dot_line.Given as goal

abbrev pub invariant-loop-point : goal.invariant-loop-point
invariant-loop-point l = l.text.items ≡ l.fn.text.items ++ flat_map (shares l.classic) (dot_line l.side l.colour l.line l.point)
