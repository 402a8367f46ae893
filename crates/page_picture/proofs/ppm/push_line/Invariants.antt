use Rattle.std.proofs.Common.{◌≡◌, ◌++◌}
use Rattle.std.specs.List.{flat_map}
use Rattle.page_picture.specs.Colours.{colour_at}
use Rattle.page_picture.specs.Dots.{line_points}
use Rattle.page_picture.specs.Palette.{shares}
use Rattle.page_picture.proofs.ppm.push_line.Given as goal

abbrev pub invariant-loop-column : goal.invariant-loop-column
invariant-loop-column l = l.text.items ≡ l.fn.text.items ++ flat_map (shares l.classic) (line_points l.side (colour_at l.colours) l.row l.line l.column)
