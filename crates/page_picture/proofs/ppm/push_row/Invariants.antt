use Rattle.std.proofs.Common.{◌≡◌, ◌++◌}
use Rattle.std.specs.List.{flat_map}
use Rattle.page_picture.specs.Colours.{colour_at}
use Rattle.page_picture.specs.Dots.{row_points}
use Rattle.page_picture.specs.Palette.{shares}
use Rattle.page_picture.proofs.ppm.push_row.Given as goal

abbrev pub invariant-loop-line : goal.invariant-loop-line
invariant-loop-line l = l.text.items ≡ l.fn.text.items ++ flat_map (shares l.classic) (row_points l.side (colour_at l.colours) l.colours.width l.row l.line)
