use Rattle.std.proofs.Common.{◌≡◌, ◌++◌}
use Rattle.std.specs.List.{flat_map}
use Rattle.page_picture.specs.Colours.{colour_at}
use Rattle.page_picture.specs.Dots.{dots}
use Rattle.page_picture.specs.Palette.{shares}
use Rattle.page_picture.proofs.ppm.push_rows.Given as goal

abbrev pub invariant-loop-row : goal.invariant-loop-row
invariant-loop-row l = l.text.items ≡ l.fn.text.items ++ flat_map (shares l.classic) (dots l.side (colour_at l.colours) l.colours.width l.row)
