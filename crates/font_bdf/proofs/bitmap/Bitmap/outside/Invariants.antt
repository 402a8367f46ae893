use Rattle.std.proofs.Common.{◌≡◌, true}
use Rattle.std.specs.List.{list_all, range_with_len}
use Rattle.font_bdf.specs.Bitmap.{drawing_of, is_fine_row}
use Rattle.font_bdf.proofs.bitmap.Bitmap.outside.Given as goal

abbrev pub invariant-loop-row : goal.invariant-loop-row
invariant-loop-row l = list_all (is_fine_row (drawing_of l.self) l.width l.height) (range_with_len 0 l.row) ≡ true
