use Rattle.std.proofs.Common.{◌≡◌, true}
use Rattle.std.specs.List.{list_all, range_with_len}
use Rattle.font_bdf.specs.Bitmap.{drawing_of, is_fine}
use Rattle.font_bdf.proofs.bitmap.Bitmap.outside_in.Given as goal

abbrev pub invariant-loop-column : goal.invariant-loop-column
invariant-loop-column l = list_all (is_fine (drawing_of l.self) l.width l.height l.row) (range_with_len 0 l.column) ≡ true
