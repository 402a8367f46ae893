use Rattle.std.proofs.Common.{◌≡◌, ◌≤◌, true}
use Rattle.std.specs.List.{list_all, range_with_len}
use Rattle.font_bdf.specs.Bitmap.{digits_at, drawing_of, is_row}
use Rattle.font_bdf.proofs.bitmap.Bitmap.check_rows.Given as goal

abbrev pub invariant-loop-row : goal.invariant-loop-row
invariant-loop-row l = record {
  good : list_all (λ row. is_row l.self.columns (digits_at (drawing_of l.self) row)) (range_with_len 0 l.row) ≡ true;
  few : l.row ≤ l.self.count;
}
