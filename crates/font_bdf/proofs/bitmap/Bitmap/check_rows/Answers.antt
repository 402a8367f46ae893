use Rattle.std.proofs.Common.{◌<◌, ℕ, List, Bor, length, sym, ◌∙◌, arith}
use Rattle.std.specs.Prelude.{◌==◌}
use Rattle.std.specs.List.{list_all, range_with_len}
use Rattle.std.proofs.lemmas.List.{length-map}
use Rattle.font_bdf.specs.Bitmap.{digits_at, drawing_of, is_row, is_whole}
use Rattle.font_bdf.specs.Parts.{texts}
use Rattle.font_bdf.proofs.BitmapLemmas.{all_more, all_stops, and_fails}
use Rattle.font_bdf.proofs.bitmap.Bitmap.check_rows.Goals as goal

pub returns-then-not-is_row_at : goal.returns-then-not-is_row_at
unfolding is_whole
returns-then-not-is_row_at c =
    let test = λ (row : ℕ). is_row c.args.self.now.columns (digits_at (drawing_of c.args.self.now) row) in
    let rows = c.args.self.now.rows.now in
    let below : c.loop-row.row < length (texts rows) = omega (arith, c.loop-row-test.true, length-map {A = Bor (List ℕ)} {B = List ℕ} rows (λ line. line.now)) in
    and_fails (length (texts rows) == c.args.self.now.count) (list_all test (range_with_len 0 (length (texts rows)))) (all_stops test (length (texts rows)) c.loop-row.row below (sym c.is_row_at.ensures ∙ c.if-not-is_row_at.true))

pub loop-row-preserved : goal.loop-row-preserved
loop-row-preserved c = record {
  good = all_more (λ (row : ℕ). is_row c.args.self.now.columns (digits_at (drawing_of c.args.self.now) row)) c.loop-row.row c.loop-row.invariant.good (sym c.is_row_at.ensures ∙ c.if-not-is_row_at.false);
  few = omega (arith, c.if-row-from.false, c.from.ensures);
}
