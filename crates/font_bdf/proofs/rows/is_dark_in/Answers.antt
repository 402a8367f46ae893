use Rattle.std.proofs.Common.{ℕ, ◌+◌, ◌*◌, sym, ◌∙◌}
use Rattle.std.specs.Prelude.{not}
use Rattle.sign_font.specs.Cell.{is_set}
use Rattle.font_bdf.proofs.BitmapLemmas.{all_more, all_stops}
use Rattle.font_bdf.proofs.rows.is_dark_in.Goals as goal

pub returns-then-not-is_dark_at : goal.returns-then-not-is_dark_at
returns-then-not-is_dark_at c =
    let cell = c.args.cell.now in
    sym (all_stops (λ (column : ℕ). not (is_set cell.bits.items (c.args.row * cell.width + column))) cell.width c.loop-column.column c.loop-column-test.true (sym c.is_dark_at.ensures ∙ c.if-not-is_dark_at.true))

pub loop-column-preserved : goal.loop-column-preserved
loop-column-preserved c =
    let cell = c.args.cell.now in
    all_more (λ (column : ℕ). not (is_set cell.bits.items (c.args.row * cell.width + column))) c.loop-column.column c.loop-column.invariant (sym c.is_dark_at.ensures ∙ c.if-not-is_dark_at.false)
