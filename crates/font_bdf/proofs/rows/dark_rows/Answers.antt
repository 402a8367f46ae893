use Rattle.std.proofs.Common.{◌≡◌, ℕ, ◌+◌, ◌-◌, false, map, sym, ap, ◌∙◌, arith}
use Rattle.std.specs.Prelude.{if◌then◌else◌}
use Rattle.std.specs.List.{list_all, range_with_len}
use Rattle.sign_font.specs.Sign.{cell_of}
use Rattle.font_bdf.specs.Rows.{dark_rows, is_dark_row}
use Rattle.font_bdf.proofs.BitmapLemmas.{all_more}
use Rattle.font_bdf.proofs.RowLemmas.{prefix_all, prefix_stops}
use Rattle.font_bdf.proofs.rows.dark_rows.Goals as goal

pub returns-then-not-is_dark_row : goal.returns-then-not-is_dark_row
unfolding dark_rows
returns-then-not-is_dark_row c =
    let cells = map cell_of c.args.cells.now in
    let test = λ (row : ℕ). is_dark_row cells (if c.args.below then (c.args.height - 1) - row else row) in
    let row = c.loop-row.row in
    let here : test row ≡ false = ap (is_dark_row cells) (sym c.row_from.ensures.row) ∙ sym c.is_dark_row.ensures ∙ c.if-not-is_dark_row.true in
    sym (prefix_stops test 0 c.args.height row c.loop-row.invariant c.loop-row-test.true (ap test (let e : 0 + row ≡ row = omega arith in e) ∙ here))

pub loop-row-preserved : goal.loop-row-preserved
loop-row-preserved c =
    let cells = map cell_of c.args.cells.now in
    let test = λ (row : ℕ). is_dark_row cells (if c.args.below then (c.args.height - 1) - row else row) in
    all_more test c.loop-row.row c.loop-row.invariant (ap (is_dark_row cells) (sym c.row_from.ensures.row) ∙ sym c.is_dark_row.ensures ∙ c.if-not-is_dark_row.false)

pub returns : goal.returns
unfolding dark_rows
returns c =
    let cells = map cell_of c.args.cells.now in
    let test = λ (row : ℕ). is_dark_row cells (if c.args.below then (c.args.height - 1) - row else row) in
    let end : c.loop-row.row ≡ c.args.height = omega (arith, c.loop-row-test.false, c.loop-row.auto.row-end) in
    sym (prefix_all test 0 c.args.height (ap (λ (k : ℕ). list_all test (range_with_len 0 k)) (sym end) ∙ c.loop-row.invariant))
