use Rattle.std.proofs.Common.{◌≡◌, ℕ, ◌+◌, false, sym, ap, ◌∙◌, arith}
use Rattle.std.specs.Prelude.{not}
use Rattle.std.specs.List.{list_all, range_with_len}
use Rattle.std.specs.Str.{bytes_eq}
use Rattle.font_bdf.specs.Lines.{word_at}
use Rattle.font_bdf.specs.Listed.{column_named}
use Rattle.font_bdf.proofs.BitmapLemmas.{all_more}
use Rattle.font_bdf.proofs.RowLemmas.{prefix_all, prefix_stops}
use Rattle.font_bdf.proofs.listed.column_named.Goals as goal

pub returns-then-is_field-clause-column : goal.returns-then-is_field-clause-column
unfolding column_named
returns-then-is_field-clause-column c =
    let test = λ (column : ℕ). not (bytes_eq (word_at column c.args.row.now) c.args.name.now) in
    let column = c.loop-column.column in
    let here : test column ≡ false = ap not (sym c.is_field.ensures ∙ c.if-is_field.true) in
    sym (prefix_stops test 0 16 column c.loop-column.invariant c.loop-column-test.true (ap test (let e : 0 + column ≡ column = omega arith in e) ∙ here))

pub loop-column-preserved : goal.loop-column-preserved
loop-column-preserved c =
    let test = λ (column : ℕ). not (bytes_eq (word_at column c.args.row.now) c.args.name.now) in
    all_more test c.loop-column.column c.loop-column.invariant (ap not (sym c.is_field.ensures ∙ c.if-is_field.false))

pub returns-clause-column : goal.returns-clause-column
unfolding column_named
returns-clause-column c =
    let test = λ (column : ℕ). not (bytes_eq (word_at column c.args.row.now) c.args.name.now) in
    let end : c.loop-column.column ≡ 16 = omega (arith, c.loop-column-test.false, c.loop-column.auto.column-end) in
    sym (prefix_all test 0 16 (ap (λ (k : ℕ). list_all test (range_with_len 0 k)) (sym end) ∙ c.loop-column.invariant))
