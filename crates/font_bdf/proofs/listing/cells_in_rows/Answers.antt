use Rattle.std.proofs.Common.{ℕ, List, [], map, sym, ap, ◌∙◌, Bor}
use Rattle.sign_font.specs.Sign.{CellData, cell_of}
use Rattle.font_bdf.specs.Listed.{cells_in_rows}
use Rattle.font_bdf.specs.Parts.{texts}
use Rattle.font_bdf.proofs.ListedLemmas.{front_none, row_fails, row_more, row_passes, rows_end, with_front}
use Rattle.font_bdf.proofs.listing.cells_in_rows.Goals as goal

-- what stands where no row is
abbrev nothing : Bor (List ℕ)
nothing = record { ref_ptr = (0, 0); now = [] }

pub loop-row-init : goal.loop-row-init
loop-row-init c =
    let all = cells_in_rows c.args.height c.args.columns (texts c.args.rows.now) in
    ap (λ (cells : List CellData). with_front cells all) (ap (map cell_of) c.new-cells.ensures.items) ∙ front_none all

pub loop-row-preserved-then-column_named-eq0 : goal.loop-row-preserved-then-column_named-eq0
loop-row-preserved-then-column_named-eq0 c =
    row_passes c.args.height c.args.columns c.args.rows.now c.loop-row.row-index nothing (map cell_of c.loop-row.cells.items) _ c.loop-row-test.true
    (sym c.column_named.ensures.column ∙ c.if-column_named-eq0.true) c.loop-row.invariant

pub returns-in-Err : goal.returns-in-Err
returns-in-Err c = λ differs.
    row_fails c.args.height c.args.columns c.args.rows.now c.loop-row.row-index nothing (map cell_of c.loop-row.cells.items) _ c.loop-row-test.true
    (λ none. c.if-column_named-eq0.false (c.column_named.ensures.column ∙ none)) (c.in-Err.ensures differs) c.loop-row.invariant

pub loop-row-preserved : goal.loop-row-preserved
loop-row-preserved c =
    row_more c.args.height c.args.columns c.args.rows.now c.loop-row.row-index nothing (map cell_of c.loop-row.cells.items) _ (cell_of c.in-Ok.cell)
    (map cell_of c.push_cell.new.cells.items) c.loop-row-test.true (λ none. c.if-column_named-eq0.false (c.column_named.ensures.column ∙ none)) c.in-Ok.ensures
    c.in-Ok-push_cell.ensures.pushed c.loop-row.invariant

pub returns : goal.returns
returns c =
    rows_end c.args.height c.args.columns c.args.rows.now c.loop-row.row-index nothing (map cell_of c.loop-row.cells.items) _ c.loop-row-test.false c.loop-row.invariant
