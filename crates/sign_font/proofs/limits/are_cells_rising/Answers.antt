use Rattle.std.proofs.Common.{◌∙◌, sym}
use Rattle.sign_font.specs.declared.parts.CellPart.{CellPart}
use Rattle.sign_font.proofs.RisingLemmas.{rising_more, rising_stops}
use Rattle.sign_font.proofs.limits.are_cells_rising.Goals as goal

pub loop-cell-preserved : goal.loop-cell-preserved
loop-cell-preserved c =
    let at = c.loop-cell in
    at.invariant ∙ rising_more (λ (x : CellPart). x.number) c.args.cells.now at.cell-index at.last c.cell-item.result c.loop-cell-test.true c.cell-item.is c.if-cell-last.false

pub returns-then-cell-last : goal.returns-then-cell-last
returns-then-cell-last c =
    let at = c.loop-cell in
    sym (at.invariant ∙ rising_stops (λ (x : CellPart). x.number) c.args.cells.now at.cell-index at.last c.cell-item.result c.loop-cell-test.true c.cell-item.is c.if-cell-last.true)
