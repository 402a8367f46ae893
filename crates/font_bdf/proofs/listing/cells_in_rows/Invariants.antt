use Rattle.std.proofs.Common.{◌≡◌, drop, map}
use Rattle.sign_font.specs.Sign.{cell_of}
use Rattle.font_bdf.specs.Listed.{cells_in_rows}
use Rattle.font_bdf.specs.Parts.{texts}
use Rattle.font_bdf.proofs.ListedLemmas.{with_front}
use Rattle.font_bdf.proofs.listing.cells_in_rows.Given as goal

abbrev pub invariant-loop-row : goal.invariant-loop-row
invariant-loop-row l =
    with_front (map cell_of l.cells.items) (cells_in_rows l.height l.columns (drop l.row-index (texts l.rows)))
    ≡ cells_in_rows l.height l.columns (texts l.rows)
