use Rattle.std.proofs.Common.{sym, ◌∙◌}
use Rattle.font_bdf.proofs.RowLemmas.{dark_cells}
use Rattle.font_bdf.proofs.rows.is_dark_row.Goals as goal

pub returns : goal.returns
returns c = c.are_dark_in.ensures ∙ sym (dark_cells c.args.cells.now c.args.row)
