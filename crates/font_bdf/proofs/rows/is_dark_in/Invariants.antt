use Rattle.std.proofs.Common.{◌≡◌, ◌+◌, ◌*◌, true}
use Rattle.std.specs.Prelude.{not}
use Rattle.std.specs.List.{list_all, range_with_len}
use Rattle.sign_font.specs.Cell.{is_set}
use Rattle.font_bdf.proofs.rows.is_dark_in.Given as goal

abbrev pub invariant-loop-column : goal.invariant-loop-column
invariant-loop-column l = list_all (λ column. not (is_set l.cell.bits.items (l.row * l.cell.width + column))) (range_with_len 0 l.column) ≡ true
