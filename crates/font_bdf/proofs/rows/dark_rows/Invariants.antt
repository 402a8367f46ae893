use Rattle.std.proofs.Common.{◌≡◌, ◌-◌, true, map}
use Rattle.std.specs.Prelude.{if◌then◌else◌}
use Rattle.std.specs.List.{list_all, range_with_len}
use Rattle.sign_font.specs.Sign.{cell_of}
use Rattle.font_bdf.specs.Rows.{is_dark_row}
use Rattle.font_bdf.proofs.rows.dark_rows.Given as goal

abbrev pub invariant-loop-row : goal.invariant-loop-row
invariant-loop-row l =
    list_all (λ row. is_dark_row (map cell_of l.cells) (if l.below then (l.height - 1) - row else row)) (range_with_len 0 l.row) ≡ true
