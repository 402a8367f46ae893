-- The rows of a font in which no cell has a pixel.
use Rattle.std.specs.Prelude.{ℕ, ◌+◌, ◌-◌, ◌*◌, not, Bool, true, false, List, if◌then◌else◌}
use Rattle.std.specs.List.{list_all, prefix_len, range_with_len}
use Rattle.sign_font.specs.Cell.{is_set}
use Rattle.sign_font.specs.Sign.{CellData}
use Rattle.font_bdf.specs.declared.rows.FontBox.{FontBox}

-- whether a cell has no pixel in a row: the rows stand in its bits from the top, each from the left
-- (NTCIP 1203 v03, object characterBitmap)
abbrev pub is_dark_in : CellData → ℕ → Bool
is_dark_in cell row = list_all (λ column. not (is_set cell.bits (row * cell.width + column))) (range_with_len 0 cell.width)

-- whether no cell has a pixel in a row (own)
abbrev pub is_dark_row : List CellData → ℕ → Bool
is_dark_row cells row = list_all (λ cell. is_dark_in cell row) cells

-- how many rows of so many have no pixel, before one that has: from the top, or from the bottom (own)
unfoldable pub dark_rows : List CellData → ℕ → Bool → ℕ
dark_rows cells height below =
    prefix_len (λ row. is_dark_row cells (if below then (height - 1) - row else row)) (range_with_len 0 height)

-- the box of a font without the rows at its top and at its bottom in which no cell has a pixel; none is left where no row has one (own)
abbrev pub without_dark_rows : FontBox → List CellData → FontBox
without_dark_rows font cells = record font {
  above = dark_rows cells font.height false;
  height = (font.height - dark_rows cells font.height false) - dark_rows cells font.height true;
}
