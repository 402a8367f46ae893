-- A bitmap in the cell of its character.
use Rattle.std.specs.Prelude.{ℕ, List, [], ◌∷◌, if◌then◌else◌, Option, None, Some, ℤ, pos, ◌+ℤ◌, ◌-ℤ◌}
use Rattle.std.specs.Int.{int_max, int_min}
use Rattle.std.specs.Option.{option_map}
use Rattle.sign_font.specs.Sign.{CellData}
use Rattle.font_bdf.specs.declared.setting.Outside.{Outside}
use Rattle.font_bdf.specs.declared.setting.Outside.TheVariants.{Crop, Refuse, Skip, Widen}
use Rattle.font_bdf.specs.Bitmap.{Drawing, is_within, octets_of}
use Rattle.font_bdf.specs.Lines.{◌>>=◌}
use Rattle.font_bdf.specs.Numbers.{within}

-- the columns of a cell of so many rows, where they are 1 to 64 and the bitmap lights no pixel outside (own)
unfoldable pub fitting : Drawing → ℤ → ℕ → Option ℕ
fitting drawing wide height = within 1 64 wide >>= λ width. if is_within drawing width height then Some width else None

-- the cell in which a bitmap is drawn (own)
abbrev pub cell_with : Drawing → ℕ → ℕ → ℕ → CellData
cell_with drawing number height width = record { number = number; width = width; bits = octets_of drawing width height }

-- the bitmap in a cell that begins no further to the right than the box of the character (own)
abbrev pub widened : Drawing → Drawing
widened drawing = record drawing { left = int_min drawing.left drawing.pixels.x }

-- the columns of that cell, which ends no further to the left than the box (own)
abbrev pub wide_of : Drawing → ℤ → ℤ
wide_of drawing wide = int_max (drawing.left +ℤ wide) (drawing.pixels.x +ℤ pos drawing.columns) -ℤ int_min drawing.left drawing.pixels.x

-- the cell of the bitmap in a wider cell, where it fits that (own)
abbrev pub widened_cells : Drawing → ℕ → ℤ → ℕ → Option (List CellData)
widened_cells drawing number wide height =
    option_map (λ width. cell_with (widened drawing) number height width ∷ []) (fitting (widened drawing) (wide_of drawing wide) height)

-- the cell of the bitmap, whatever is lit outside (own)
abbrev pub cropped_cells : Drawing → ℕ → ℤ → ℕ → Option (List CellData)
cropped_cells drawing number wide height = option_map (λ width. cell_with drawing number height width ∷ []) (within 1 64 wide)

-- the cells of a character that doesn't fit its cell: none at all, a wider cell, the same cell without what stands outside, or the font
-- without this character (own)
abbrev pub not_fitting : Outside → Drawing → ℕ → ℤ → ℕ → Option (List CellData)
not_fitting Refuse drawing number wide height = None
not_fitting Widen drawing number wide height = widened_cells drawing number wide height
not_fitting Crop drawing number wide height = cropped_cells drawing number wide height
not_fitting Skip drawing number wide height = Some []

-- the cells of a character: it is taken as it is where it fits its cell (own)
abbrev pub cells_with_width : Outside → Drawing → ℕ → ℤ → ℕ → Option ℕ → Option (List CellData)
cells_with_width outside drawing number wide height (Some width) = Some (cell_with drawing number height width ∷ [])
cells_with_width outside drawing number wide height None = not_fitting outside drawing number wide height

-- the cells of a character of this number, each as high as those of the font (own)
unfoldable pub placed : Outside → Drawing → ℕ → ℤ → ℕ → Option (List CellData)
placed outside drawing number wide height = cells_with_width outside drawing number wide height (fitting drawing wide height)
