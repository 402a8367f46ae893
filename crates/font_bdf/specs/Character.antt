-- The cell of a character of a font in BDF.
use Rattle.std.specs.Prelude.{ℕ, List, [], ◌∷◌, ◌++◌, if◌then◌else◌, Option, None, Some, is_some, ℤ, pos, codes}
use Rattle.std.specs.List.{position}
use Rattle.sign_font.specs.Sign.{CellData}
use Rattle.font_bdf.specs.declared.rows.FontBox.{FontBox}
use Rattle.font_bdf.specs.declared.numbers.PixelBox.{PixelBox}
use Rattle.font_bdf.specs.declared.setting.FontSetting.{FontSetting}
use Rattle.font_bdf.specs.Bitmap.{Drawing, is_whole}
use Rattle.font_bdf.specs.Lines.{◌>>=◌, after, before, begins}
use Rattle.font_bdf.specs.Numbers.{box_in, number_in, within}
use Rattle.font_bdf.specs.Chosen.{chosen, width_of}
use Rattle.font_bdf.specs.Placed.{placed}

-- the advance of a character whose header these lines are: its own, or that of the head of the font (BDF, DWIDTH)
unfoldable pub advance_in : FontBox → List (List ℕ) → Option ℤ
advance_in font header = if is_some (position (begins (codes "DWIDTH")) header) then number_in (codes "DWIDTH") header else font.advance

-- the columns and the rows of the box of a character, each 0 to 255 (BDF, BBX)
abbrev pub size_of : PixelBox → Option (ℕ × ℕ)
size_of pixels = do
  columns ← within 0 255 pixels.width
  rows ← within 0 255 pixels.height
  Some (columns, rows)

-- a bitmap in a cell that begins at the origin (BDF, BBX)
abbrev pub drawing_with : FontBox → PixelBox → ℕ × ℕ → List (List ℕ) → Drawing
drawing_with font pixels size rows = record {
  whole = font.whole;
  above = font.above;
  added = font.added;
  left = pos 0;
  pixels = pixels;
  columns = size.0;
  count = size.1;
  rows = rows;
}

-- a bitmap whose lines are the rows of its box (BDF, BITMAP)
abbrev pub if_whole : Drawing → Option Drawing
if_whole drawing = if is_whole drawing then Some drawing else None

-- the bitmap of a character (BDF, BBX and BITMAP)
unfoldable pub drawing_in : FontBox → List (List ℕ) → List (List ℕ) → Option Drawing
drawing_in font header rows = do
  pixels ← box_in (codes "BBX") header
  size ← size_of pixels
  if_whole (drawing_with font pixels size rows)

-- the cells of a character of this number (BDF, DWIDTH and BBX)
unfoldable pub cells_in : FontSetting → FontBox → ℕ → List (List ℕ) → List (List ℕ) → Option (List CellData)
cells_in setting font number header rows = do
  advance ← advance_in font header
  drawing ← drawing_in font header rows
  placed setting.outside drawing number (width_of setting advance) font.height

-- the cells of a character where its number is taken, and none where it is not (own)
abbrev pub cells_if : FontSetting → FontBox → List (List ℕ) → List (List ℕ) → Option ℕ → Option (List CellData)
cells_if setting font header rows None = Some []
cells_if setting font header rows (Some number) = cells_in setting font number header rows

-- the cells of the lines of a character, which end at ENDCHAR; its numbers stand before BITMAP, and its rows after it (BDF)
unfoldable pub cells_of_block : FontSetting → FontBox → List (List ℕ) → Option (List CellData)
cells_of_block setting font block = do
  character ← before (codes "ENDCHAR") block
  header ← before (codes "BITMAP") character
  rows ← after (codes "BITMAP") character
  number ← number_in (codes "ENCODING") header
  cells_if setting font header rows (chosen setting number)

-- the cells of characters, one after the other (own)
unfoldable pub cells_of : FontSetting → FontBox → List (List (List ℕ)) → Option (List CellData)
cells_of setting font [] = Some []
cells_of setting font (block ∷ blocks) = do
  first ← cells_of_block setting font block
  others ← cells_of setting font blocks
  Some (first ++ others)
