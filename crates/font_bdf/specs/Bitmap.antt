-- The bitmap of a character, and the pixels that it lights.
use Rattle.std.specs.Prelude.{ℕ, suc, zero, ◌+◌, ◌-◌, ◌*◌, ◌/◌, ◌%◌, ◌&&◌, ◌||◌, ◌==◌, nat_le, nat_lt, not, Bool, false, List, [], length, slice_index, slice_index_or, map, if◌then◌else◌, ℤ, pos, negsuc, ◌+ℤ◌, ◌-ℤ◌}
use Rattle.std.specs.Int.{bit_at}
use Rattle.std.specs.List.{list_all, range_with_len}
use Rattle.font_bdf.specs.declared.bitmap.Bitmap.{Bitmap}
use Rattle.font_bdf.specs.declared.numbers.PixelBox.{PixelBox}
use Rattle.font_bdf.specs.Lines.{word_at}
use Rattle.octet_text.specs.Digits.{is_digit}
use Rattle.font_bdf.specs.Parts.{texts}

-- a bitmap in a cell: the box of the font, how many rows the cells have fewer and more than it at
-- the top, where the cell begins, counted in columns from the origin, the box of the character, its
-- columns and rows as counts, and the lines of its rows from the top (BDF, BITMAP)
pub record Drawing : Type 0 where
  pub whole : PixelBox
  pub above : ℕ
  pub added : ℕ
  pub left : ℤ
  pub pixels : PixelBox
  pub columns : ℕ
  pub count : ℕ
  pub rows : List (List ℕ)

-- the bitmap, wherever its lines stand in memory (own)
abbrev pub drawing_of : Bitmap → Drawing
drawing_of bitmap = record {
  whole = bitmap.font.whole;
  above = bitmap.font.above;
  added = bitmap.font.added;
  left = bitmap.left;
  pixels = bitmap.pixels;
  columns = bitmap.columns;
  count = bitmap.count;
  rows = texts bitmap.rows.now;
}

-- the digits of a row, which are the first word of its line (BDF, BITMAP)
abbrev pub digits_at : Drawing → ℕ → List ℕ
digits_at drawing row = word_at 0 (slice_index_or drawing.rows row [])

-- whether an octet is a hexadecimal digit, in either case (BDF, BITMAP)
abbrev pub is_hex : ℕ → Bool
is_hex c = is_digit c || ((nat_le 65 c && nat_le c 70) || (nat_le 97 c && nat_le c 102))

-- what a hexadecimal digit is worth (own)
abbrev pub hex_value : ℕ → ℕ
hex_value c = if nat_le c 57 then c - 48 else if nat_le c 70 then c - 55 else c - 87

-- whether the bit of a column is set: each digit has those of four columns, the highest first (BDF, BITMAP)
unfoldable pub is_bit : List ℕ → ℕ → Bool
is_bit digits column = bit_at (hex_value (slice_index digits (column / 4))) (3 - column % 4) == 1

-- how many digits the row of a box has: two for each eight columns or part of them (BDF, BITMAP)
abbrev pub digits_of : ℕ → ℕ
digits_of columns = 2 * ((columns + 7) / 8)

-- whether these are the digits of a row (BDF, BITMAP)
unfoldable pub is_row : ℕ → List ℕ → Bool
is_row columns digits = length digits == digits_of columns && list_all is_hex digits

-- the column of the cell in which a column of the box stands (BDF, BBX)
abbrev pub column_of : Drawing → ℕ → ℤ
column_of drawing column = (drawing.pixels.x -ℤ drawing.left) +ℤ pos column

-- the row of the cell in which the upper row of the box stands: the cell begins at the upper edge of the box of the font, but for the
-- rows that are taken off or added there (BDF, BBX and FONTBOUNDINGBOX)
abbrev pub top_of : Drawing → ℤ
top_of drawing =
    ((drawing.whole.y +ℤ drawing.whole.height) +ℤ (pos drawing.added -ℤ pos drawing.above)) -ℤ (drawing.pixels.y +ℤ drawing.pixels.height)

-- the row of the cell in which a row of the box stands (BDF, BBX and FONTBOUNDINGBOX)
abbrev pub row_of : Drawing → ℕ → ℤ
row_of drawing row = top_of drawing +ℤ pos row

-- whether a number is at least 0 and below a limit (own)
abbrev pub is_below : ℕ → ℤ → Bool
is_below limit (pos n) = nat_lt n limit
is_below limit (negsuc n) = false

-- whether a pixel of the box stands in the cell (own)
unfoldable pub is_inside : Drawing → ℕ → ℕ → ℕ → ℕ → Bool
is_inside drawing width height column row = is_below width (column_of drawing column) && is_below height (row_of drawing row)

-- whether a pixel of the box is dark or stands in the cell (own)
abbrev pub is_fine : Drawing → ℕ → ℕ → ℕ → ℕ → Bool
is_fine drawing width height row column = not (is_bit (digits_at drawing row) column) || is_inside drawing width height column row

-- whether each line is a row of the box, and there is one for each (BDF, BITMAP)
unfoldable pub is_whole : Drawing → Bool
is_whole drawing =
    length drawing.rows == drawing.count
    && list_all (λ row. is_row drawing.columns (digits_at drawing row)) (range_with_len 0 (length drawing.rows))

-- whether a row of the box lights no pixel outside the cell (own)
abbrev pub is_fine_row : Drawing → ℕ → ℕ → ℕ → Bool
is_fine_row drawing width height row = list_all (is_fine drawing width height row) (range_with_len 0 drawing.columns)

-- whether the bitmap lights no pixel outside the cell (own)
unfoldable pub is_within : Drawing → ℕ → ℕ → Bool
is_within drawing width height = list_all (is_fine_row drawing width height) (range_with_len 0 drawing.count)

-- whether the bit of a place in the box is set; outside it no bit is (BDF, BITMAP)
unfoldable pub is_set_at : Drawing → ℤ → ℤ → Bool
is_set_at drawing (pos column) (pos row) =
    nat_lt column drawing.columns && (nat_lt row (length drawing.rows) && is_bit (digits_at drawing row) column)
is_set_at drawing (pos column) (negsuc row) = false
is_set_at drawing (negsuc column) (pos row) = false
is_set_at drawing (negsuc column) (negsuc row) = false

-- whether the pixel of a column and a row of the cell is lit: it lies in the box, and the bit of its row is set (BDF, BITMAP)
unfoldable pub is_lit : Drawing → ℕ → ℕ → Bool
is_lit drawing column row = is_set_at drawing ((pos column +ℤ drawing.left) -ℤ drawing.pixels.x) (pos row -ℤ top_of drawing)

-- whether the pixel at a place among those of the cell is lit: they stand in rows from the top, each from the left (own)
abbrev pub is_lit_at : Drawing → ℕ → ℕ → ℕ → Bool
is_lit_at drawing width height place = nat_lt place (width * height) && is_lit drawing (place % width) (place / width)

-- the number that some pixels write, each as a bit, the first as the highest (own)
unfoldable pub bits_value : (ℕ → Bool) → ℕ → ℕ → ℕ
bits_value lit first zero = 0
bits_value lit first (suc n) = 2 * bits_value lit first n + (if lit (first + n) then 1 else 0)

-- the octets of pixels, eight an octet; the spare bits of the last are 0 (own)
unfoldable pub octets_of : Drawing → ℕ → ℕ → List ℕ
octets_of drawing width height =
    map (λ place. bits_value (is_lit_at drawing width height) (8 * place) 8) (range_with_len 0 ((width * height + 7) / 8))
