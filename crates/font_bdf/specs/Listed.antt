-- A font in a table of NTCIP 1203, as makers keep it: rows of fields, with commas between them.
use Rattle.std.specs.Prelude.{ℕ, ◌+◌, ◌*◌, ◌/◌, ◌==◌, ◌&&◌, ◌||◌, nat_le, nat_lt, not, Bool, List, [], ◌∷◌, length, slice_index_or, drop, if◌then◌else◌, Option, None, Some, codes}
use Rattle.std.specs.List.{flat_map, position, prefix_len, range_with_len}
use Rattle.std.specs.Str.{bytes_eq}
use Rattle.hex.specs.Hex.{decode_of}
use Rattle.sign_file.specs.Keys.{if_decoded}
use Rattle.sign_font.specs.Sign.{CellData, FontData}
use Rattle.font_bdf.specs.declared.listed.Columns.{Columns}
use Rattle.font_bdf.specs.declared.listed.Head.{Head}
use Rattle.font_bdf.specs.Font.{or_else}
use Rattle.font_bdf.specs.Lines.{◌>>=◌, lines, word_at}
use Rattle.font_bdf.specs.Numbers.{number_at, within}

-- whether an octet of a table counts: a tab and a line feed, octets 9 and 10, and each sign of ASCII but the quotation mark, octet 34 (own)
abbrev pub is_counted : ℕ → Bool
is_counted octet = octet == 9 || (octet == 10 || (nat_le 33 octet && (nat_le octet 126 && not (octet == 34))))

-- what an octet that counts stands for: a comma and a semicolon, octets 44 and 59, part fields as a tab does, octet 9 (own)
abbrev pub parting : ℕ → ℕ
parting octet = if octet == 44 || octet == 59 then 9 else octet

-- what an octet of a table is read as (own)
unfoldable pub counted : ℕ → List ℕ
counted octet = if is_counted octet then parting octet ∷ [] else []

-- the rows of a table, one on each line; the fields of a row are its words, so that an empty field doesn't count (own)
unfoldable pub rows_of : List ℕ → List (List ℕ)
rows_of octets = lines (flat_map counted octets)

-- which of the first 16 fields of a row this one is, counted from 0, and 16 where it is none of them. Behind the last field all are
-- empty, so the empty field tells how many fields there are (own)
unfoldable pub column_named : List ℕ → List ℕ → ℕ
column_named name row = prefix_len (λ column. not (bytes_eq (word_at column row) name)) (range_with_len 0 16)

-- how many fields a row has, 16 where it has more (own)
abbrev pub count_of : List ℕ → ℕ
count_of row = column_named [] row

-- whether a row has a name among its first 16 fields (own)
unfoldable pub has_name : List ℕ → List ℕ → Bool
has_name name row = nat_lt (column_named name row) 16

-- the row at a place, empty where there is none (own)
abbrev pub row_at : List (List ℕ) → ℕ → List ℕ
row_at rows place = slice_index_or rows place []

-- the number in a column of a row, from a lowest to a highest (own)
abbrev pub number_in_row : ℕ → ℕ → ℕ → List ℕ → Option ℕ
number_in_row low high column row = number_at column row >>= within low high

-- the number in a column of the row below a heading, where that has as many fields (own)
abbrev pub number_below : ℕ → ℕ → ℕ → List ℕ → List ℕ → Option ℕ
number_below low high column heading row = if count_of heading == count_of row then number_in_row low high column row else None

-- the number of a name, which stands beside it or, where no such number does, below it (own)
abbrev pub value_at : ℕ → ℕ → List ℕ → List ℕ → List ℕ → Option ℕ
value_at low high name heading row =
    or_else (number_in_row low high (column_named name heading + 1) heading) (number_below low high (column_named name heading) heading row)

-- the number of a name in the first row that has the name (own)
unfoldable pub value_of : List ℕ → ℕ → ℕ → List (List ℕ) → Option ℕ
value_of name low high rows =
    position (has_name name) rows >>= λ place. value_at low high name (row_at rows place) (row_at rows (place + 1))

-- the numbers of a font (NTCIP 1203 v03, object fontTable)
unfoldable pub head_in : List (List ℕ) → Option Head
head_in rows = do
  number ← value_of (codes "fontNumber") 1 255 rows
  height ← value_of (codes "fontHeight") 1 64 rows
  char_spacing ← value_of (codes "fontCharSpacing") 0 255 rows
  line_spacing ← value_of (codes "fontLineSpacing") 0 255 rows
  version ← value_of (codes "fontVersionID") 0 65535 rows
  Some (record { number = number; height = height; char_spacing = char_spacing; line_spacing = line_spacing; version = version })

-- the column of a name in a heading, where that has it (own)
unfoldable pub column_in : List ℕ → List ℕ → Option ℕ
column_in name heading = if has_name name heading then Some (column_named name heading) else None

-- the columns of the characters, by their heading (NTCIP 1203 v03, object characterTable)
unfoldable pub columns_in : List ℕ → Option Columns
columns_in heading = do
  number ← column_in (codes "characterNumber") heading
  width ← column_in (codes "characterWidth") heading
  bitmap ← column_in (codes "characterBitmap") heading
  Some (record { number = number; width = width; bitmap = bitmap; count = count_of heading })

-- the octets of a bitmap, two hexadecimal digits for each (NTCIP 1203 v03, object characterBitmap)
abbrev pub octets_in : List ℕ → Option (List ℕ)
octets_in digits = if_decoded (decode_of digits)

-- a character, where its row has as many fields as the heading, and the bitmap the octets that its pixels need (own)
abbrev pub whole_cell : Columns → ℕ → List ℕ → CellData → Option CellData
whole_cell columns height row cell =
    if count_of row == columns.count && length cell.bits == (height * cell.width + 7) / 8 then Some cell else None

-- the character of a row, of so many rows of pixels: the row has as many fields as the heading, and the bitmap the octets that its
-- pixels need (NTCIP 1203 v03, objects characterNumber, characterWidth and characterBitmap)
unfoldable pub cell_in_row : ℕ → Columns → List ℕ → Option CellData
cell_in_row height columns row = do
  number ← number_in_row 1 65535 columns.number row
  width ← number_in_row 1 64 columns.width row
  bits ← octets_in (word_at columns.bitmap row)
  whole_cell columns height row (record { number = number; width = width; bits = bits })

-- the characters of rows, one in each row that has a field (own)
unfoldable pub cells_in_rows : ℕ → Columns → List (List ℕ) → Option (List CellData)
cells_in_rows height columns [] = Some []
cells_in_rows height columns (row ∷ rows) =
    if count_of row == 0 then cells_in_rows height columns rows
    else (cell_in_row height columns row >>= λ cell. cells_in_rows height columns rows >>= λ cells. Some (cell ∷ cells))

-- the characters of a font of so many rows of pixels: those in the rows after the first one that has the name of their numbers
-- (NTCIP 1203 v03, object characterTable)
unfoldable pub cells_listed : ℕ → List (List ℕ) → Option (List CellData)
cells_listed height rows = do
  place ← position (has_name (codes "characterNumber")) rows
  columns ← columns_in (row_at rows place)
  cells_in_rows height columns (drop (place + 1) rows)

-- the font of these numbers, with these characters, where there are some (own)
abbrev pub font_with_head : Head → List CellData → Option FontData
font_with_head head [] = None
font_with_head head (cell ∷ cells) = Some (record {
  number = head.number;
  version = head.version;
  height = head.height;
  char_spacing = head.char_spacing;
  line_spacing = head.line_spacing;
  cells = cell ∷ cells;
})

-- the font in the rows of a table, where there is one (NTCIP 1203 v03, objects fontTable and characterTable)
unfoldable pub font_in : List (List ℕ) → Option FontData
font_in rows = do
  head ← head_in rows
  cells ← cells_listed head.height rows
  font_with_head head cells

-- the font that octets are as a table of NTCIP 1203 (own)
abbrev pub font_listed : List ℕ → Option FontData
font_listed octets = font_in (rows_of octets)
