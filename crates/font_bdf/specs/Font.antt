-- The font that a text in BDF is.
use Rattle.std.specs.Prelude.{ℕ, ◌-◌, ◌/◌, ◌&&◌, nat_le, List, [], ◌∷◌, slice_index_or, if◌then◌else◌, Option, None, Some, codes}
use Rattle.std.specs.List.{slice_split}
use Rattle.std.specs.Option.{option_map}
use Rattle.sign_font.specs.Sign.{CellData, FontData}
use Rattle.font_bdf.specs.declared.rows.FontBox.{FontBox}
use Rattle.font_bdf.specs.declared.setting.FontSetting.{FontSetting}
use Rattle.font_bdf.specs.declared.setting.Outside.TheVariants.{Refuse}
use Rattle.font_bdf.specs.Rows.{without_dark_rows}
use Rattle.font_bdf.specs.Lines.{◌>>=◌, before, begins, lines}
use Rattle.font_bdf.specs.Numbers.{box_in, number_in, within}
use Rattle.font_bdf.specs.Chosen.{spacing_written}
use Rattle.font_bdf.specs.Order.{all_cells, in_order}

-- the box of a font without the rows at its top and at its bottom in which no cell has a pixel, where those are to be taken off (own)
unfoldable pub cropped : FontSetting → FontBox → List (List (List ℕ)) → Option FontBox
cropped setting font blocks = if setting.crop then option_map (without_dark_rows font) (all_cells setting font blocks) else Some font

-- the box of a font with as many rows as are asked for; where that is an odd number more, one more is added below than above (own)
abbrev pub padded : Option ℕ → FontBox → Option FontBox
padded None font = Some font
padded (Some rows) font =
    if nat_le font.height rows then Some (record font { added = (rows - font.height) / 2; height = rows }) else None

-- the box of the cells of a font, 1 to 64 rows high (NTCIP 1203 v03, object fontHeight)
unfoldable pub rows_in : FontSetting → FontBox → List (List (List ℕ)) → Option FontBox
rows_in setting font blocks = do
  some ← cropped setting font blocks
  all ← padded setting.height some
  if nat_le 1 all.height && nat_le all.height 64 then Some all else None

-- the font of cells, by a setting, where there are some (own)
abbrev pub font_with : FontSetting → ℕ → List CellData → Option FontData
font_with setting height [] = None
font_with setting height (cell ∷ cells) = Some (record {
  number = setting.number;
  version = setting.version;
  height = height;
  char_spacing = spacing_written setting;
  line_spacing = setting.line_spacing;
  cells = in_order (cell ∷ cells);
})

-- the box of the head of a font, 1 to 255 rows high, with the advance that stands there (BDF, FONTBOUNDINGBOX and DWIDTH)
unfoldable pub head_of : List (List ℕ) → Option FontBox
head_of head = do
  whole ← box_in (codes "FONTBOUNDINGBOX") head
  height ← within 1 255 whole.height
  Some (record { whole = whole; advance = number_in (codes "DWIDTH") head; above = 0; added = 0; height = height })

-- the font of its head, which has the box of the font, and of its characters (BDF, FONTBOUNDINGBOX)
abbrev pub font_of_parts : FontSetting → List (List (List ℕ)) → Option FontData
font_of_parts setting [] = None
font_of_parts setting (head ∷ blocks) = do
  font ← head_of head
  rows ← rows_in setting font blocks
  cells ← all_cells setting rows blocks
  font_with setting rows.height cells

-- the font of the lines before ENDFONT: the first begins with STARTFONT, and a STARTCHAR begins each character (BDF)
unfoldable pub font_of_lines : FontSetting → List (List ℕ) → Option FontData
font_of_lines setting lines =
    if begins (codes "STARTFONT") (slice_index_or lines 0 []) then font_of_parts setting (slice_split (begins (codes "STARTCHAR")) lines)
    else None

-- the setting with cells one column narrower than their advances, each of which must fit (own)
abbrev pub narrow : FontSetting → FontSetting
narrow setting = record setting { char_spacing = Some 1; outside = Refuse }

-- the first of two, or else the second (own)
abbrev pub or_else : {X : Type 0} → Option X → Option X → Option X
or_else None other = other
or_else (Some x) other = Some x

-- the font of the lines before ENDFONT: where it isn't told by how much cells are narrower, that by one column, or else that by none (own)
unfoldable pub font_spaced : FontSetting → List (List ℕ) → Option FontData
font_spaced setting lines = of setting.char_spacing
  where
    of : Option ℕ → Option FontData
    of None = or_else (font_of_lines (narrow setting) lines) (font_of_lines setting lines)
    of (Some columns) = font_of_lines setting lines

-- the font that octets are, by a setting, where they are one in BDF that a sign can show (BDF)
unfoldable pub font_of_bdf : FontSetting → List ℕ → Option FontData
font_of_bdf setting octets = before (codes "ENDFONT") (lines octets) >>= font_spaced setting
