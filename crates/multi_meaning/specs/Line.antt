-- The heights and widths of lines, and the gaps between them (NTCIP 1203 v03, MULTI and group fontDefinition).
use Rattle.std.specs.Prelude.{ℕ, ◌+◌, ◌/◌, List, Option, None, if◌then◌else◌}
use Rattle.std.specs.List.{filter, filter_map, last_or, list_any}
use Rattle.std.specs.Option.{unwrap_or}
use Rattle.multi_meaning.specs.Address.{Spot, Put, Glyph, Break, is_glyph}
use Rattle.multi_meaning.specs.Words.{largest, extent}

-- the average of two numbers, rounded up (own)
abbrev pub average : ℕ → ℕ → ℕ
average a b = (a + b + 1) / 2

-- what a line has its height and its spacing from: its characters, or its `nl` where it has none (own)
abbrev pub bearers : List Spot → List Spot
bearers line = if list_any is_glyph line then filter is_glyph line else line

-- a line's height in pixels: that of its tallest font (NTCIP 1203 v03, fontHeight)
abbrev pub line_height : List Spot → ℕ
line_height line = largest (λ t. t.at.font.height) (bearers line)

-- a line's spacing in pixels: the largest of its fonts (NTCIP 1203 v03, fontLineSpacing)
abbrev pub line_spacing : List Spot → ℕ
line_spacing line = largest (λ t. t.at.font.line_spacing) (bearers line)

-- the gap that an `nl` gives (NTCIP 1203 v03, MULTI tag 'nl')
abbrev pub given_gap : Spot → Option ℕ
given_gap spot = of spot.put
  where
    of : Put → Option ℕ
    of (Break gap) = gap
    of _ = None

-- the pixels between a counted line and the next: the number of the `nl` between them, else the average of both spacings,
-- rounded up (NTCIP 1203 v03, MULTI tag 'nl')
abbrev pub line_gap : List Spot → List Spot → ℕ
line_gap line next = unwrap_or (last_or None (filter_map given_gap line)) (average (line_spacing line) (line_spacing next))

-- the height of a group's counted lines with the gaps between them (own)
abbrev pub height_of : List (List Spot) → ℕ
height_of lines = extent line_height line_gap lines

-- a character's columns (NTCIP 1203 v03, characterWidth)
abbrev pub glyph_width : Spot → ℕ
glyph_width spot = of spot.put
  where
    of : Put → ℕ
    of (Glyph cell) = cell.width
    of _ = 0

-- the pixels between two successive characters of a segment: the character spacing in force at the later one, else the
-- average of their fonts' spacings, rounded up (NTCIP 1203 v03, MULTI tag 'sc' and fontCharSpacing)
abbrev pub char_gap : Spot → Spot → ℕ
char_gap earlier later = unwrap_or later.at.spacing (average earlier.at.font.char_spacing later.at.font.char_spacing)

-- the width of a segment's characters with the gaps between them (own)
abbrev pub width_of : List Spot → ℕ
width_of characters = extent glyph_width char_gap characters
