-- A font as it is kept: what it says of itself, its cells at its height, and tables by which they are found.
use Rattle.std.specs.Prelude.{ℕ, ◌<◌, ◌≤◌, ◌≡◌, ◌==◌, IsTrue, List, length, map, find, Option, slice_get, slice_index, option_map, unwrap_or, All}
use Rattle.sign_font.specs.declared.font.FontInfo.{FontInfo}
use Rattle.sign_font.specs.Cell.{SizedCell}
use Rattle.sign_font.specs.Advance.{AreAdvances}
use Rattle.sign_font.specs.Limits.{is_rising}
use Rattle.sign_font.specs.Sign.{FontData, unsized}
use Rattle.sign_font.specs.Sound.{IsSoundFont}

-- the font that is kept so (own)
abbrev pub font_kept : FontInfo → List SizedCell → FontData
font_kept info cells = record {
  number = info.number;
  version = info.version;
  height = info.height;
  char_spacing = info.char_spacing;
  line_spacing = info.line_spacing;
  cells = map unsized cells;
}

-- each cell has this height (own)
abbrev pub AreAtHeight : ℕ → List SizedCell → Type 0
AreAtHeight height cells = All (λ cell. cell.height ≡ height) cells

-- each cell has the font's height, and the font is within its limits (own)
pub record IsFontKept (info : FontInfo) (cells : List SizedCell) : Type 0 where
  pub heights : AreAtHeight info.height cells
  pub sound : IsSoundFont (font_kept info cells)

-- at most 255 cells whose numbers rise (own)
pub record AreNumbered (cells : List SizedCell) : Type 0 where
  pub count : length cells ≤ 255
  pub rising : IsTrue (is_rising (map (λ cell. cell.number) cells))

-- by number below 256, the place of the first thing of that number, or a place where nothing stands; of a wider number
-- it says nothing (own)
abbrev pub ArePlaces : {X : Type 0} → (X → ℕ) → List X → List ℕ → Type 0
ArePlaces number_of things places =
    (number : ℕ) → number < 256 → slice_get things (slice_index places number) ≡ find (λ thing. number_of thing == number) things

-- by octet, the width of the cell of that number, or 0; of a wider number it says nothing (own)
abbrev pub AreWidths : List SizedCell → List ℕ → Type 0
AreWidths cells widths =
    (octet : ℕ) → octet < 256
    → slice_index widths octet ≡ unwrap_or (option_map (λ cell. cell.width) (find (λ cell. cell.number == octet) cells)) 0

-- the cells' numbers rise, and the tables are those of the cells whose numbers are octets (own)
pub record AreTables (cells : List SizedCell) (places widths : List ℕ) : Type 0 where
  pub numbered : AreNumbered cells
  pub placed : ArePlaces (λ cell. cell.number) cells places
  pub wide : AreWidths cells widths

-- the width of the cell of a number, if one of these cells has it (own)
abbrev pub width_among : List SizedCell → ℕ → Option ℕ
width_among cells number = option_map (λ cell. cell.width) (find (λ cell. cell.number == number) cells)

-- a font that is kept with what octets take of a line by its cells (own)
pub record IsFontKeptWith (info : FontInfo) (cells : List SizedCell) (advances : List ℕ) : Type 0 where
  pub font : IsFontKept info cells
  pub in_table : AreAdvances (width_among cells) advances
