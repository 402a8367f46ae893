-- A sign as plain data, and what it is asked for.
use Rattle.std.specs.Prelude.{ℕ, max, Bool, ◌==◌, nat_lt, if◌then◌else◌, List, [], ◌∷◌, map, find, Option, option_map}
use Rattle.std.specs.Option.{option_and_then}
use Rattle.sign_font.specs.declared.font.FontInfo.{FontInfo}
use Rattle.sign_font.specs.declared.parts.CellPart.{CellPart}
use Rattle.sign_font.specs.declared.parts.FontPart.{FontPart}
use Rattle.sign_font.specs.declared.parts.SignParts.{SignParts}
use Rattle.sign_font.specs.declared.parts.Defaults.{Defaults}
use Rattle.sign_font.specs.declared.parts.LineFill.{LineFill}
use Rattle.sign_font.specs.Cell.{SizedCell}

-- a character's cell: its number, its columns and the octets of its pixels (NTCIP 1203 v03, object characterTable)
pub record CellData : Type 0 where
  pub number : ℕ
  pub width : ℕ
  pub bits : List ℕ

-- a font: its number, its version, its rows, its spacings in pixels and its cells (NTCIP 1203 v03, object fontTable)
pub record FontData : Type 0 where
  pub number : ℕ
  pub version : ℕ
  pub height : ℕ
  pub char_spacing : ℕ
  pub line_spacing : ℕ
  pub cells : List CellData

-- a sign: its size in pixels, what it can do, whether it breaks lines between words, its defaults and its fonts (own)
pub record SignData : Type 0 where
  pub width : ℕ
  pub height : ℕ
  pub classic : Bool
  pub max_pages : ℕ
  pub beacons : Bool
  pub pixel_service : Bool
  pub line_fill : LineFill
  pub defaults : Defaults
  pub fonts : List FontData

-- the cell that was written (own)
abbrev pub cell_of : CellPart → CellData
cell_of part = record { number = part.number; width = part.width; bits = part.bits.items }

-- the font that was written (own)
abbrev pub font_of : FontPart → FontData
font_of part = record {
  number = part.number;
  version = part.version;
  height = part.height;
  char_spacing = part.char_spacing;
  line_spacing = part.line_spacing;
  cells = map cell_of part.cells.items;
}

-- the sign that was written (own)
abbrev pub sign_of : SignParts → SignData
sign_of parts = record {
  width = parts.width;
  height = parts.height;
  classic = parts.classic;
  max_pages = parts.max_pages;
  beacons = parts.beacons;
  pixel_service = parts.pixel_service;
  line_fill = parts.line_fill;
  defaults = parts.defaults;
  fonts = map font_of parts.fonts.items;
}

-- the font of a number, if it is defined (NTCIP 1203 v03, object fontNumber)
abbrev pub font_numbered : SignData → ℕ → Option FontData
font_numbered sign number = find (λ font. font.number == number) sign.fonts

-- the cell of a number, if the font has it (NTCIP 1203 v03, object characterNumber)
abbrev pub cell_numbered : FontData → ℕ → Option CellData
cell_numbered font number = find (λ cell. cell.number == number) font.cells

-- a cell without its font's height (own)
abbrev pub unsized : SizedCell → CellData
unsized cell = record { number = cell.number; width = cell.width; bits = cell.bits }

-- a cell at its font's height (own)
abbrev pub sized : FontData → CellData → SizedCell
sized font cell = record { number = cell.number; width = cell.width; height = font.height; bits = cell.bits }

-- the cell of a number in the font of a number, if both are defined (NTCIP 1203 v03, object characterTable)
abbrev pub cell_in : SignData → ℕ → ℕ → Option SizedCell
cell_in sign font number =
    option_and_then (λ f. option_map (sized f) (cell_numbered f number)) (font_numbered sign font)

-- the steps of looking up the cell of a number: a table has those of octets, and a search by halves compares at most eight cells (own)
abbrev pub cell_steps : ℕ → ℕ
cell_steps number = if nat_lt number 256 then 1 else 8

-- a font's numbers without its cells (own)
abbrev pub info_of : FontData → FontInfo
info_of font = record {
  number = font.number;
  version = font.version;
  height = font.height;
  char_spacing = font.char_spacing;
  line_spacing = font.line_spacing;
}

-- the largest of these numbers, 0 where there is none (own)
abbrev pub largest : List ℕ → ℕ
largest [] = 0
largest (number ∷ numbers) = max number (largest numbers)

-- the height of the tallest font (own)
abbrev pub tallest : SignData → ℕ
tallest sign = largest (map (λ font. font.height) sign.fonts)
