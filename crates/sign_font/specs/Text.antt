-- The width of a text.
use Rattle.std.specs.Prelude.{◌≡◌, ℕ, ◌+◌, List, All, map, Option, Some, option_map}
use Rattle.std.specs.List.{sum_by}
use Rattle.sign_font.specs.Sign.{FontData, SignData, cell_in, cell_numbered}
use Rattle.sign_font.specs.Sound.{IsWithin}

-- the width of the cell of a number, if the font has it (NTCIP 1203 v03, object characterWidth)
abbrev pub width_numbered : FontData → ℕ → Option ℕ
width_numbered font number = option_map (λ cell. cell.width) (cell_numbered font number)

-- the width of the cell of a number in the font of a number, if both are defined (NTCIP 1203 v03, object characterWidth)
abbrev pub width_in : SignData → ℕ → ℕ → Option ℕ
width_in sign font number = option_map (λ cell. cell.width) (cell_in sign font number)

-- each number has the width in the font of a number that it has in this font (own)
abbrev pub AreWidthsOf : SignData → ℕ → FontData → Type 0
AreWidthsOf sign number font = (octet : ℕ) → width_in sign number octet ≡ width_numbered font octet

-- each octet of a text has a width by this function, from 1 to 64, and their sum, with a gap before each, is this number of pixels (own)
pub record HasWidth (width_of : ℕ → Option ℕ) (gap : ℕ) (text : List ℕ) (pixels : ℕ) : Type 0 where
  pub widths : List ℕ
  pub each : map width_of text ≡ map Some widths
  pub within : All (IsWithin 1 64) widths
  pub together : pixels ≡ sum_by (λ width. gap + width) widths
