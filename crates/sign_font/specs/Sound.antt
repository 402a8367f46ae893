-- What is known of an accepted sign.
use Rattle.std.specs.Prelude.{ℕ, ◌+◌, ◌*◌, ◌/◌, ◌≤◌, ◌≡◌, false, IsTrue, IsSome, All, length, map}
use Rattle.sign_font.specs.Cell.{SizedCell, is_set}
use Rattle.sign_font.specs.Limits.{is_rising}
use Rattle.sign_font.specs.Sign.{CellData, FontData, SignData, font_numbered}

-- a number from a lowest to a highest (own)
abbrev pub IsWithin : ℕ → ℕ → ℕ → Type 0
IsWithin low high number = (low ≤ number) × (number ≤ high)

-- a cell within its limits, in a font of this height (NTCIP 1203 v03, object characterTable)
pub record IsSoundCell (height : ℕ) (cell : CellData) : Type 0 where
  pub number : IsWithin 1 65535 cell.number
  pub width : IsWithin 1 64 cell.width
  pub len : length cell.bits ≡ (height * cell.width + 7) / 8
  pub spare : (place : ℕ) → height * cell.width ≤ place → is_set cell.bits place ≡ false

-- a font within its limits (NTCIP 1203 v03, object fontTable)
pub record IsSoundFont (font : FontData) : Type 0 where
  pub number : IsWithin 1 255 font.number
  pub height : IsWithin 1 64 font.height
  pub count : length font.cells ≤ 255
  pub each : All (IsSoundCell font.height) font.cells
  pub rising : IsTrue (is_rising (map (λ cell. cell.number) font.cells))

-- a sign within its limits (own)
pub record IsSound (sign : SignData) : Type 0 where
  pub width : IsWithin 1 1024 sign.width
  pub height : IsWithin 1 128 sign.height
  pub count : IsWithin 1 16 (length sign.fonts)
  pub each : All IsSoundFont sign.fonts
  pub rising : IsTrue (is_rising (map (λ font. font.number) sign.fonts))
  pub font : IsSome (font_numbered sign sign.defaults.font)
  pub line : IsWithin 2 5 sign.defaults.line
  pub page : IsWithin 2 4 sign.defaults.page
  pub fore : sign.defaults.fore ≤ 9
  pub back : sign.defaults.back ≤ 9
  pub max_pages : IsWithin 1 255 sign.max_pages

-- the columns and rows of a cell of an accepted sign (own)
abbrev pub IsSoundSize : SizedCell → Type 0
IsSoundSize cell = IsWithin 1 64 cell.width × IsWithin 1 64 cell.height
