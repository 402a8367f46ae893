-- The colours of a page's pixels.
use Rattle.std.specs.Prelude.{◌≡◌, ℕ, ◌*◌, ◌<◌, ◌≤◌, Bool, List, length, map}
use Rattle.std.specs.List.{All, find, flat_map, range_with_len}
use Rattle.std.specs.Option.{option_map_or}
use Rattle.sign_font.specs.Sign.{SignData}
use Rattle.multi_meaning.specs.Picture.{picture}
use Rattle.page_picture.specs.Dots.{value_at}

-- the colour of a pixel: the first of the colours 1 to 9 that it has, and else 0, which is black (own)
abbrev pub colour_by : (ℕ → Bool) → ℕ
colour_by has = option_map_or (λ colour. colour) (find has (range_with_len 1 9)) 0

-- the colour of a pixel of a page at a phase (NTCIP 1203 v03, dmsColorScheme)
abbrev pub page_colour : SignData → List ℕ → ℕ → ℕ → ℕ → ℕ → ℕ
page_colour sign octets page phase column row = colour_by (λ colour. picture sign octets page phase colour column row)

-- the first pixels of a row, each by its column and row, from the left (own)
abbrev pub row_values : (ℕ → ℕ → ℕ) → ℕ → ℕ → List ℕ
row_values at count row = map (λ column. at column row) (range_with_len 0 count)

-- the pixels of the first rows, from the top (own)
unfoldable pub values : (ℕ → ℕ → ℕ) → ℕ → ℕ → List ℕ
values at width count = flat_map (row_values at width) (range_with_len 0 count)

-- the size of a page, and the colours of all its pixels, row by row from the top, and each row from the left (own)
pub record ColourData : Type 0 where
  pub width : ℕ
  pub height : ℕ
  pub colours : List ℕ

-- the colour of a pixel, 0 to 9 (own)
abbrev pub colour_at : ColourData → ℕ → ℕ → ℕ
colour_at page column row = value_at page.colours page.width column row

-- a page has a size within a sign's limits, and a colour from 0 to 9 for each pixel (own)
pub record IsWhole (page : ColourData) : Type 0 where
  pub width_range : (1 ≤ page.width) × (page.width ≤ 1024)
  pub height_range : (1 ≤ page.height) × (page.height ≤ 128)
  pub count : length page.colours ≡ page.width * page.height
  pub range : All (λ colour. colour ≤ 9) page.colours

-- the colours are those of a page at a phase (own)
pub record IsPage (sign : SignData) (octets : List ℕ) (page phase : ℕ) (colours : ColourData) : Type 0 where
  pub width : colours.width ≡ sign.width
  pub height : colours.height ≡ sign.height
  pub pixels :
      (column row : ℕ) → column < sign.width → row < sign.height
      → colour_at colours column row ≡ page_colour sign octets page phase column row
