-- The colours of what is shown of a text.
use Rattle.std.specs.Prelude.{◌≡◌, ℕ, ◌<◌, List}
use Rattle.sign_font.specs.Sign.{SignData}
use Rattle.multi_meaning.specs.declared.times.Shown.{Shown}
use Rattle.multi_meaning.specs.declared.times.Shown.TheVariants.{Off, Page}
use Rattle.multi_meaning.specs.Meaning.{meanings}
use Rattle.multi_meaning.specs.Picture.{pixel_at}
use Rattle.multi_meaning.specs.Verdict.{pages_of}
use Rattle.page_picture.specs.Colours.{ColourData, colour_at, colour_by, values}

-- what is shown is a page of the text, or nothing is (own)
abbrev pub IsThere : List ℕ → Shown → Type 0
IsThere text (Page page phase) = page < pages_of (meanings text)
IsThere text Off = Unit {0}

-- the colour of a pixel of what is shown of a text, 0 to 9, by its column and row (NTCIP 1203 v03, dmsColorScheme)
abbrev pub shown_colour_at : SignData → List ℕ → Shown → ℕ → ℕ → ℕ
shown_colour_at sign text shown column row = colour_by (λ colour. pixel_at sign (meanings text) shown colour column row)

-- the colours of all pixels of what is shown of a text, row by row from the top, and each row from the left (NTCIP 1203 v03,
-- dmsColorScheme; the order of the pixels is own)
abbrev pub colours : SignData → List ℕ → Shown → List ℕ
colours sign text shown = values (shown_colour_at sign text shown) sign.width sign.height

-- the colours are those of what is shown of a text (own)
pub record AreShown (sign : SignData) (text : List ℕ) (shown : Shown) (page : ColourData) : Type 0 where
  pub width : page.width ≡ sign.width
  pub height : page.height ≡ sign.height
  pub pixels :
      (column row : ℕ) → column < sign.width → row < sign.height → colour_at page column row ≡ shown_colour_at sign text shown column row
