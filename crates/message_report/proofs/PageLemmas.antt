-- The rows of a page's marks.
use Rattle.std.proofs.Common.{◌≡◌, ℕ, ◌<◌, Bool, false, List, ap, ◌∙◌, arith, inl, inr, refl}
use Rattle.std.proofs.lemmas.Bool.{cases_Bool}
use Rattle.page_plane.specs.Plane.{BitPlane, is_lit}
use Rattle.sign_font.specs.Sign.{SignData}
use Rattle.multi_meaning.specs.Picture.{Lights, picture}
use Rattle.multi_layout.specs.Pages.{IsSized}
use Rattle.page_picture.specs.Colours.{ColourData, IsPage, colour_by, page_colour}
use Rattle.page_picture.specs.Rows.{mark_of, marked_rows, rows_text}
use Rattle.page_picture.proofs.ColourLemmas.{lights_by}
use Rattle.page_picture.proofs.RowLemmas.{rows_same}
use Rattle.page_picture.proofs.WriteLemmas.{monochrome_dark}
use Rattle.message_report.specs.Pictures.{mark, mark_at, page_text}

-- the marks of a page's colours are its picture
pub pictured : (sign : SignData) (octets : List ℕ) (page phase : ℕ) (colours : ColourData) → IsPage sign octets page phase colours
    → rows_text (mark_at colours) colours.width colours.height ≡ page_text sign octets page phase
pictured sign octets page phase colours is =
    ap (λ w. rows_text (mark_at colours) w colours.height) is.width
    ∙ ap (rows_text (mark_at colours) sign.width) is.height
    ∙ rows_same (mark_at colours) (λ column row. mark (page_colour sign octets page phase column row)) sign.width sign.height (λ column row left above.
    ap mark (is.pixels column row left above))

-- a pixel that has no colour above 1 has the mark of colour 1 or that of black
one_mark : (has : ℕ → Bool) → ((colour : ℕ) → 1 < colour → has colour ≡ false) → mark_of 49 (has 1) ≡ mark (colour_by has)
one_mark has none = elim (cases_Bool (has 1)) [
  | inl on ↦ rw on refl
  | inr off ↦ rw (off, none 2 (omega arith), none 3 (omega arith), none 4 (omega arith), none 5 (omega arith), none 6 (omega arith), none 7 (omega arith), none 8 (omega arith), none 9 (omega arith)) refl
]

-- the plane of colour 1 of a monochrome sign's page is its picture
pub monochrome_pictured : (sign : SignData) (octets : List ℕ) (page phase : ℕ) (plane : BitPlane) → sign.classic ≡ false
    → Lights plane (picture sign octets page phase 1) → IsSized plane sign
    → marked_rows 49 (is_lit plane) plane.width plane.height ≡ page_text sign octets page phase
monochrome_pictured sign octets page phase plane plain shows sized =
    let marks : ℕ → ℕ → ℕ = λ column row. mark (page_colour sign octets page phase column row) in
    rows_same (λ column row. mark_of 49 (is_lit plane column row)) marks plane.width plane.height (λ column row left above.
    ap (mark_of 49) (shows column row left above)
    ∙ one_mark (λ colour. picture sign octets page phase colour column row) (λ colour more. monochrome_dark sign octets page phase colour column row plain more))
    ∙ ap (λ w. rows_text marks w plane.height) sized.0
    ∙ ap (rows_text marks sign.width) sized.1

-- and so is the plane of a page that is drawn of the same string
pub next_pictured : (sign other : SignData) (octets others : List ℕ) (page phase : ℕ) (plane : BitPlane) → sign.classic ≡ false → other ≡ sign → others ≡ octets
    → Lights plane (picture other others page phase 1) → IsSized plane sign → marked_rows 49 (is_lit plane) plane.width plane.height ≡ page_text sign octets page phase
next_pictured sign other octets others page phase plane plain same_sign same_octets lights sized =
    monochrome_pictured sign octets page phase plane plain (lights_by sign other octets others page phase 1 plane same_sign same_octets lights) sized
