-- What is shown of a text.
use Rattle.std.proofs.Common.{◌≡◌, ℕ, zero, suc, ◌+◌, ◌*◌, ◌≤◌, Bool, List, length, map, replicate, refl, sym, ap, ◌∙◌, arith, length-append, inl, inr}
use Rattle.std.proofs.lemmas.List.Elements.{All-append, All-cons, All-nil}
use Rattle.std.proofs.lemmas.Bool.{cases_Bool}
use Rattle.std.specs.List.{All, find, flat_map, range_with_len}
use Rattle.std.specs.Option.{option_map_or}
use Rattle.sign_font.specs.Sign.{SignData}
use Rattle.multi_meaning.specs.declared.times.Shown.{Shown}
use Rattle.multi_meaning.specs.declared.times.Shown.TheVariants.{Off, Page}
use Rattle.multi_meaning.specs.Meaning.{meanings}
use Rattle.multi_meaning.specs.Picture.{pixel_at}
use Rattle.multi_meaning.specs.Times.{shown}
use Rattle.multi_meaning.proofs.TimesLemmas.{page_below}
use Rattle.page_picture.specs.Colours.{ColourData, row_values, values}
use Rattle.page_picture.specs.Dots.{value_at}
use Rattle.page_picture.specs.Shown.{AreShown, IsThere, colours, shown_colour_at}
use Rattle.page_picture.proofs.ColourLemmas.{value_of, values_zero}

-- what is shown at a clock is a page of the text, or nothing is
pub there_at : (sign : SignData) (text : List ℕ) (clock : ℕ) (seen : Shown) → seen ≡ shown sign text clock → IsThere text seen
there_at sign text clock (Page page phase) is = page_below sign text clock page phase (sym is)
there_at sign text clock Off is = tt

-- in an off time all colours are 0
pub shown_off : (sign : SignData) (text : List ℕ) → replicate (sign.width * sign.height) 0 ≡ colours sign text Off
shown_off sign text = sym (values_zero sign.width sign.height)

found_below : (has : ℕ → Bool) (a n : ℕ) → option_map_or (λ c. c) (find has (range_with_len a (suc n))) 0 ≤ a + n
found_below has a zero = elim (cases_Bool (has a)) [
  | inl is ↦ rw is (omega arith)
  | inr isn't ↦ rw isn't (omega arith)
]
found_below has a (suc n) = elim (cases_Bool (has a)) [
  | inl is ↦ rw is (omega arith)
  | inr isn't ↦ rw isn't (let rest = found_below has (a + 1) n in omega (arith, rest))
]

row_small : (at : ℕ → ℕ → ℕ) (row a n : ℕ) → ((column : ℕ) → at column row ≤ 9) → All (λ c. c ≤ 9) (map (λ column. at column row) (range_with_len a n)) × (length (map (λ column. at column row) (range_with_len a n)) ≡ n)
row_small at row a zero small = (All-nil (λ c. c ≤ 9), refl)
row_small at row a (suc n) small =
    let rest = row_small at row (a + 1) n small in
    (All-cons (λ c. c ≤ 9) (at a row) (map (λ column. at column row) (range_with_len (a + 1) n)) (small a) rest.0, ap suc rest.1)

rows_small : (at : ℕ → ℕ → ℕ) (width a n : ℕ) → ((column row : ℕ) → at column row ≤ 9)
    → All (λ c. c ≤ 9) (flat_map (row_values at width) (range_with_len a n)) × (length (flat_map (row_values at width) (range_with_len a n)) ≡ width * n)
rows_small at width a zero small = (All-nil (λ c. c ≤ 9), omega arith)
rows_small at width a (suc n) small =
    let first = row_small at a 0 width (λ column. small column a) in
    let rest = rows_small at width (a + 1) n small in
    let both = length-append (row_values at width a) (flat_map (row_values at width) (range_with_len (a + 1) n)) in
    let first_is = first.1 in
    let rest_is = rest.1 in
    (All-append (λ c. c ≤ 9) (row_values at width a) (flat_map (row_values at width) (range_with_len (a + 1) n)) first.0 rest.0, omega (arith, both, first_is, rest_is))

-- what is shown has a colour from 0 to 9 for each pixel
pub colours_small : (sign : SignData) (text : List ℕ) (seen : Shown) → All (λ c. c ≤ 9) (colours sign text seen) × (length (colours sign text seen) ≡ sign.width * sign.height)
unfolding values
colours_small sign text seen = rows_small (shown_colour_at sign text seen) sign.width 0 sign.height
    (λ column row. let most = found_below (λ colour. pixel_at sign (meanings text) seen colour column row) 1 8 in omega (arith, most))

-- a page with these colours is what is shown
pub are_shown : (sign : SignData) (text : List ℕ) (seen : Shown) (page : ColourData) → page.width ≡ sign.width → page.height ≡ sign.height → page.colours ≡ colours sign text seen
    → AreShown sign text seen page
are_shown sign text seen page wide high all = record {
  width = wide;
  height = high;
  pixels = λ column row left above.
      ap (λ l. value_at l page.width column row) all
      ∙ ap (λ w. value_at (colours sign text seen) w column row) wide
      ∙ value_of (shown_colour_at sign text seen) sign.width sign.height column row left above;
}
