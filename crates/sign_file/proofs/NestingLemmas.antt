-- What the look at nesting does at an octet.
use Rattle.std.proofs.Common.{◌≡◌, ℕ, suc, ◌-◌, ◌<◌, ◌≤◌, max, nat_le, Bool, true, false, ◌&&◌, ◌==◌, if◌then◌else◌, List, [], ◌∷◌, length, Some, None, zero, ◌||◌, unwrap_or, refl, arith, le_refl, inl, inr}
use Rattle.std.proofs.lemmas.Bool.{cases_Bool}
use Rattle.std.proofs.lemmas.Bool.Decides.{nat_tests}
use Rattle.toml_parser.specs.Lexical.{first, skip_blank, skip_from, skip_turn}
use Rattle.toml_parser.specs.Strings.{quoted, starts_string}
use Rattle.sign_file.specs.Nesting.{opens, closes, ends_name, mark_of, most_open, most_dots, outside}

-- whether no more than 16 brackets are open, and no name has more than `most` dots, after so many of both
abbrev pub fits_in : ℕ → ℕ → ℕ → List ℕ → Bool
fits_in most opened dots octets = nat_le (most_open opened octets) 16 && nat_le (most_dots dots octets) most

-- how many brackets are open after an octet
abbrev pub open_after : ℕ → ℕ → ℕ
open_after opened octet = if opens octet then suc opened else if closes octet then opened - 1 else opened

-- how many dots the name has, in which the text may be after an octet
abbrev pub dots_after : ℕ → ℕ → ℕ
dots_after dots octet = if ends_name octet then 0 else if octet == 46 then suc dots else dots

-- a number that is small enough leaves open whether the greater of it and another is
capped : (some other limit : ℕ) → some ≤ limit → nat_le (max some other) limit ≡ nat_le other limit
capped some other limit small = grind (arith, nat_tests)

-- a number above the limit is too great
above : (some limit : ℕ) → limit < some → nat_le some limit ≡ false
above some limit great = grind (arith, nat_tests)

-- as many brackets are open as before, at least
most_open-least : (opened : ℕ) (octets : List ℕ) → opened ≤ most_open opened octets
unfolding most_open
most_open-least opened [] = le_refl opened
most_open-least opened (octet ∷ octets) =
    let longer = most_open-least (suc opened) octets in
    let same = most_open-least opened octets in
    grind arith

-- the most dots of a name are no fewer if it has more dots before
pub most_dots-more : (fewer dots : ℕ) (octets : List ℕ) → fewer ≤ dots → most_dots fewer octets ≤ most_dots dots octets
unfolding most_dots
most_dots-more fewer dots [] small = small
most_dots-more fewer dots (octet ∷ octets) small =
    let longer = most_dots-more (suc fewer) (suc dots) octets (omega arith) in
    let same = most_dots-more fewer dots octets small in
    grind arith

most_dots-least : (dots : ℕ) (octets : List ℕ) → dots ≤ most_dots dots octets
unfolding most_dots
most_dots-least dots [] = le_refl dots
most_dots-least dots (octet ∷ octets) =
    let longer = most_dots-least (suc dots) octets in
    let same = most_dots-least dots octets in
    grind arith

module _ (most opened dots octet : ℕ) (octets : List ℕ) where
  open_on : opened ≤ 16 → nat_le (most_open opened (octet ∷ octets)) 16 ≡ nat_le (most_open (open_after opened octet) octets) 16
  unfolding most_open
  open_on shallow =
      elim (cases_Bool (opens octet)) [
        | inl opening ↦ rw opening refl
        | inr other ↦ elim (cases_Bool (closes octet)) [
          | inl closing ↦ rw (other, closing) (capped opened (most_open (opened - 1) octets) 16 shallow)
          | inr neither ↦ rw (other, neither) refl
        ]
      ]

  dots_on : dots ≤ most → nat_le (most_dots dots (octet ∷ octets)) most ≡ nat_le (most_dots (dots_after dots octet) octets) most
  unfolding most_dots
  dots_on few =
      elim (cases_Bool (ends_name octet)) [
        | inl ending ↦ rw ending (capped dots (most_dots 0 octets) most few)
        | inr other ↦ elim (cases_Bool (octet == 46)) [
          | inl one ↦ rw (other, one) refl
          | inr none ↦ rw (other, none) refl
        ]
      ]

  -- what is nested goes on after an octet
  pub goes_on : (deep some : ℕ) → opened ≤ 16 → dots ≤ most → deep ≡ open_after opened octet → some ≡ dots_after dots octet
      → fits_in most opened dots (octet ∷ octets) ≡ fits_in most deep some octets
  goes_on deep some shallow few opening ending = rw (opening, ending, open_on shallow, dots_on few) refl

  pub too_deep : 16 ≤ opened → opens octet ≡ true → fits_in most opened dots (octet ∷ octets) ≡ false
  unfolding most_open
  too_deep full opening =
      let deep : 16 < most_open (suc opened) octets = omega (arith, most_open-least (suc opened) octets) in
      rw (opening, above (most_open (suc opened) octets) 16 deep) refl

  pub too_many : most ≤ dots → octet ≡ 46 → fits_in most opened dots (octet ∷ octets) ≡ false
  unfolding most_dots
  too_many full is =
      let many : most < most_dots (suc dots) octets = omega (arith, most_dots-least (suc dots) octets) in
      rw (is, above (most_dots (suc dots) octets) most many) (grind arith)

-- what is left is no longer than the text
skip_from-within : (comments inside : Bool) (text : List ℕ) → length (skip_from comments inside text) ≤ length text
unfolding skip_from
skip_from-within comments inside [] = le_refl 0
skip_from-within comments inside (c ∷ cs) =
    let rest = skip_from-within comments (unwrap_or (skip_turn comments inside c (first cs)) false) cs in
    grind arith

-- a comment is passed over
pub skip_blank-shorter : (text : List ℕ) → first text ≡ 35 → length (skip_blank text) < length text
unfolding skip_from
skip_blank-shorter [] is = absurd (omega (arith, is))
skip_blank-shorter (c ∷ cs) is =
    let rest = skip_from-within true true cs in
    let hash_is : c ≡ 35 = is in
    rw hash_is (omega (arith, rest))

-- nothing more is nested than before
pub fits_nothing : (most opened dots : ℕ) → opened ≤ 16 → dots ≤ most → fits_in most opened dots [] ≡ true
unfolding most_open most_dots
fits_nothing most opened dots shallow few = grind (arith, nat_tests)

-- no TOML goes on with this octet
abbrev pub is_over : ℕ → Bool
is_over octet = octet == 0 || nat_le 128 octet

pub outside_over : (n : ℕ) (text : List ℕ) → is_over (first text) ≡ true → outside n text ≡ []
unfolding outside
outside_over zero text over = refl
outside_over (suc n) text over = rw over refl

pub outside_string : (n : ℕ) (text string rest : List ℕ) → 0 < n → is_over (first text) ≡ false → starts_string text ≡ true → quoted text ≡ Some (string, rest)
    → outside n text ≡ outside (n - 1) rest
unfolding outside
outside_string zero text string rest none going starts read = absurd (omega arith)
outside_string (suc n) text string rest some going starts read =
    let less : suc n - 1 ≡ n = omega arith in
    rw (going, starts, read, less) refl

pub outside_no_string : (n : ℕ) (text : List ℕ) → is_over (first text) ≡ false → starts_string text ≡ true → quoted text ≡ None → outside n text ≡ []
unfolding outside
outside_no_string zero text going starts read = refl
outside_no_string (suc n) text going starts read = rw (going, starts, read) refl

pub outside_mark : (n : ℕ) (text : List ℕ) (octet : ℕ) (rest : List ℕ) → 0 < n → is_over (first text) ≡ false → starts_string text ≡ false → (octet, rest) ≡ mark_of text
    → outside n text ≡ octet ∷ outside (n - 1) rest
unfolding outside
outside_mark zero text octet rest none going starts is = absurd (omega arith)
outside_mark (suc n) text octet rest some going starts is =
    let less : suc n - 1 ≡ n = omega arith in
    rw (going, starts, less, ← is) refl
