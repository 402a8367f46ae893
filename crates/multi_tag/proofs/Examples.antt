-- The definitions on worked examples.
use Rattle.std.proofs.Common.{◌≡◌, ℕ, true, false, List, Some, None, Ok, codes, refl, lit<, arith}
use Rattle.std.proofs.lemmas.Bool.{le-leb}
use Rattle.multi_tag.specs.declared.just.LineJust.TheVariants.{Left}
use Rattle.multi_tag.specs.declared.just.PageJust.TheVariants.{Top}
use Rattle.multi_tag.specs.declared.tag.Tag.{Tag}
use Rattle.multi_tag.specs.declared.tag.Tag.TheVariants.{NewPage, NewLine, LineJust, PageJust, Font, CharSpacing, CharSpacingEnd, PageTime, Flash, Fore, Back, Rect, HexChar}
use Rattle.multi_tag.specs.Number.{IsDigit, number}
use Rattle.multi_tag.specs.Form.{d, h, d?}
use Rattle.multi_tag.specs.Body.{Spells, HasName}
use Rattle.multi_tag.specs.TagOf.{decimal, tag_of}
use Rattle.multi_tag.proofs.TagFormLemmas.{digits_read, optional_read}
use Rattle.multi_tag.proofs.TagOfLemmas.{tag_of_is_the_table}

leading_zeros_count_nothing : number 10 (codes "00012") ≡ 12
leading_zeros_count_nothing = refl

letters_are_digits_in_either_case : number 16 (codes "1a2B") ≡ 6699
letters_are_digits_in_either_case = refl

-- octets that are read as a number are one
decimal_number : {low high : ℕ} (octets : List ℕ) (value : ℕ) → decimal low high octets ≡ Some value → d low high octets value
decimal_number {low} {high} = (digits_read 10 5 low high).sound

five : d 0 255 (codes "5") 5
five = decimal_number (codes "5") 5 refl

-- THE ENDS OF FORMS

a_letter_is_no_decimal_digit : IsDigit 10 97 → ⊥
a_letter_is_no_decimal_digit = λ e. omega (arith, e)

the_last_letter_is_a_digit : IsDigit 16 102
the_last_letter_is_a_digit = lit< tt

nought : d 0 255 (codes "0") 0
nought = decimal_number (codes "0") 0 refl

five_digits : d 0 255 (codes "00255") 255
five_digits = decimal_number (codes "00255") 255 refl

six_digits_are_too_many : d 0 255 (codes "000255") 255 → ⊥
six_digits_are_too_many = λ n. omega (arith, n.count)

four_hexadecimal_digits : h 1 65535 (codes "0010") 16
four_hexadecimal_digits = (digits_read 16 4 1 65535).sound (codes "0010") 16 refl

five_hexadecimal_digits_are_too_many : h 1 65535 (codes "00041") 65 → ⊥
five_hexadecimal_digits_are_too_many = λ n. omega (arith, n.count)

-- TAGS

-- a body spells the tag that it is read as
spells : (body : List ℕ) (tag : Tag) → tag_of body ≡ Ok tag → Spells body tag
spells body tag = ((tag_of_is_the_table body).0 tag).1

tags : Spells (codes "np") NewPage × Spells (codes "/SC") CharSpacingEnd × Spells (codes "nl") (NewLine None)
unfolding tag_of
tags = (spells _ _ refl, spells _ _ refl, spells _ _ refl)

off_times : Spells (codes "pto5") (PageTime None (Some 5)) × Spells (codes "FLO5T") (Flash true None (Some 5))
unfolding tag_of
off_times = (spells _ _ refl, spells _ _ refl)

no_names : (HasName (codes "/f") → ⊥) × (HasName (codes "hd41") → ⊥)
unfolding tag_of
no_names = ((tag_of_is_the_table (codes "/f")).1.0 refl, (tag_of_is_the_table (codes "hd41")).1.0 refl)

-- THE LEAST NUMBERS OF THE TABLE

nought_of : (high : ℕ) → d 0 high (codes "0") 0
nought_of high = decimal_number (codes "0") 0 (rw (le-leb 0 high (omega arith)) refl)

a_nought : d? 0 255 (codes "0") (Some 0)
a_nought = (optional_read 0 255).sound (codes "0") (Some 0) refl

a_one : d 1 255 (codes "1") 1
a_one = decimal_number (codes "1") 1 refl

least_numbers : Spells (codes "nl0") (NewLine (Some 0))
    × Spells (codes "jl2") (LineJust (Some Left))
    × Spells (codes "jp2") (PageJust (Some Top))
    × Spells (codes "fo1") (Font (Some (record { number = 1; version = None })))
    × Spells (codes "fo1,0") (Font (Some (record { number = 1; version = Some 0 })))
    × Spells (codes "sc0") (CharSpacing 0)
    × Spells (codes "cf0") (Fore (Some 0))
    × Spells (codes "pb0") (Back (Some 0))
    × Spells (codes "tr0,0,0,0") (Rect 0 0 0 0)
    × Spells (codes "hc1") (HexChar 1)
unfolding tag_of
least_numbers = (spells _ _ refl, spells _ _ refl, spells _ _ refl, spells _ _ refl, spells _ _ refl, spells _ _ refl, spells _ _ refl, spells _ _ refl, spells _ _ refl, spells _ _ refl)

least_times : Spells (codes "pt0") (PageTime (Some 0) None)
    × Spells (codes "pt0o0") (PageTime (Some 0) (Some 0))
    × Spells (codes "fl") (Flash false None None)
    × Spells (codes "flt0") (Flash false (Some 0) None)
    × Spells (codes "flt0o0") (Flash false (Some 0) (Some 0))
    × Spells (codes "flo0") (Flash true None (Some 0))
    × Spells (codes "flo0t0") (Flash true (Some 0) (Some 0))
unfolding tag_of
least_times = (spells _ _ refl, spells _ _ refl, spells _ _ refl, spells _ _ refl, spells _ _ refl, spells _ _ refl, spells _ _ refl)
