-- Rows of the table: names as they are found, and what stands after them as it is read.
use Rattle.std.proofs.Common.{◌≡◌, ℕ, ◌≤◌, lit≤, true, false, List, [], ◌∷◌, ◌++◌, Option, Some, None, length, drop, refl, inl, inr}
use Rattle.std.specs.Prelude.{nat_eq, find, option_map}
use Rattle.std.specs.List.{starts_with, All}
use Rattle.std.proofs.lemmas.Option.{none-some, same_Some}
use Rattle.std.proofs.lemmas.Bool.{cases_Bool}
use Rattle.std.proofs.lemmas.Bool.Decides.{Decides-eqb}
use Rattle.std.proofs.lemmas.Slice.Eq.{starts_is}
use Rattle.multi_tag.specs.declared.name.Name.{Name}
use Rattle.multi_tag.specs.declared.name.Name.TheVariants as names
use Rattle.multi_tag.specs.declared.tag.Tag.TheVariants.{NewPage, NewLine, LineJust, PageJust, Font, CharSpacing, CharSpacingEnd, PageTime, Flash, FlashEnd, Fore, Back, Rect, HexChar}
use Rattle.multi_tag.specs.Just.{line_just_of, page_just_of}
use Rattle.multi_tag.specs.Body.{table}
use Rattle.multi_tag.specs.TagOf.{read_rest, Reads, read_between, decimal, decimal?}
use Rattle.std.specs.Char.{digit_value}
use Rattle.multi_tag.specs.Number.{IsDigit}
use Rattle.multi_tag.specs.Form.{Form, d, d?, between}
use Rattle.multi_tag.proofs.CutLemmas.{one_first, other_first}
use Rattle.multi_tag.proofs.NumberLemmas.{no_digit, no_other, digits_optional}
use Rattle.multi_tag.proofs.TagFormLemmas.{IsRead, nothing_read, digits_read, means_read, or_read, nothing_or_read, optional_read, after_read, between_read}

-- octets with an octet among them that is no digit aren't digits
no_digits : (octet : ℕ) (octets front rest : List ℕ) → 10 ≤ digit_value octet → octets ≡ front ++ octet ∷ rest → All (IsDigit 10) octets → ⊥
no_digits octet octets front rest large is all = no_other (IsDigit 10) octet front rest (no_digit 10 octet large) (rw is at all)

-- one time isn't two times with a letter between them
not_two : (letter : ℕ) → 10 ≤ digit_value letter → (octets : List ℕ) (v : Option ℕ) (w : Option ℕ × Option ℕ) → d? 0 255 octets v → between letter (d? 0 255) (d? 0 255) octets w → ⊥
not_two letter large octets v w f (front, rest, is, _, _) = no_digits letter octets front rest large is (digits_optional 0 255 octets v f)

-- two times with a letter between them
times_read : (letter : ℕ) → 10 ≤ digit_value letter → IsRead (between letter (d? 0 255) (d? 0 255)) (read_between letter (decimal? 0 255) (decimal? 0 255))
times_read letter large = between_read letter (no_digit 10 letter large) (digits_optional 0 255) (optional_read 0 255) (optional_read 0 255)

-- a number, a comma and a form
pair_read : {V : Type 0} {form : Form V} {read : Reads V} (low high : ℕ) → IsRead form read → IsRead (between 44 (d low high) form) (read_between 44 (decimal low high) read)
pair_read low high is = between_read 44 (no_digit 10 44 (lit≤ tt)) (λ octets v f. f.each) (digits_read 10 5 low high) is

-- a rest is read as its row spells it
pub rest_read : (name : Name) → IsRead (table name).rest (read_rest name)
rest_read names.NewPage = nothing_read NewPage
rest_read names.NewLine = means_read NewLine (optional_read 0 255)
rest_read names.LineJust = means_read (λ just. LineJust (option_map line_just_of just)) (optional_read 2 5)
rest_read names.PageJust = means_read (λ just. PageJust (option_map page_just_of just)) (optional_read 2 4)
rest_read names.Font =
    nothing_or_read (Font None) refl
    (or_read (means_read (λ n. Font (Some (record { number = n; version = None }))) (digits_read 10 5 1 255))
    (means_read (λ (v : ℕ × ℕ). Font (Some (record { number = v.0; version = Some v.1 }))) (pair_read 1 255 (digits_read 16 4 0 65535)))
    (λ octets v w (n, f, _) (p, (front, rest, is, _, _), _). no_digits 44 octets front rest (lit≤ tt) is f.each))
rest_read names.CharSpacing = means_read CharSpacing (digits_read 10 5 0 255)
rest_read names.CharSpacingEnd = nothing_read CharSpacingEnd
rest_read names.PageTime =
    or_read (means_read (λ on. PageTime on None) (optional_read 0 255))
    (means_read (λ (v : Option ℕ × Option ℕ). PageTime v.0 v.1) (times_read 111 (lit≤ tt)))
    (λ octets v w (u, f, _) (p, g, _). not_two 111 (lit≤ tt) octets u p f g)
rest_read names.Flash =
    nothing_or_read (Flash false None None) refl
    (or_read (means_read (λ on. Flash false on None) (after_read 116 (optional_read 0 255)))
    (or_read (means_read (λ (v : Option ℕ × Option ℕ). Flash false v.0 v.1) (after_read 116 (times_read 111 (lit≤ tt))))
    (or_read (means_read (λ off. Flash true None off) (after_read 111 (optional_read 0 255)))
    (means_read (λ (v : Option ℕ × Option ℕ). Flash true v.1 v.0) (after_read 111 (times_read 116 (lit≤ tt))))
    (λ octets v w (u, (rest, e, f), _) (p, (more, k, g), _). not_two 116 (lit≤ tt) rest u p f (rw (one_first k e).1 at g)))
    (λ octets v w (u, (rest, e, _), _) g. elim g [ inl (_, (more, k, _), _) ↦ other_first refl e k | inr (_, (more, k, _), _) ↦ other_first refl e k ]))
    (λ octets v w (u, (rest, e, f), _) g. elim g [
      | inl (p, (more, k, two), _) ↦ not_two 111 (lit≤ tt) rest u p f (rw (one_first k e).1 at two)
      | inr (inl (_, (more, k, _), _)) ↦ other_first refl e k
      | inr (inr (_, (more, k, _), _)) ↦ other_first refl e k
    ]))
rest_read names.FlashEnd = nothing_read FlashEnd
rest_read names.Fore = means_read Fore (optional_read 0 9)
rest_read names.Back = means_read Back (optional_read 0 9)
rest_read names.Rect = means_read (λ (v : ℕ × (ℕ × (ℕ × ℕ))). Rect v.0 v.1.0 v.1.1.0 v.1.1.1) (pair_read 0 99999 (pair_read 0 99999 (pair_read 0 99999 (digits_read 10 5 0 99999))))
rest_read names.HexChar = means_read HexChar (digits_read 16 4 1 65535)

-- what begins octets stands at their front
pub begun : (octets front : List ℕ) → starts_with nat_eq octets front ≡ true → octets ≡ front ++ drop (length front) octets
begun octets front = (starts_is Decides-eqb octets front (starts_with nat_eq octets front) refl).0

pub found : (octets : List ℕ) (names : List Name) (name : Name) → find (λ n. starts_with nat_eq octets (table n).name) names ≡ Some name → starts_with nat_eq octets (table name).name ≡ true
found octets [] name e = absurd (none-some name e)
found octets (n ∷ names) name e = elim (cases_Bool (starts_with nat_eq octets (table n).name)) [
  | inl is ↦ rw (← same_Some n name (rw is at e)) is
  | inr other ↦ found octets names name (rw other at e)
]
