-- A message in one case shows the same letters and digits.
use Rattle.std.proofs.Common.{◌≡◌, ℕ, ◌==◌, List, [], ◌∷◌, ◌++◌, refl, ap, ◌∙◌, arith}
use Rattle.std.specs.Char.{is_ascii_alphanumeric, to_ascii_lowercase, to_ascii_uppercase}
use Rattle.std.proofs.lemmas.Str.Ascii.{lowercase-lowercase, lowercase-uppercase}
use Rattle.std.proofs.lemmas.Bool.Decides.{nat_tests}
use Rattle.message_cures.specs.Cures.{CaseKeepsLetters}
use Rattle.message_cures.specs.Shown.{behind_bracket, in_text, is_closed, is_open, made, made_from, made_of, next_place}
use Rattle.message_cures.specs.declared.shown.Change.TheVariants.{Capitals, Letters, SmallLetters}
use Rattle.message_cures.specs.declared.shown.Place.{Place}
use Rattle.message_cures.specs.declared.shown.Place.TheVariants.{Second, Tag, Text}

-- a change of octets that keeps brackets, and letters and digits apart from their case
record Keeps (f : ℕ → ℕ) : Type 0 where
  opening : (c : ℕ) → (f c == 91) ≡ (c == 91)
  closing : (c : ℕ) → (f c == 93) ≡ (c == 93)
  letter : (c : ℕ) → in_text Letters (f c) ≡ in_text Letters c

-- an octet that is changed unless it stands in a tag
abbrev put : (ℕ → ℕ) → Place → ℕ → ℕ
put f Text c = f c
put f Second c = f c
put f Tag c = c

abbrev mapped : (ℕ → ℕ) → Place → List ℕ → List ℕ
mapped f place [] = []
mapped f place (c ∷ cs) = put f place c ∷ mapped f (next_place place c cs) cs

put_opening : (f : ℕ → ℕ) → Keeps f → (place : Place) (c : ℕ) → (put f place c == 91) ≡ (c == 91)
put_opening f keeps Text c = keeps.opening c
put_opening f keeps Second c = keeps.opening c
put_opening f keeps Tag c = refl

put_closing : (f : ℕ → ℕ) → Keeps f → (place : Place) (c : ℕ) → (put f place c == 93) ≡ (c == 93)
put_closing f keeps Text c = keeps.closing c
put_closing f keeps Second c = keeps.closing c
put_closing f keeps Tag c = refl

mapped_open : (f : ℕ → ℕ) → Keeps f → (place : Place) (xs : List ℕ) → is_open (mapped f place xs) ≡ is_open xs
mapped_open f keeps place [] = refl
mapped_open f keeps place (c ∷ cs) = put_opening f keeps place c

mapped_closed : (f : ℕ → ℕ) → Keeps f → (place : Place) (xs : List ℕ) → is_closed (mapped f place xs) ≡ is_closed xs
mapped_closed f keeps place [] = refl
mapped_closed f keeps place (c ∷ cs) =
    rw (put_closing f keeps place c, put_opening f keeps place c, mapped_closed f keeps (next_place place c cs) cs) refl

mapped_behind : (f : ℕ → ℕ) → Keeps f → (place : Place) (xs : List ℕ) → behind_bracket (mapped f place xs) ≡ behind_bracket xs
mapped_behind f keeps place xs = rw (mapped_open f keeps place xs, mapped_closed f keeps place xs) refl

same_place : (f : ℕ → ℕ) → Keeps f → (place behind : Place) (c : ℕ) (cs : List ℕ) → next_place place (put f place c) (mapped f behind cs) ≡ next_place place c cs
same_place f keeps Text behind c cs = rw (keeps.opening c, mapped_behind f keeps behind cs) refl
same_place f keeps Second behind c cs = refl
same_place f keeps Tag behind c cs = refl

same_letter : (f : ℕ → ℕ) → Keeps f → (place : Place) (c : ℕ) → made_of Letters place (put f place c) ≡ made_of Letters place c
same_letter f keeps Text c = keeps.letter c
same_letter f keeps Second c = keeps.letter c
same_letter f keeps Tag c = refl

same_letters : (f : ℕ → ℕ) → Keeps f → (place : Place) (xs : List ℕ) → made_from Letters place (mapped f place xs) ≡ made_from Letters place xs
same_letters f keeps place [] = refl
same_letters f keeps place (c ∷ cs) =
    let behind = next_place place c cs in
    ap (λ l. l ++ made_from Letters (next_place place (put f place c) (mapped f behind cs)) (mapped f behind cs)) (same_letter f keeps place c)
    ∙ ap (λ p. made_of Letters place c ++ made_from Letters p (mapped f behind cs)) (same_place f keeps place behind c cs)
    ∙ ap (λ l. made_of Letters place c ++ l) (same_letters f keeps behind cs)

-- the two cases are such changes
in_capitals_is : (place : Place) (xs : List ℕ) → made_from Capitals place xs ≡ mapped to_ascii_uppercase place xs
in_capitals_is place [] = refl
in_capitals_is Text (c ∷ cs) = ap (λ l. to_ascii_uppercase c ∷ l) (in_capitals_is (next_place Text c cs) cs)
in_capitals_is Second (c ∷ cs) = ap (λ l. to_ascii_uppercase c ∷ l) (in_capitals_is Text cs)
in_capitals_is Tag (c ∷ cs) = ap (λ l. c ∷ l) (in_capitals_is (next_place Tag c cs) cs)

in_small_letters_is : (place : Place) (xs : List ℕ) → made_from SmallLetters place xs ≡ mapped to_ascii_lowercase place xs
in_small_letters_is place [] = refl
in_small_letters_is Text (c ∷ cs) = ap (λ l. to_ascii_lowercase c ∷ l) (in_small_letters_is (next_place Text c cs) cs)
in_small_letters_is Second (c ∷ cs) = ap (λ l. to_ascii_lowercase c ∷ l) (in_small_letters_is Text cs)
in_small_letters_is Tag (c ∷ cs) = ap (λ l. c ∷ l) (in_small_letters_is (next_place Tag c cs) cs)

upper_opening : (c : ℕ) → (to_ascii_uppercase c == 91) ≡ (c == 91)
upper_opening c = grind (arith, nat_tests)

upper_closing : (c : ℕ) → (to_ascii_uppercase c == 93) ≡ (c == 93)
upper_closing c = grind (arith, nat_tests)

lower_opening : (c : ℕ) → (to_ascii_lowercase c == 91) ≡ (c == 91)
lower_opening c = grind (arith, nat_tests)

lower_closing : (c : ℕ) → (to_ascii_lowercase c == 93) ≡ (c == 93)
lower_closing c = grind (arith, nat_tests)

upper_kind : (c : ℕ) → is_ascii_alphanumeric (to_ascii_uppercase c) ≡ is_ascii_alphanumeric c
upper_kind c = grind (arith, nat_tests)

lower_kind : (c : ℕ) → is_ascii_alphanumeric (to_ascii_lowercase c) ≡ is_ascii_alphanumeric c
lower_kind c = grind (arith, nat_tests)

upper_keeps : Keeps to_ascii_uppercase
upper_keeps = record {
  opening = upper_opening;
  closing = upper_closing;
  letter = λ c. rw (upper_kind c, lowercase-uppercase c) refl;
}

lower_keeps : Keeps to_ascii_lowercase
lower_keeps = record {
  opening = lower_opening;
  closing = lower_closing;
  letter = λ c. rw (lower_kind c, lowercase-lowercase c) refl;
}

pub case_keeps_letters : CaseKeepsLetters
unfolding made
case_keeps_letters octets = (
  ap (made_from Letters Text) (in_capitals_is Text octets) ∙ same_letters to_ascii_uppercase upper_keeps Text octets,
  ap (made_from Letters Text) (in_small_letters_is Text octets) ∙ same_letters to_ascii_lowercase lower_keeps Text octets,
)
