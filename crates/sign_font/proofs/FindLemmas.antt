-- Looking up by a number.
use Rattle.std.proofs.Common.{◌≡◌, ℕ, ◌==◌, Bool, List, [], ◌∷◌, map, None, max, refl, ◌∙◌, arith, inl, inr}
use Rattle.std.specs.Prelude.{find, fold, is_some, option_map, All}
use Rattle.std.specs.List.{list_any}
use Rattle.std.proofs.lemmas.Bool.{ne_eqb, cases_Bool}
use Rattle.std.proofs.lemmas.List.Elements.{All-head, All-tail}
use Rattle.sign_font.specs.Sign.{largest}

-- a test finds something where some element passes it
pub is_some-find-map : {X Y : Type 0} (test : Y → Bool) (f : X → Y) (xs : List X) → is_some (find test (map f xs)) ≡ list_any (λ x. test (f x)) xs
is_some-find-map test f [] = refl
is_some-find-map test f (x ∷ xs) =
    elim (cases_Bool (test (f x))) [
      | inl e ↦ rw e refl
      | inr e ↦ rw e (is_some-find-map test f xs)
    ]

-- the largest by a fold
fold_from : {X : Type 0} (f : X → ℕ) (first : ℕ) (xs : List X) → fold (λ a x. max a (f x)) first xs ≡ max first (largest (map f xs))
fold_from f first [] = omega arith
fold_from f first (x ∷ xs) = let e : max (max first (f x)) (largest (map f xs)) ≡ max first (max (f x) (largest (map f xs))) = omega arith in fold_from f (max first (f x)) xs ∙ e

pub fold-largest : {X : Type 0} (f : X → ℕ) (xs : List X) → fold (λ a x. max a (f x)) 0 xs ≡ largest (map f xs)
fold-largest f xs = let e : max 0 (largest (map f xs)) ≡ largest (map f xs) = omega arith in fold_from f 0 xs ∙ e

-- where none has the number, none is found
pub find_none : {X : Type 0} (key : X → ℕ) (xs : List X) (number : ℕ) → All (λ x. key x ≡ number → ⊥) xs → find (λ x. key x == number) xs ≡ None
find_none key [] number none = refl
find_none key (x ∷ xs) number none =
    rw (ne_eqb (key x) number (All-head (λ y. key y ≡ number → ⊥) x xs none)) (find_none key xs number (All-tail (λ y. key y ≡ number → ⊥) x xs none))

-- a number found in a list that was made of another
pub find-map : {X Y : Type 0} (test : Y → Bool) (of : X → Y) (xs : List X) → find test (map of xs) ≡ option_map of (find (λ x. test (of x)) xs)
find-map test of [] = refl
find-map test of (x ∷ xs) =
    elim (cases_Bool (test (of x))) [
      | inl e ↦ rw e refl
      | inr e ↦ rw e (find-map test of xs)
    ]
