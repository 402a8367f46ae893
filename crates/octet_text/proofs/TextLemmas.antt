-- The values of functions on ranges of numbers, and text that grows by them.
use Rattle.std.proofs.Common.{◌≡◌, ℕ, zero, suc, ◌+◌, ◌<◌, List, [], ◌∷◌, ◌++◌, map, refl, sym, ap, ◌∙◌, arith, append_assoc, append-nil}
use Rattle.std.specs.List.{flat_map, range_with_len}

-- functions that agree on a range have the same values there
pub map_same : (f g : ℕ → ℕ) (a n : ℕ) → ((k : ℕ) → k < a + n → f k ≡ g k) → map f (range_with_len a n) ≡ map g (range_with_len a n)
map_same f g a zero same = refl
map_same f g a (suc n) same =
    ap (λ x. x ∷ map f (range_with_len (a + 1) n)) (same a (omega arith))
    ∙ ap (λ l. g a ∷ l) (map_same f g (a + 1) n (λ k below. same k (omega arith)))

pub flat_map_same : (f g : ℕ → List ℕ) (a n : ℕ) → ((k : ℕ) → k < a + n → f k ≡ g k) → flat_map f (range_with_len a n) ≡ flat_map g (range_with_len a n)
flat_map_same f g a zero same = refl
flat_map_same f g a (suc n) same =
    ap (λ x. x ++ flat_map f (range_with_len (a + 1) n)) (same a (omega arith))
    ∙ ap (λ l. g a ++ l) (flat_map_same f g (a + 1) n (λ k below. same k (omega arith)))

-- one more value on a range comes after those before it
pub flat_map_more : (f : ℕ → List ℕ) (a n j : ℕ) → a + n ≡ j → flat_map f (range_with_len a (suc n)) ≡ flat_map f (range_with_len a n) ++ f j
flat_map_more f a zero j is = append-nil (f a) ∙ ap f (omega (arith, is))
flat_map_more f a (suc n) j is =
    ap (λ l. f a ++ l) (flat_map_more f (a + 1) n j (omega (arith, is)))
    ∙ sym (append_assoc (f a) (flat_map f (range_with_len (a + 1) n)) (f j))

pub map_more : (f : ℕ → ℕ) (a n j : ℕ) → a + n ≡ j → map f (range_with_len a (suc n)) ≡ map f (range_with_len a n) ++ f j ∷ []
map_more f a zero j is = ap (λ x. x ∷ []) (ap f (omega (arith, is)))
map_more f a (suc n) j is = ap (λ l. f a ∷ l) (map_more f (a + 1) n j (omega (arith, is)))

-- what was written so far grows by one piece
pub grown : (start now new done piece more : List ℕ) → now ≡ start ++ done → new ≡ now ++ piece → more ≡ done ++ piece → new ≡ start ++ more
grown start now new done piece more so_far next is =
    next ∙ ap (λ l. l ++ piece) so_far ∙ append_assoc start done piece ∙ ap (λ l. start ++ l) (sym is)
