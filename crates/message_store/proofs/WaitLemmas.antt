-- The first element of a list that passes, with elements looked at and replaced.
use Rattle.std.proofs.Common.{◌≡◌, ℕ, zero, suc, ◌+◌, ◌<◌, ◌≤◌, Bool, true, false, not, cond, List, [], ◌∷◌, length, slice_index_or, slice_set, ap, arith}
use Rattle.std.specs.List.{position_or_len}
use Rattle.std.proofs.lemmas.List.Sums.{fails_before_first, position_or_len_is}

module _ {X : Type 0} (p : X → Bool) where
  -- nothing before n passes, and the element at n does
  pub first-here : (xs : List X) (n : ℕ) (d : X) → n < length xs → n ≤ position_or_len p xs → p (slice_index_or xs n d) ≡ true → position_or_len p xs ≡ n
  first-here xs n d below none passes = position_or_len_is p xs n d (omega (arith, below)) (λ k before. fails_before_first p xs k d (omega (arith, before, none))) (λ _. passes)

  -- nothing passes
  pub first-nowhere : (xs : List X) (n : ℕ) (d : X) → length xs ≤ n → n ≤ position_or_len p xs → position_or_len p xs ≡ length xs
  first-nowhere xs n d all none = position_or_len_is p xs (length xs) d (omega arith) (λ k before. fails_before_first p xs k d (omega (arith, before, all, none))) (λ below. absurd (omega (arith, below)))

  -- from places in what stands after the first element to places in the whole list
  later : (b : Bool) (n next m k : ℕ) → (n ≤ m → next ≤ k) → suc n ≤ cond (not b) (1 + m) 0 → suc next ≤ cond (not b) (1 + k) 0
  later true n next m k so none = absurd (omega (arith, none))
  later false n next m k so none = omega (arith, so (omega (arith, none)))

  -- nothing before n passes, and the element at n doesn't
  pub first-later : (xs : List X) (n : ℕ) (d : X) → n < length xs → n ≤ position_or_len p xs → p (slice_index_or xs n d) ≡ false → n + 1 ≤ position_or_len p xs
  first-later [] n d below none fails = absurd (omega (arith, below))
  first-later (x ∷ xs) zero d below none fails = omega (arith, ap (λ b. cond (not b) (1 + position_or_len p xs) 0) fails)
  first-later (x ∷ xs) (suc n) d below none fails =
      let first = position_or_len p xs in
      omega (arith, later (p x) n (n + 1) first first (λ rest. first-later xs n d (omega (arith, below)) rest fails) none)

  -- nothing before n passes, and an element from n on is replaced
  pub none-before : (xs : List X) (n i : ℕ) (y : X) → n ≤ i → n ≤ position_or_len p xs → n ≤ position_or_len p (slice_set xs i y)
  none-before [] n i y from none = omega (arith, none)
  none-before (x ∷ xs) zero i y from none = omega arith
  none-before (x ∷ xs) (suc n) zero y from none = absurd (omega (arith, from))
  none-before (x ∷ xs) (suc n) (suc i) y from none =
      later (p x) n n (position_or_len p xs) (position_or_len p (slice_set xs i y)) (none-before xs n i y (omega (arith, from))) none

  -- nothing before n passes, and an element is replaced by one that doesn't
  pub none-put : (xs : List X) (n i : ℕ) (y : X) → p y ≡ false → n ≤ position_or_len p xs → n ≤ position_or_len p (slice_set xs i y)
  none-put [] n i y fails none = omega (arith, none)
  none-put (x ∷ xs) zero i y fails none = omega arith
  none-put (x ∷ xs) (suc n) zero y fails none = omega (arith, ap (λ b. cond (not b) (1 + position_or_len p xs) 0) fails, within (p x) (position_or_len p xs), none)
    where
      within : (b : Bool) (m : ℕ) → cond (not b) (1 + m) 0 ≤ 1 + m
      within true m = omega arith
      within false m = omega arith
  none-put (x ∷ xs) (suc n) (suc i) y fails none =
      later (p x) n n (position_or_len p xs) (position_or_len p (slice_set xs i y)) (none-put xs n i y fails) none
