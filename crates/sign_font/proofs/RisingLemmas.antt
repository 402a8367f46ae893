-- Numbers that rise.
use Rattle.std.proofs.Common.{◌≡◌, ℕ, zero, suc, ◌+◌, ◌<◌, ◌≤◌, nat_lt, Bool, true, false, List, [], ◌∷◌, map, length, get_or, drop, refl, sym, ap, ◌∙◌, arith, inl, inr}
use Rattle.std.specs.List.{list_all}
use Rattle.std.proofs.lemmas.Bool.{and_parts, and_from, and_left, and_right, lt-ltb, le-ltb, ltb-true, cases_Bool}
use Rattle.std.proofs.lemmas.List.{drop_more}
use Rattle.sign_font.specs.Limits.{is_rising}

-- what is below the first is below all after it
below_all : (last number : ℕ) (behind : List ℕ) → last < number → list_all (nat_lt number) behind ≡ true → list_all (nat_lt last) behind ≡ true
below_all last number [] h all = refl
below_all last number (n ∷ behind) h all =
    let parts = and_parts (nat_lt number n) (list_all (nat_lt number) behind) all in
    let above : number < n = ltb-true number n parts.0 in
    and_from _ _ (lt-ltb last n (omega arith)) (below_all last number behind h parts.1)

-- a number above the last takes its place
pub rising_on : (last number : ℕ) (behind : List ℕ) → last < number → is_rising (last ∷ number ∷ behind) ≡ is_rising (number ∷ behind)
rising_on last number behind h =
    elim (cases_Bool (list_all (nat_lt number) behind)) [
      | inl all ↦ rw (lt-ltb last number h, below_all last number behind h all) refl
      | inr some ↦
          let here : is_rising (number ∷ behind) ≡ false = and_left (list_all (nat_lt number) behind) (is_rising behind) some in
          and_right (list_all (nat_lt last) (number ∷ behind)) (is_rising (number ∷ behind)) here ∙ sym here
    ]

-- a number that isn't above the last ends it
pub rising_ends : (last number : ℕ) (behind : List ℕ) → number ≤ last → is_rising (last ∷ number ∷ behind) ≡ false
rising_ends last number behind h = rw (le-ltb last number h) refl

-- the same at a place of a list
pub rising_more : {X : Type 0} (f : X → ℕ) (xs : List X) (i last : ℕ) (x : X) → i < length xs → x ≡ get_or xs i x → last < f x
    → is_rising (last ∷ map f (drop i xs)) ≡ is_rising (f x ∷ map f (drop (i + 1) xs))
rising_more f xs i last x h e above =
    let cut : drop i xs ≡ x ∷ drop (i + 1) xs = drop_more xs i x h ∙ ap (λ y. y ∷ drop (i + 1) xs) (sym e) in
    ap (λ ys. is_rising (last ∷ map f ys)) cut ∙ rising_on last (f x) (map f (drop (i + 1) xs)) above

pub rising_stops : {X : Type 0} (f : X → ℕ) (xs : List X) (i last : ℕ) (x : X) → i < length xs → x ≡ get_or xs i x → f x ≤ last
    → is_rising (last ∷ map f (drop i xs)) ≡ false
rising_stops f xs i last x h e above =
    let cut : drop i xs ≡ x ∷ drop (i + 1) xs = drop_more xs i x h ∙ ap (λ y. y ∷ drop (i + 1) xs) (sym e) in
    ap (λ ys. is_rising (last ∷ map f ys)) cut ∙ rising_ends last (f x) (map f (drop (i + 1) xs)) above

-- what is below all is below each
first_below : {X : Type 0} (f : X → ℕ) (xs : List X) (d : X) (number : ℕ) → list_all (nat_lt number) (map f xs) ≡ true → (j : ℕ) → j < length xs → number < f (get_or xs j d)
first_below f [] d number all j k = absurd (omega arith)
first_below f (x ∷ xs) d number all zero k = ltb-true number (f x) (and_parts _ _ all).0
first_below f (x ∷ xs) d number all (suc j) k = first_below f xs d number (and_parts _ _ all).1 j (omega arith)

-- the number at a place is above all before it
pub rising_below : {X : Type 0} (f : X → ℕ) (xs : List X) (d : X) → is_rising (map f xs) ≡ true → (i j : ℕ) → i < j → j < length xs → f (get_or xs i d) < f (get_or xs j d)
rising_below f [] d r i j h k = absurd (omega arith)
rising_below f (x ∷ xs) d r i zero h k = absurd (omega arith)
rising_below f (x ∷ xs) d r zero (suc j) h k =
    let parts = and_parts (list_all (nat_lt (f x)) (map f xs)) (is_rising (map f xs)) r in
    first_below f xs d (f x) parts.0 j (omega arith)
rising_below f (x ∷ xs) d r (suc i) (suc j) h k =
    let parts = and_parts (list_all (nat_lt (f x)) (map f xs)) (is_rising (map f xs)) r in
    rising_below f xs d parts.1 i j (omega arith) (omega arith)

above_zero : {X : Type 0} (test : X → Bool) (f : X → ℕ) (xs : List X) → ((x : X) → test x ≡ true → 0 < f x) → list_all test xs ≡ true
    → list_all (nat_lt 0) (map f xs) ≡ true
above_zero test f [] says all = refl
above_zero test f (x ∷ xs) says all =
    let parts = and_parts (test x) (list_all test xs) all in
    and_from _ _ (lt-ltb 0 (f x) (says x parts.0)) (above_zero test f xs says parts.1)

-- numbers of which none is 0 rise from above 0
pub rising_from_zero : {X : Type 0} (test : X → Bool) (f : X → ℕ) (xs : List X) → ((x : X) → test x ≡ true → 0 < f x) → list_all test xs ≡ true
    → is_rising (0 ∷ map f xs) ≡ is_rising (map f xs)
rising_from_zero test f xs says all = rw (above_zero test f xs says all) refl
