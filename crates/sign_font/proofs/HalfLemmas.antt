-- A search by halves among things whose numbers rise.
use Rattle.std.proofs.Common.{◌≡◌, ℕ, suc, ◌<◌, ◌≤◌, ◌+◌, ◌*◌, ◌^◌, ◌==◌, true, List, [], ◌∷◌, ◌++◌, map, length, get_or, take, drop, Some, None, refl, sym, ap, ◌∙◌, arith, inl, inr}
use Rattle.std.specs.Prelude.{find}
use Rattle.std.proofs.Math.Nat.{pow-suc, mul-le-mul_right}
use Rattle.std.proofs.lemmas.Bool.{eq-eqb, cases_eq, cases_lt}
use Rattle.std.proofs.lemmas.List.{take_more, take-append-drop}
use Rattle.std.proofs.lemmas.List.Folds.{find-append}
use Rattle.std.proofs.lemmas.Option.{slice_get_read, get_or_from_slice_get}
use Rattle.sign_font.specs.Limits.{is_rising}
use Rattle.sign_font.proofs.FindLemmas.{find_none}
use Rattle.sign_font.proofs.PlaceLemmas.{find_push_here, none_before}
use Rattle.sign_font.proofs.RisingLemmas.{rising_below}

-- a probe leaves at most half, so what is left times the power of two never rises
pub halved : (m n p : ℕ) → 2 * n ≤ m → m * 2 ^ p ≤ 255 → n * 2 ^ (p + 1) ≤ 255
halved m n p half few =
    let next : p + 1 ≡ suc p = omega arith in
    let power : 2 ^ (p + 1) ≡ 2 ^ p * 2 = ap (λ k. 2 ^ k) next ∙ pow-suc 2 p in
    let whole : n * 2 ^ (p + 1) ≡ n * (2 ^ p * 2) = ap (λ k. n * k) power in
    let least : 2 * n * 2 ^ p ≤ m * 2 ^ p = mul-le-mul_right (2 ^ p) half in
    omega (arith, whole, least, few)

-- the numbers of the first things are below this number
abbrev pub AreBelow : {X : Type 0} → (X → ℕ) → List X → ℕ → ℕ → Type 0
AreBelow {X} number_of things number count = (k : ℕ) (d : X) → k < count → number_of (get_or things k d) < number

-- the numbers of the things from a place on are above this number
abbrev pub AreAbove : {X : Type 0} → (X → ℕ) → List X → ℕ → ℕ → Type 0
AreAbove {X} number_of things number first = (k : ℕ) (d : X) → first ≤ k → k < length things → number < number_of (get_or things k d)

-- where no thing is left between those below and those above, none has the number
pub none_between : {X : Type 0} (number_of : X → ℕ) (things : List X) (number low high : ℕ) → high ≤ low → AreBelow number_of things number low → AreAbove number_of things number high
    → find (λ thing. number_of thing == number) things ≡ None
none_between number_of things number low high met below above =
    find_none number_of things number (λ k d within same.
    elim (cases_lt k low) [
      | inl early ↦ let less = below k d early in omega arith
      | inr late ↦ let more = above k d (omega arith) within in omega arith
    ])

module _ {X : Type 0} (number_of : X → ℕ) (things : List X) (rising : is_rising (map number_of things) ≡ true) (middle : ℕ) (thing : X) (within : middle < length things) (is : thing ≡ get_or things middle thing) where
  here : (d : X) → get_or things middle d ≡ thing
  here d = get_or_from_slice_get things middle thing d (slice_get_read things (length things) middle thing refl within is)

  -- up to a thing whose number is too small all are
  pub small_below : (number : ℕ) → number_of thing < number → AreBelow number_of things number (middle + 1)
  small_below number small k d h =
      let same : number_of (get_or things middle d) ≡ number_of thing = ap number_of (here d) in
      elim (cases_eq k middle) [
        | inl e ↦ rw e (omega arith)
        | inr other ↦ let before = rising_below number_of things d rising k middle (omega arith) within in omega arith
      ]

  -- from one whose number is too large on all are
  pub large_above : (number : ℕ) → number < number_of thing → AreAbove number_of things number middle
  large_above number large k d h inside =
      let same : number_of (get_or things middle d) ≡ number_of thing = ap number_of (here d) in
      elim (cases_eq k middle) [
        | inl e ↦ rw e (omega arith)
        | inr other ↦ let behind = rising_below number_of things d rising middle k (omega arith) inside in omega arith
      ]

  -- a thing that has the number is what is found
  pub found_here : (number : ℕ) → number_of thing ≡ number → find (λ other. number_of other == number) things ≡ Some thing
  found_here number named =
      let test = λ (other : X). number_of other == number in
      let more : take (middle + 1) things ≡ take middle things ++ thing ∷ [] = take_more things middle thing within ∙ ap (λ t. take middle things ++ t ∷ []) (sym is) in
      let none = none_before number_of things middle number thing rising within is named in
      let first : find test (take (middle + 1) things) ≡ Some thing = rw more (find_push_here test (take middle things) thing none (eq-eqb (number_of thing) number named)) in
      ap (find test) (sym (take-append-drop (middle + 1) things)) ∙ find-append test (take (middle + 1) things) (drop (middle + 1) things) ∙ rw first refl
