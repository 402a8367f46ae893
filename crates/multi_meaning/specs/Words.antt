-- Words on lists that the standard library lacks.
use Rattle.std.specs.Prelude.{ℕ, ◌+◌, max, Bool, List, [], ◌∷◌, Option, if◌then◌else◌}
use Rattle.std.specs.List.{filter_map, fold, sum_by, onto_first}

-- what f makes of each item and the items before it (own)
abbrev pub each_after : {X Y : Type 0} → (List X → X → Y) → List X → List Y
each_after f [] = []
each_after f (x ∷ xs) = f [] x ∷ each_after (λ before. f (x ∷ before)) xs

-- the same, without the items of which f makes nothing (own)
abbrev pub some_after : {X Y : Type 0} → (List X → X → Option Y) → List X → List Y
some_after f xs = filter_map (λ o. o) (each_after f xs)

-- each item with the next (own)
abbrev pub successive : {X : Type 0} → List X → List (X × X)
successive [] = []
successive (x ∷ []) = []
successive (x ∷ y ∷ xs) = (x, y) ∷ successive (y ∷ xs)

-- the parts of a list that is cut after each item that passes p; no part is empty (own)
abbrev pub cut_behind : {X : Type 0} → (X → Bool) → List X → List (List X)
cut_behind p [] = []
cut_behind p (x ∷ xs) = if p x then (x ∷ []) ∷ cut_behind p xs else onto_first x (cut_behind p xs)

-- the largest value of f, and 0 of no item (own)
abbrev pub largest : {X : Type 0} → (X → ℕ) → List X → ℕ
largest f xs = fold (λ most x. max most (f x)) 0 xs

-- the length of things of some sizes that stand in a row with gaps between them (own)
abbrev pub extent : {X : Type 0} → (X → ℕ) → (X → X → ℕ) → List X → ℕ
extent size gap xs = sum_by size xs + sum_by (λ pair. gap pair.0 pair.1) (successive xs)
