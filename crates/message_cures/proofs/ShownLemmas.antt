-- What is made of a message, octet by octet.
use Rattle.std.proofs.Common.{◌≡◌, ◌≢◌, ℕ, ◌+◌, ◌<◌, ◌≤◌, true, false, List, [], ◌∷◌, ◌++◌, length, get_or, drop, refl, sym, ap, ◌∙◌, arith, add-one, append_assoc, append-nil, drop-cons}
use Rattle.std.proofs.lemmas.Grind.{common_steps}
use Rattle.message_cures.specs.Shown.{is_closed, made_from, made_of, next_place}
use Rattle.message_cures.specs.declared.shown.Change.{Change}
use Rattle.message_cures.specs.declared.shown.Place.{Place}

-- what is left of a list begins with the element at its place
pub dropped : (xs : List ℕ) (i : ℕ) → i < length xs → drop i xs ≡ get_or xs i 0 ∷ drop (i + 1) xs
dropped xs i below = rw (add-one, drop-cons xs i 0) refl

-- nothing is left behind the end
pub all_dropped : (xs : List ℕ) (i : ℕ) → length xs ≤ i → drop i xs ≡ []
all_dropped xs i past = grind (arith, common_steps)

-- the next bracket closes, or opens, or the octet is none
pub closes : (c : ℕ) (rest : List ℕ) → c ≡ 93 → is_closed (c ∷ rest) ≡ true
closes c rest e = rw e refl

pub opens : (c : ℕ) (rest : List ℕ) → c ≡ 91 → is_closed (c ∷ rest) ≡ false
opens c rest e = rw e refl

pub goes_on : (c : ℕ) (rest : List ℕ) → c ≢ 93 → c ≢ 91 → is_closed (c ∷ rest) ≡ is_closed rest
goes_on c rest other another = grind (arith, common_steps)

-- one octet more
pub made_more : (change : Change) (place : Place) (xs out new total : List ℕ) (i : ℕ) → i < length xs → out ++ made_from change place (drop i xs) ≡ total
    → new ≡ out ++ made_of change place (get_or xs i 0)
    → new ++ made_from change (next_place place (get_or xs i 0) (drop (i + 1) xs)) (drop (i + 1) xs) ≡ total
made_more change place xs out new total i below so_far is =
    let rest = drop (i + 1) xs in
    let octet = get_or xs i 0 in
    let next = next_place place octet rest in
    let here : made_from change place (drop i xs) ≡ made_of change place octet ++ made_from change next rest = ap (made_from change place) (dropped xs i below) in
    ap (λ l. l ++ made_from change next rest) is
    ∙ append_assoc out (made_of change place octet) (made_from change next rest)
    ∙ ap (λ l. out ++ l) (sym here)
    ∙ so_far

-- and none is left
pub made_all : (change : Change) (place : Place) (xs out total : List ℕ) (i : ℕ) → length xs ≤ i → out ++ made_from change place (drop i xs) ≡ total → out ≡ total
made_all change place xs out total i past so_far =
    sym (append-nil out) ∙ ap (λ l. out ++ made_from change place l) (sym (all_dropped xs i past)) ∙ so_far
