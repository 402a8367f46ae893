-- Octets in memory that is reserved: what is left of them when a gap is closed.
use Rattle.std.proofs.Common.{◌≡◌, ℕ, ◌+◌, ◌-◌, ◌≤◌, List, ◌++◌, take, drop, length, sym, ap, ◌∙◌, arith, length-append, length-drop, append_assoc}
use Rattle.std.specs.List.{copy_within}
use Rattle.std.proofs.lemmas.List.{append-nil, drop-take, drop_at, take_all, drop_all, drop-append-le, drop-drop, length-take-le}

-- what is left of a list when a part of it is written, as a check puts it
written : (xs part : List ℕ) (from size : ℕ) → size ≡ length xs → from + length part ≤ length xs
    → take size (take from xs ++ (part ++ drop (length part) (drop from xs)) ++ drop (length (take from xs ++ (part ++ drop (length part) (drop from xs)))) xs)
    ≡ take from xs ++ (part ++ drop (from + length part) xs)
written xs part from size is within =
    let rest = drop (length part) (drop from xs) in
    let front = take from xs in
    let long : length (front ++ (part ++ rest)) ≡ length xs =
    omega (arith, length-append front (part ++ rest), length-append part rest, length-take-le from xs (omega (arith, within)), length-drop (length part) (drop from xs), length-drop from xs, within) in
    ap (λ (l : List ℕ). take size (front ++ (part ++ rest) ++ l)) (drop_all (length (front ++ (part ++ rest))) xs (omega (arith, long)))
    ∙ ap (take size) (append-nil (front ++ (part ++ rest)))
    ∙ take_all size (front ++ (part ++ rest)) (omega (arith, long, is))
    ∙ ap (λ (l : List ℕ). front ++ (part ++ l)) (drop-drop (length part) from xs)

-- what stood before a gap was moved back over it
pub closed-from-front : (xs new : List ℕ) (front start len : ℕ) → front + start + len ≤ length xs → new ≡ copy_within xs front (front + start) (front + len)
    → drop (front + len) new ≡ take start (drop front xs) ++ drop (start + len) (drop front xs)
closed-from-front xs new front start len within is =
    let to = front + len in
    let ys = drop front xs in
    let moved : ℕ → List ℕ = λ n. take n ys ++ drop (to + n) xs in
    let count = front + start - front in
    ap (drop to) (is ∙ append_assoc (take to xs) (take count ys) (drop (to + count) xs))
    ∙ drop_at (take to xs) (moved count) to (length-take-le to xs (omega (arith, within)))
    ∙ ap moved (let e : count ≡ start = omega arith in e)
    ∙ ap (λ (l : List ℕ). take start ys ++ l) (
    ap (λ n. drop n xs) (let e : to + start ≡ front + (start + len) = omega arith in e)
    ∙ sym (drop-drop (start + len) front xs)
    )

-- what stands after a gap was moved up over it
pub closed-from-back : (xs : List ℕ) (front start len : ℕ) → front + start + len ≤ length xs
    → drop front (take (front + start) xs ++ drop (front + start + len) xs) ≡ take start (drop front xs) ++ drop (start + len) (drop front xs)
closed-from-back xs front start len within =
    let from = front + start in
    drop-append-le front (take from xs) (drop (from + len) xs) (omega (arith, length-take-le from xs (omega (arith, within))))
    ∙ ap (λ (l : List ℕ). l ++ drop (from + len) xs) (drop-take front start xs)
    ∙ ap (λ (l : List ℕ). take start (drop front xs) ++ l) (
    ap (λ n. drop n xs) (let e : from + len ≡ front + (start + len) = omega arith in e)
    ∙ sym (drop-drop (start + len) front xs)
    )

-- a part was written over
pub written-over : (xs part text : List ℕ) (front start size : ℕ) → size ≡ length xs → front + start + length text ≤ length xs → part ≡ text
    → drop front (take size (take (front + start) xs ++ (part ++ drop (length part) (drop (front + start) xs))
    ++ drop (length (take (front + start) xs ++ (part ++ drop (length part) (drop (front + start) xs)))) xs))
    ≡ take start (drop front xs) ++ (text ++ drop (start + length text) (drop front xs))
written-over xs part text front start size is within same =
    let from = front + start in
    let long = ap (λ (l : List ℕ). length l) same in
    ap (drop front) (written xs part from size is (omega (arith, long, within)))
    ∙ ap (λ (l : List ℕ). drop front (take from xs ++ (l ++ drop (from + length l) xs))) same
    ∙ drop-append-le front (take from xs) (text ++ drop (from + length text) xs) (omega (arith, length-take-le from xs (omega (arith, within))))
    ∙ ap (λ (l : List ℕ). l ++ (text ++ drop (from + length text) xs)) (drop-take front start xs)
    ∙ ap (λ (l : List ℕ). take start (drop front xs) ++ (text ++ l)) (
    ap (λ n. drop n xs) (let e : from + length text ≡ front + (start + length text) = omega arith in e)
    ∙ sym (drop-drop (start + length text) front xs)
    )
