-- Octets that are copied within memory, part by part.
use Rattle.std.proofs.Common.{◌≡◌, ℕ, ◌+◌, ◌-◌, ◌≤◌, List, ◌++◌, take, drop, length, sym, ap, ◌∙◌, arith, length-drop, append_assoc}
use Rattle.std.specs.List.{copy_within}
use Rattle.std.proofs.Math.Seq.{paste, take-add}
use Rattle.std.proofs.lemmas.List.{drop-drop, drop_at, length-take-le, take-append-le, take-take, drop-take}
use Rattle.std.proofs.lemmas.List.Edits.{drop-paste, take-paste}

-- the same octets of a list and of what stands before others
take_of-front : (xs ys rest : List ℕ) (size at n : ℕ) → size ≤ length xs → ys ≡ take size xs ++ rest → at + n ≤ size → take n (drop at ys) ≡ take n (drop at xs)
take_of-front xs ys rest size at n long is within =
    let count = length-take-le size xs long in
    sym (drop-take at n ys)
    ∙ ap (drop at) (ap (take (at + n)) is ∙ take-append-le (at + n) (take size xs) rest (omega (arith, count, within)) ∙ take-take (at + n) size xs within)
    ∙ drop-take at n xs

-- one more part was moved to a place before its own
more-up : (xs : List ℕ) (from to moved n : ℕ) → to ≤ from → from + moved + n ≤ length xs
    → paste (paste xs to (drop from xs) moved) (to + moved) (drop (from + moved) (paste xs to (drop from xs) moved)) n ≡ paste xs to (drop from xs) (moved + n)
more-up xs from to moved n before within =
    let ys = drop from xs in
    let now = paste xs to ys moved in
    let long : moved ≤ length ys = omega (arith, length-drop from xs, within) in
    let behind : drop (to + moved) now ≡ drop (to + moved) xs = drop-paste xs to ys moved (omega (arith, within, before)) long in
    let further : (k : ℕ) → drop (to + moved + k) now ≡ drop (to + moved + k) xs = λ k. sym (drop-drop k (to + moved) now) ∙ ap (drop k) behind ∙ drop-drop k (to + moved) xs in
    let same : to + moved + (from - to) ≡ from + moved = omega (arith, before) in
    let source : drop (from + moved) now ≡ drop moved ys = ap (λ k. drop k now) (sym same) ∙ further (from - to) ∙ ap (λ k. drop k xs) same ∙ sym (drop-drop moved from xs) in
    ap (λ (l : List ℕ). l ++ take n (drop (from + moved) now) ++ drop (to + moved + n) now) (take-paste xs to ys moved (omega (arith, within, before)) long)
    ∙ ap (λ (l : List ℕ). take to xs ++ take moved ys ++ take n l ++ drop (to + moved + n) now) source
    ∙ ap (λ (l : List ℕ). take to xs ++ take moved ys ++ take n (drop moved ys) ++ l) (further n)
    ∙ ap (λ (l : List ℕ). l ++ drop (to + moved + n) xs) (append_assoc (take to xs) (take moved ys) (take n (drop moved ys)) ∙ ap (λ (l : List ℕ). take to xs ++ l) (sym (take-add moved n ys)))
    ∙ ap (λ k. take to xs ++ take (moved + n) ys ++ drop k xs) (let e : to + moved + n ≡ to + (moved + n) = omega arith in e)

-- one more part was moved to a place after its own
more-back : (xs : List ℕ) (from to left n rest : ℕ) → from ≤ to → to + (left + n + rest) ≤ length xs
    → paste (paste xs (to + (left + n)) (drop (from + (left + n)) xs) rest) (to + left) (drop (from + left) (paste xs (to + (left + n)) (drop (from + (left + n)) xs) rest)) n
    ≡ paste xs (to + left) (drop (from + left) xs) (n + rest)
more-back xs from to left n rest behind within =
    let size = to + (left + n) in
    let front = take size xs in
    let source = drop (from + (left + n)) xs in
    let after = take rest source ++ drop (size + rest) xs in
    let now = paste xs size source rest in
    let count : length front ≡ size = length-take-le size xs (omega (arith, within)) in
    let is : now ≡ front ++ after = append_assoc front (take rest source) (drop (size + rest) xs) in
    let at = from + left in
    let here = drop at xs in
    let next : drop n here ≡ source = drop-drop n at xs ∙ ap (λ k. drop k xs) (let e : at + n ≡ from + (left + n) = omega arith in e) in
    let before : take (to + left) now ≡ take (to + left) xs =
    ap (take (to + left)) is ∙ take-append-le (to + left) front after (omega (arith, count)) ∙ take-take (to + left) size xs (omega arith) in
    let part : take n (drop at now) ≡ take n here = take_of-front xs now after size at n (omega (arith, within)) is (omega (arith, behind)) in
    let behind_it : drop (to + left + n) now ≡ after = ap (λ k. drop k now) (let e : to + left + n ≡ size = omega arith in e) ∙ ap (drop size) is ∙ drop_at front after size count in
    ap (λ (l : List ℕ). l ++ take n (drop at now) ++ drop (to + left + n) now) before
    ∙ ap (λ (l : List ℕ). take (to + left) xs ++ l ++ drop (to + left + n) now) part
    ∙ ap (λ (l : List ℕ). take (to + left) xs ++ take n here ++ l) behind_it
    ∙ sym (append_assoc (take (to + left) xs ++ take n here) (take rest source) (drop (size + rest) xs))
    ∙ ap (λ (l : List ℕ). l ++ drop (size + rest) xs) (append_assoc (take (to + left) xs) (take n here) (take rest source))
    ∙ ap (λ (l : List ℕ). take (to + left) xs ++ l ++ drop (size + rest) xs) (ap (λ (l : List ℕ). take n here ++ take rest l) (sym next) ∙ sym (take-add n rest here))
    ∙ ap (λ k. take (to + left) xs ++ take (n + rest) here ++ drop k xs) (let e : size + rest ≡ to + left + (n + rest) = omega arith in e)

-- the same copy, by how many octets it has
counted : (xs : List ℕ) (from to n : ℕ) → copy_within xs from (from + n) to ≡ paste xs to (drop from xs) n
counted xs from to n = ap (paste xs to (drop from xs)) (let e : from + n - from ≡ n = omega arith in e)

pub moved-up : (xs now new : List ℕ) (from to moved n all : ℕ) → to ≤ from → from + all ≤ length xs → all ≡ moved + n
    → now ≡ copy_within xs from (from + moved) to → new ≡ copy_within now (from + moved) (from + moved + n) (to + moved) → new ≡ copy_within xs from (from + all) to
moved-up xs now new from to moved n all before within count so_far is =
    let ys = drop from xs in
    is
    ∙ counted now (from + moved) (to + moved) n
    ∙ ap (λ (l : List ℕ). paste l (to + moved) (drop (from + moved) l) n) (so_far ∙ counted xs from to moved)
    ∙ more-up xs from to moved n before (omega (arith, within, count))
    ∙ ap (paste xs to ys) (sym count)
    ∙ sym (counted xs from to all)

pub moved-back : (xs now new : List ℕ) (from to at dest left n more len : ℕ) → from ≤ to → to + len ≤ length xs → at ≡ from + left → dest ≡ to + left → more ≡ left + n → more ≤ len
    → now ≡ copy_within xs (from + more) (from + len) (to + more) → new ≡ copy_within now at (at + n) dest → new ≡ copy_within xs at (from + len) dest
moved-back xs now new from to at dest left n more len behind within at_is dest_is count less so_far is =
    let rest = len - more in
    let sized : (k : ℕ) → k ≤ len → copy_within xs (from + k) (from + len) (to + k) ≡ paste xs (to + k) (drop (from + k) xs) (len - k) =
    λ k below. ap (paste xs (to + k) (drop (from + k) xs)) (let e : from + len - (from + k) ≡ len - k = omega (arith, below) in e) in
    is
    ∙ counted now at dest n
    ∙ ap (λ (l : List ℕ). paste l dest (drop at l) n) (so_far ∙ sized more less ∙ ap (λ k. paste xs (to + k) (drop (from + k) xs) rest) count)
    ∙ ap (λ k. paste (paste xs (to + (left + n)) (drop (from + (left + n)) xs) rest) k (drop at (paste xs (to + (left + n)) (drop (from + (left + n)) xs) rest)) n) dest_is
    ∙ ap (λ k. paste (paste xs (to + (left + n)) (drop (from + (left + n)) xs) rest) (to + left) (drop k (paste xs (to + (left + n)) (drop (from + (left + n)) xs) rest)) n) at_is
    ∙ more-back xs from to left n rest behind (omega (arith, within, count, less))
    ∙ ap (paste xs (to + left) (drop (from + left) xs)) (let e : n + rest ≡ len - left = omega (arith, count, less) in e)
    ∙ sym (sized left (omega (arith, count, less)))
    ∙ ap (λ k. copy_within xs k (from + len) (to + left)) (sym at_is)
    ∙ ap (copy_within xs at (from + len)) (sym dest_is)
