-- Octets that are put one after the other.
use Rattle.std.proofs.Common.{◌≡◌, ◌≤◌, ℕ, ◌+◌, List, ◌++◌, take, drop, length, sym, ap, ◌∙◌, arith, append_assoc}
use Rattle.std.proofs.lemmas.List.{length-append, length-take-le, take_at, drop_at, drop-drop}
use Rattle.saved_octets.specs.Field.{placed}

-- the octets up to the end of those that are put, and those after them
front : (old first : List ℕ) (at : ℕ) → at ≤ length old → length (take at old ++ first) ≡ at + length first
front old first at within = omega (arith, length-append (take at old) first, length-take-le at old within)

-- octets that are put after others stand after them
pub placed_twice : (old first second : List ℕ) (at : ℕ) → at + length first + length second ≤ length old
    → placed (placed old at first) (at + length first) second ≡ placed old at (first ++ second)
placed_twice old first second at room =
    let head = take at old ++ first in
    let rest = drop (at + length first) old in
    let long : length head ≡ at + length first = front old first at (omega (arith, room)) in
    let begins : take (at + length first) (head ++ rest) ≡ head = take_at head rest (at + length first) long in
    let ends : drop (at + length first + length second) (head ++ rest) ≡ drop (at + length (first ++ second)) old =
    sym (drop-drop (length second) (at + length first) (head ++ rest))
    ∙ ap (drop (length second)) (drop_at head rest (at + length first) long)
    ∙ drop-drop (length second) (at + length first) old
    ∙ ap (λ n. drop n old) (let e : at + length first + length second ≡ at + length (first ++ second) = omega (arith, length-append first second) in e) in
    ap (λ (l : List ℕ). l ++ second ++ drop (at + length first + length second) (head ++ rest)) begins
    ∙ ap (λ (l : List ℕ). head ++ second ++ l) ends
    ∙ ap (λ (l : List ℕ). l ++ drop (at + length (first ++ second)) old) (append_assoc (take at old) first second)

-- one more part, at the place where the parts before it end
pub placed_more : (old now after done more : List ℕ) (at next : ℕ) → now ≡ placed old at done → next ≡ at + length done → next + length more ≤ length old
    → after ≡ placed now next more → after ≡ placed old at (done ++ more)
placed_more old now after done more at next was ends room is =
    is
    ∙ ap (λ (l : List ℕ). placed l next more) was
    ∙ ap (λ n. placed (placed old at done) n more) ends
    ∙ placed_twice old done more at (omega (arith, ends, room))
