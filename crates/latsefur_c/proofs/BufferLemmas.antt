-- A buffer that is written from its front on.
use Rattle.std.proofs.Common.{◌≡◌, ℕ, ◌+◌, List, ◌++◌, drop, length, ap, ◌∙◌, arith}
use Rattle.std.specs.Prelude.{take}
use Rattle.std.proofs.Math.Seq.{take-append_seam, drop-append-add}
use Rattle.std.proofs.lemmas.List.{drop-drop, length-append}

-- octets that are written after those in front stand after them
pub one_piece_more : (front line old now : List ℕ) → now ≡ front ++ drop (length front) old
    → take (length front) now ++ line ++ drop (length front + length line) now ≡ (front ++ line) ++ drop (length (front ++ line)) old
one_piece_more front line old now is =
    let rest = drop (length front) old in
    let before : take (length front) now ≡ front = ap (take (length front)) is ∙ take-append_seam front rest in
    let behind : drop (length front + length line) now ≡ drop (length (front ++ line)) old =
    ap (drop (length front + length line)) is ∙ drop-append-add front rest (length line) ∙ drop-drop (length line) (length front) old
    ∙ ap (λ k. drop k old) (let both = length-append front line in omega (arith, both)) in
    ap (λ l. l ++ line ++ drop (length front + length line) now) before ∙ ap (λ l. front ++ line ++ l) behind
