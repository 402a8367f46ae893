-- The lines of an input that is taken line by line.
use Rattle.std.proofs.Common.{◌≡◌, ◌≢◌, ℕ, zero, suc, ◌+◌, false, List, [], ◌∷◌, ◌++◌, length, take, refl, ap, ◌∙◌, arith, rules, append_assoc, append-nil}
use Rattle.std.specs.Prelude.{nat_lt, ◌==◌}
use Rattle.std.proofs.lemmas.List.Elements.{All-head, All-tail}
use Rattle.std.proofs.lemmas.Grind.{flat_map-append}
use Rattle.tool_streams.specs.Lines.{cut, IsOneLine, octets_of}
use Rattle.sign_tool.specs.internal.Blocks.{AreLines}

-- another octet is no line feed
differs : (c : ℕ) → c ≢ 10 → (c == 10) ≡ false
differs c h = search rules

pub cut-line : (line rest : List ℕ) → IsOneLine line → cut (line ++ 10 ∷ rest) ≡ record { whole = line ∷ (cut rest).whole; rest = (cut rest).rest }
unfolding cut
cut-line [] rest one = refl
cut-line (c ∷ line) rest one =
    let other = differs c (All-head (λ x. x ≢ 10) c line one) in
    rw (other, cut-line line rest (All-tail (λ x. x ≢ 10) c line one)) refl

pub cut-unfinished : (line : List ℕ) → IsOneLine line → cut line ≡ record { whole = []; rest = line }
unfolding cut
cut-unfinished [] one = refl
cut-unfinished (c ∷ line) one =
    let other = differs c (All-head (λ x. x ≢ 10) c line one) in
    rw (other, cut-unfinished line (All-tail (λ x. x ≢ 10) c line one)) refl

pub cut-lines : (lines : List (List ℕ)) (rest : List ℕ) → AreLines lines → cut (octets_of lines ++ rest) ≡ record { whole = lines ++ (cut rest).whole; rest = (cut rest).rest }
cut-lines [] rest each = refl
cut-lines (line ∷ lines) rest each =
    let others = octets_of lines in
    let regrouped : ((line ++ 10 ∷ []) ++ others) ++ rest ≡ line ++ 10 ∷ (others ++ rest) = simp append_assoc refl in
    rw (regrouped, cut-line line (others ++ rest) each.0, cut-lines lines rest each.1) refl

-- more lines
pub octets_of-append : (lines more : List (List ℕ)) → octets_of (lines ++ more) ≡ octets_of lines ++ octets_of more
octets_of-append lines more = flat_map-append (λ l. l ++ 10 ∷ []) lines more

pub octets_of-more : (lines : List (List ℕ)) (line : List ℕ) → octets_of (lines ++ line ∷ []) ≡ octets_of lines ++ (line ++ 10 ∷ [])
octets_of-more lines line = octets_of-append lines (line ∷ []) ∙ ap (λ l. octets_of lines ++ l) (append-nil (line ++ 10 ∷ []))

pub AreLines-append : (lines more : List (List ℕ)) → AreLines lines → AreLines more → AreLines (lines ++ more)
AreLines-append [] more each others = others
AreLines-append (line ∷ lines) more each others = (each.0, AreLines-append lines more each.1 others)

pub AreLines-more : (lines : List (List ℕ)) (line : List ℕ) → AreLines lines → IsOneLine line → AreLines (lines ++ line ∷ [])
AreLines-more lines line each one = AreLines-append lines (line ∷ []) each (one, tt)

-- the front of a text that goes past its first part
pub take-past : (front rest : List ℕ) (n k : ℕ) → n ≡ length front + k → take n (front ++ rest) ≡ front ++ take k rest
take-past [] rest n k e = ap (λ m. take m rest) (let same : n ≡ k = omega arith in same)
take-past (x ∷ front) rest zero k e = absurd (omega arith)
take-past (x ∷ front) rest (suc n) k e = ap (λ l. x ∷ l) (take-past front rest n k (omega arith))

pub nat_lt-past : (n k a b c : ℕ) → n ≡ a + k → c ≡ a + b → nat_lt n c ≡ nat_lt k b
nat_lt-past n k a b c p q = grind arith
