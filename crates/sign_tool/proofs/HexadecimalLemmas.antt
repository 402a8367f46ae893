-- Octets that are written digit by digit are their text in hexadecimal.
use Rattle.std.proofs.Common.{◌≡◌, ℕ, ◌+◌, ◌*◌, ◌/◌, ◌%◌, ◌<◌, ◌≤◌, List, [], ◌∷◌, ◌++◌, length, take, slice_index_or, slice_set, refl, sym, ap, ◌∙◌, arith, append_assoc}
use Rattle.std.proofs.lemmas.Grind.{take-set_at}
use Rattle.std.proofs.lemmas.List.{length-set, take_all, take_more}
use Rattle.hex.specs.Hex.{encode_lower, encode_with, lower_digits}
use Rattle.sign_tool.specs.internal.Hexadecimal.{pair_of}

-- one octet after others
encoded_behind : (t xs : List ℕ) (x : ℕ) → encode_with t (xs ++ x ∷ []) ≡ encode_with t xs ++ slice_index_or t (x / 16) 0 ∷ slice_index_or t (x % 16) 0 ∷ []
unfolding encode_with
encoded_behind t [] x = refl
encoded_behind t (y ∷ ys) x = ap (λ l. slice_index_or t (y / 16) 0 ∷ slice_index_or t (y % 16) 0 ∷ l) (encoded_behind t ys x)

-- a digit is an octet, so that both digits of a pair are read from it
digit_small : (n : ℕ) → n < 16 → slice_index_or lower_digits n 0 < 256
digit_small n below = grind (arith)

-- one more octet is written
pub one_written : (octets digits : List ℕ) (i pair : ℕ) → i < length octets → slice_index_or octets i 0 < 256 → 2 * i + 1 < length digits → pair ≡ pair_of (slice_index_or octets i 0)
    → take (2 * i) digits ≡ encode_lower (take i octets)
    → take (2 * (i + 1)) (slice_set (slice_set digits (2 * i) (pair % 256)) (2 * i + 1) (pair / 256)) ≡ encode_lower (take (i + 1) octets)
one_written octets digits i pair below octet there is so_far =
    let x = slice_index_or octets i 0 in
    let first = slice_index_or lower_digits (x / 16) 0 in
    let second = slice_index_or lower_digits (x % 16) 0 in
    let once = slice_set digits (2 * i) (pair % 256) in
    let same_first : pair % 256 ≡ first = omega (arith, is, digit_small (x / 16) (omega (arith, octet))) in
    let same_second : pair / 256 ≡ second = omega (arith, is, digit_small (x / 16) (omega (arith, octet))) in
    take-set_at once (2 * i + 1) (2 * (i + 1)) (pair / 256) (omega arith) (omega (arith, there, length-set digits (2 * i) (pair % 256)))
    ∙ ap (λ l. l ++ (pair / 256) ∷ []) (take-set_at digits (2 * i) (2 * i + 1) (pair % 256) refl (omega (arith, there)))
    ∙ append_assoc (take (2 * i) digits) ((pair % 256) ∷ []) ((pair / 256) ∷ [])
    ∙ ap (λ l. l ++ (pair % 256) ∷ (pair / 256) ∷ []) so_far
    ∙ ap (λ c. encode_lower (take i octets) ++ c ∷ (pair / 256) ∷ []) same_first
    ∙ ap (λ c. encode_lower (take i octets) ++ first ∷ c ∷ []) same_second
    ∙ sym (ap encode_lower (take_more octets i 0 below) ∙ encoded_behind lower_digits (take i octets) x)

-- all octets are written
pub all_written : (octets digits : List ℕ) (i : ℕ) → length octets ≤ i → length digits ≡ 2 * length octets → take (2 * i) digits ≡ encode_lower (take i octets) → digits ≡ encode_lower octets
all_written octets digits i all long so_far =
    sym (take_all (2 * i) digits (omega (arith, all, long))) ∙ so_far ∙ ap encode_lower (take_all i octets all)
