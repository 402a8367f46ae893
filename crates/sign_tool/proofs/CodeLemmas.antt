-- The texts of the answers about codes and times.
use Rattle.std.proofs.Common.{◌≡◌, ◌≢◌, ℕ, List, [], ◌∷◌, ◌++◌, refl, ap, ◌∙◌, append_assoc}
use Rattle.std.specs.Prelude.{codes, decimal}
use Rattle.std.specs.Int.{w16, to_be_bytes}
use Rattle.std.proofs.lemmas.Bool.{ne_eqb}
use Rattle.hex.specs.Hex.{encode_lower, encode_with}
use Rattle.message_store.specs.declared.message.MsgRef.{MsgRef}
use Rattle.sign_tool.specs.ServedTexts.{code_octets, tenths_text}

-- octets that are written one after the other are written as one
pub hex_more : (front back : List ℕ) → encode_lower (front ++ back) ≡ encode_lower front ++ encode_lower back
unfolding encode_with
hex_more [] back = refl
hex_more (c ∷ front) back = ap (λ (l : List ℕ). encode_lower (c ∷ []) ++ l) (hex_more front back)

hex_none : encode_lower (0 ∷ 0 ∷ 0 ∷ 0 ∷ []) ++ codes "\n" ≡ codes "00000000\n"
unfolding encode_with
hex_none = refl

-- an activation code is written by its parts
pub code_told : (message : MsgRef) (duration priority crc : ℕ) (start a b c d e first third fourth : List ℕ) → a ≡ start ++ codes "code " → first ≡ to_be_bytes w16 duration → b ≡ a ++ encode_lower first
    → c ≡ b ++ encode_lower (priority ∷ message.memory ∷ []) → third ≡ to_be_bytes w16 message.number → d ≡ c ++ encode_lower third → fourth ≡ to_be_bytes w16 crc → e ≡ d ++ encode_lower fourth
    → e ++ codes "00000000\n" ≡ start ++ (codes "code " ++ encode_lower (code_octets message duration priority crc) ++ codes "\n")
code_told message duration priority crc start a b c d e first third fourth is_a is_first is_b is_c is_third is_d is_fourth is_e =
    let second = priority ∷ message.memory ∷ [] in
    let parts : encode_lower (first ++ (second ++ (third ++ (fourth ++ (0 ∷ 0 ∷ 0 ∷ 0 ∷ [])))))
    ≡ encode_lower first ++ (encode_lower second ++ (encode_lower third ++ (encode_lower fourth ++ encode_lower (0 ∷ 0 ∷ 0 ∷ 0 ∷ [])))) =
    hex_more first (second ++ (third ++ (fourth ++ (0 ∷ 0 ∷ 0 ∷ 0 ∷ []))))
    ∙ ap (λ l. encode_lower first ++ l) (hex_more second (third ++ (fourth ++ (0 ∷ 0 ∷ 0 ∷ 0 ∷ [])))
    ∙ ap (λ l. encode_lower second ++ l) (hex_more third (fourth ++ (0 ∷ 0 ∷ 0 ∷ 0 ∷ []))
    ∙ ap (λ l. encode_lower third ++ l) (hex_more fourth (0 ∷ 0 ∷ 0 ∷ 0 ∷ [])))) in
    let octets : first ++ (second ++ (third ++ (fourth ++ (0 ∷ 0 ∷ 0 ∷ 0 ∷ [])))) ≡ code_octets message duration priority crc = rw (is_first, is_third, is_fourth) refl in
    let whole : e ++ codes "00000000\n" ≡ start ++ (codes "code " ++ encode_lower (first ++ (second ++ (third ++ (fourth ++ (0 ∷ 0 ∷ 0 ∷ 0 ∷ []))))) ++ codes "\n") =
    rw (is_e, is_d, is_c, is_b, is_a, parts, ← hex_none) (simp append_assoc refl) in
    whole ∙ ap (λ l. start ++ (codes "code " ++ encode_lower l ++ codes "\n")) octets

-- a number of tenths is written by its parts
pub tenths_told : (tenths same : ℕ) (start a b : List ℕ) → tenths ≢ 4294967295 → same ≡ tenths → a ≡ start ++ codes "next " → b ≡ a ++ decimal same
    → b ++ codes "\n" ≡ start ++ tenths_text tenths
tenths_told tenths same start a b some is is_a is_b = rw (is_b, is_a, is, ne_eqb _ _ some) (simp append_assoc refl)
