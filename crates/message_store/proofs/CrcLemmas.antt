-- Eight bits at a time by a table are eight bits one after the other.
use Rattle.std.proofs.Common.{◌≡◌, ℕ, zero, suc, ◌+◌, ◌*◌, ◌/◌, ◌%◌, ◌^◌, ◌<◌, ◌⊎◌, inl, inr, List, [], ◌∷◌, fold, length, take, slice_index_or, refl, sym, ap, ◌∙◌, arith, bit_xor}
use Rattle.std.proofs.lemmas.List.Sums.{fold-append}
use Rattle.std.proofs.lemmas.List.{take_more}
use Rattle.std.proofs.lemmas.Nat.{xor_comm, xor_shr, xor_mod, xor_block}
use Rattle.std.proofs.lemmas.Nat.Bits.{bit_at_xor, same_from_bits, bit_at-zero}
use Rattle.message_store.specs.Crc.{bit_step, four_steps, octet_step}

xor_assoc : (a b c : ℕ) → bit_xor (bit_xor a b) c ≡ bit_xor a (bit_xor b c)
xor_assoc a b c = same_from_bits _ _ (λ i.
    omega (arith, bit_at_xor (bit_xor a b) c i, bit_at_xor a b i, bit_at_xor a (bit_xor b c) i, bit_at_xor b c i))

xor_none : (a : ℕ) → bit_xor a 0 ≡ a
xor_none a = same_from_bits _ _ (λ i. omega (arith, bit_at_xor a 0 i, bit_at-zero i))

-- what is combined twice is gone
xor_twice : (a b p : ℕ) → bit_xor (bit_xor a p) (bit_xor b p) ≡ bit_xor a b
xor_twice a b p = same_from_bits _ _ (λ i.
    omega (arith, bit_at_xor (bit_xor a p) (bit_xor b p) i, bit_at_xor a p i, bit_at_xor b p i, bit_at_xor a b i))

xor_behind : (a b p : ℕ) → bit_xor (bit_xor a b) p ≡ bit_xor (bit_xor a p) b
xor_behind a b p = same_from_bits _ _ (λ i.
    omega (arith, bit_at_xor (bit_xor a b) p i, bit_at_xor a b i, bit_at_xor (bit_xor a p) b i, bit_at_xor a p i))

-- the lowest bit
below_two : (r : ℕ) → r < 2 → (r ≡ 0) ⊎ (r ≡ 1)
below_two zero below = inl refl
below_two (suc zero) below = inr refl
below_two (suc (suc r)) below = absurd (omega (arith, below))

low : (n : ℕ) → (n % 2 ≡ 0) ⊎ (n % 2 ≡ 1)
low n = below_two (n % 2) (omega arith)

shifted : (n : ℕ) → n % 2 ≡ 0 → bit_step n ≡ n / 2
shifted n is = rw is refl

combined : (n : ℕ) → n % 2 ≡ 1 → bit_step n ≡ bit_xor (n / 2) 0x8408
combined n is = rw is refl

low_of_xor : (a b r s t : ℕ) → a % 2 ≡ r → b % 2 ≡ s → bit_xor r s ≡ t → bit_xor a b % 2 ≡ t
low_of_xor a b r s t ra sb is = xor_mod a b 1 ∙ ap (λ x. bit_xor x (b % 2)) ra ∙ ap (λ x. bit_xor r x) sb ∙ is

-- a bit of a combination is the combination of both bits
linear : (a b : ℕ) → bit_step (bit_xor a b) ≡ bit_xor (bit_step a) (bit_step b)
linear a b = elim (low a) [
  | inl a0 ↦ elim (low b) [
    | inl b0 ↦ shifted _ (low_of_xor a b 0 0 0 a0 b0 refl) ∙ xor_shr a b 1 ∙ sym (ap (λ x. bit_xor x (bit_step b)) (shifted a a0) ∙ ap (λ x. bit_xor (a / 2) x) (shifted b b0))
    | inr b1 ↦ combined _ (low_of_xor a b 0 1 1 a0 b1 refl) ∙ ap (λ x. bit_xor x 0x8408) (xor_shr a b 1) ∙ xor_assoc (a / 2) (b / 2) 0x8408
        ∙ sym (ap (λ x. bit_xor x (bit_step b)) (shifted a a0) ∙ ap (λ x. bit_xor (a / 2) x) (combined b b1))
  ]
  | inr a1 ↦ elim (low b) [
    | inl b0 ↦ combined _ (low_of_xor a b 1 0 1 a1 b0 refl) ∙ ap (λ x. bit_xor x 0x8408) (xor_shr a b 1) ∙ xor_behind (a / 2) (b / 2) 0x8408
        ∙ sym (ap (λ x. bit_xor x (bit_step b)) (combined a a1) ∙ ap (λ x. bit_xor (bit_xor (a / 2) 0x8408) x) (shifted b b0))
    | inr b1 ↦ shifted _ (low_of_xor a b 1 1 0 a1 b1 refl) ∙ xor_shr a b 1 ∙ sym (xor_twice (a / 2) (b / 2) 0x8408)
        ∙ sym (ap (λ x. bit_xor x (bit_step b)) (combined a a1) ∙ ap (λ x. bit_xor (bit_xor (a / 2) 0x8408) x) (combined b b1))
  ]
]

four-linear : (a b : ℕ) → four_steps (bit_xor a b) ≡ bit_xor (four_steps a) (four_steps b)
four-linear a b =
    ap (λ x. bit_step (bit_step (bit_step x))) (linear a b)
    ∙ ap (λ x. bit_step (bit_step x)) (linear (bit_step a) (bit_step b))
    ∙ ap (λ x. bit_step x) (linear (bit_step (bit_step a)) (bit_step (bit_step b)))
    ∙ linear (bit_step (bit_step (bit_step a))) (bit_step (bit_step (bit_step b)))

even-step : (n m : ℕ) → n ≡ 2 * m → bit_step n ≡ m
even-step n m is = shifted n (omega (arith, is)) ∙ omega (arith, is)

high : (h : ℕ) → four_steps (h * 16) ≡ h
high h =
    ap (λ x. bit_step (bit_step (bit_step x))) (even-step (h * 16) (h * 8) (omega arith))
    ∙ ap (λ x. bit_step (bit_step x)) (even-step (h * 8) (h * 4) (omega arith))
    ∙ ap (λ x. bit_step x) (even-step (h * 4) (h * 2) (omega arith))
    ∙ even-step (h * 2) h (omega arith)

high-eight : (h : ℕ) → four_steps (four_steps (h * 256)) ≡ h
high-eight h = ap (λ x. four_steps (four_steps x)) (let e : h * 256 ≡ h * 16 * 16 = omega arith in e) ∙ ap four_steps (high (h * 16)) ∙ high h

parts : (r : ℕ) → r ≡ bit_xor (r / 256 * 256) (r % 256)
parts r =
    let low8 : r % 256 < 2 ^ 8 = omega arith in
    sym (
    ap (λ x. bit_xor x (r % 256)) (let e : r / 256 * 256 ≡ r / 256 * 2 ^ 8 + 0 = omega arith in e)
    ∙ ap (λ x. bit_xor (r / 256 * 2 ^ 8 + 0) x) (let e : r % 256 ≡ 0 * 2 ^ 8 + r % 256 = omega arith in e)
    ∙ xor_block 8 (r / 256) 0 0 (r % 256) (omega arith) low8
    ∙ ap (λ x. x * 2 ^ 8 + bit_xor 0 (r % 256)) (xor_none (r / 256))
    ∙ ap (λ x. r / 256 * 2 ^ 8 + x) (xor_comm 0 (r % 256) ∙ xor_none (r % 256))
    ∙ omega arith)

-- eight bits of the register are its upper bits, combined with what eight bits make of its lowest eight
pub eight-is : (r : ℕ) → four_steps (four_steps r) ≡ bit_xor (r / 256) (four_steps (four_steps (r % 256)))
eight-is r =
    ap (λ x. four_steps (four_steps x)) (parts r)
    ∙ ap four_steps (four-linear (r / 256 * 256) (r % 256))
    ∙ four-linear (four_steps (r / 256 * 256)) (four_steps (r % 256))
    ∙ ap (λ x. bit_xor x (four_steps (four_steps (r % 256)))) (high-eight (r / 256))

-- one more octet of a text
pub octet_more : (text : List ℕ) (start n : ℕ) → n < length text → octet_step (fold octet_step start (take n text)) (slice_index_or text n 0) ≡ fold octet_step start (take (n + 1) text)
octet_more text start n below =
    sym (ap (fold octet_step start) (take_more text n 0 below) ∙ fold-append octet_step start (take n text) (slice_index_or text n 0 ∷ []))

eight-linear : (a b : ℕ) → four_steps (four_steps (bit_xor a b)) ≡ bit_xor (four_steps (four_steps a)) (four_steps (four_steps b))
eight-linear a b = ap four_steps (four-linear a b) ∙ four-linear (four_steps a) (four_steps b)

-- an octet after eight bits of the register: sixteen bits of its lowest eight, combined with eight bits of its upper ones and the octet
pub pair-is : (r octet : ℕ) → bit_xor (four_steps (four_steps (four_steps (four_steps (r % 256))))) (four_steps (four_steps (bit_xor (r / 256) octet)))
    ≡ four_steps (four_steps (bit_xor (four_steps (four_steps r)) octet))
pair-is r octet =
    let low8 = four_steps (four_steps (r % 256)) in
    sym (
    ap (λ x. four_steps (four_steps (bit_xor x octet))) (eight-is r)
    ∙ ap (λ x. four_steps (four_steps x)) (xor_behind (r / 256) low8 octet)
    ∙ eight-linear (bit_xor (r / 256) octet) low8
    ∙ xor_comm (four_steps (four_steps (bit_xor (r / 256) octet))) (four_steps (four_steps low8))
    )

-- one more pair of a text
pub pair_more : (text : List ℕ) (start register n : ℕ) → n + 1 < length text → register ≡ fold octet_step start (take n text)
    → octet_step (octet_step register (slice_index_or text n 0)) (slice_index_or text (n + 1) 0) ≡ fold octet_step start (take (n + 2) text)
pair_more text start register n below is =
    ap (λ r. octet_step (octet_step r (slice_index_or text n 0)) (slice_index_or text (n + 1) 0)) is
    ∙ ap (λ r. octet_step r (slice_index_or text (n + 1) 0)) (octet_more text start n (omega (arith, below)))
    ∙ octet_more text start (n + 1) below
    ∙ ap (λ k. fold octet_step start (take k text)) (let e : n + 1 + 1 ≡ n + 2 = omega arith in e)
