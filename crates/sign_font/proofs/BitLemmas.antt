-- Rows as words, one bit after another.
use Rattle.std.proofs.Common.{◌≡◌, ℕ, ◌+◌, ◌-◌, ◌*◌, ◌%◌, ◌^◌, ◌<◌, nat_lt, bit_or, List, true, false, refl, sym, ◌∙◌, arith, inl, inr, w64}
use Rattle.std.proofs.lemmas.Nat.Bits.{bit_at-zero, bit_at_set_same, bit_at_set_other}
use Rattle.std.proofs.lemmas.Bool.{cases_eq, le-ltb, lt-ltb, cases_lt}
use Rattle.sign_font.specs.Cell.{is_set}
use Rattle.sign_font.specs.internal.Rows.{IsWordOf}

-- no columns, no bits
pub word_none : (octets : List ℕ) (first : ℕ) → IsWordOf octets first 0 0
word_none octets first column h = rw (bit_at-zero (63 - column), le-ltb column 0 (omega arith)) refl

-- a further column does not matter to the others
width_more : (column width : ℕ) → (column ≡ width → ⊥) → nat_lt column (width + 1) ≡ nat_lt column width
width_more column width n =
    elim (cases_lt column width) [
      | inl h ↦ lt-ltb column (width + 1) (omega arith) ∙ sym (lt-ltb column width h)
      | inr h ↦ le-ltb column (width + 1) (omega arith) ∙ sym (le-ltb column width h)
    ]

-- one more column, whose bit is set
pub word_lit : (octets : List ℕ) (first width word : ℕ) → width < 64 → is_set octets (first + width) ≡ true → IsWordOf octets first width word → IsWordOf octets first (width + 1) (bit_or word (1 * 2 ^ (63 - width) % 2 ^ 64))
word_lit octets first width word room lit was column h =
    elim (cases_eq column width) [
      | inl e ↦ rw (e, bit_at_set_same w64 word (63 - width) (omega arith), lt-ltb width (width + 1) (omega arith), lit) refl
      | inr n ↦
          let other : 63 - column ≡ 63 - width → ⊥ = λ same. n (omega arith) in
          rw (bit_at_set_other w64 word (63 - width) (omega arith) (63 - column) other, width_more column width n) (was column h)
    ]

-- one more column, whose bit isn't
pub word_dark : (octets : List ℕ) (first width word : ℕ) → is_set octets (first + width) ≡ false → IsWordOf octets first width word → IsWordOf octets first (width + 1) word
word_dark octets first width word dark was column h =
    elim (cases_eq column width) [
      | inl e ↦ was column h ∙ rw (e, le-ltb width width (omega arith), lt-ltb width (width + 1) (omega arith), dark) refl
      | inr n ↦ rw (width_more column width n) (was column h)
    ]
