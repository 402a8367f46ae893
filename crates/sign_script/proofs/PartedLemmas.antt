-- A text and its first field.
use Rattle.std.proofs.Common.{◌≡◌, ℕ, zero, suc, ◌+◌, ◌<◌, ◌≤◌, true, false, List, [], ◌∷◌, length, take, drop, None, Some, inl, inr, refl, sym, ap, ◌∙◌, arith}
use Rattle.std.specs.Prelude.{◌==◌, nat_lt}
use Rattle.std.specs.List.{position, position_or_len}
use Rattle.std.proofs.lemmas.Bool.{cases_Bool}
use Rattle.std.proofs.lemmas.List.{drop_more}
use Rattle.std.proofs.lemmas.Option.{cond_some}
use Rattle.sign_script.specs.Fields.{Parted, left, parted}

-- where the first space of a text stands, or the length of the text
abbrev place : List ℕ → ℕ
place text = position_or_len (λ octet. octet == 32) text

place_at : (c : ℕ) (cs : List ℕ) → (c == 32) ≡ true → place (c ∷ cs) ≡ 0
place_at c cs is = rw is refl

place_past : (c : ℕ) (cs : List ℕ) → (c == 32) ≡ false → place (c ∷ cs) ≡ suc (place cs)
place_past c cs differs = rw differs (omega arith)

-- a text without a space is one field
whole : (text : List ℕ) → length text ≤ place text → parted text ≡ record { field = text; rest = None }
unfolding parted
whole [] past = refl
whole (c ∷ cs) past =
    elim (cases_Bool (c == 32)) [
      | inl is ↦ absurd (omega (arith, place_at c cs is))
      | inr differs ↦ rw (differs, whole cs (omega (arith, place_past c cs differs))) refl
    ]

-- the first space of a text ends its field
at_space : (text : List ℕ) (at : ℕ) → place text ≡ at → at < length text → parted text ≡ record { field = take at text; rest = Some (drop (at + 1) text) }
unfolding parted
at_space [] at is within = absurd (omega arith)
at_space (c ∷ cs) zero is within =
    elim (cases_Bool (c == 32)) [
      | inl space ↦ rw space refl
      | inr differs ↦ absurd (omega (arith, place_past c cs differs))
    ]
at_space (c ∷ cs) (suc at) is within =
    elim (cases_Bool (c == 32)) [
      | inl space ↦ absurd (omega (arith, place_at c cs space))
      | inr differs ↦
          let more : suc at + 1 ≡ suc (at + 1) = omega arith in
          rw (differs, more, at_space cs at (omega (arith, place_past c cs differs)) (omega arith)) refl
    ]

pub parted_none : (text : List ℕ) → position (λ octet. octet == 32) text ≡ None → parted text ≡ record { field = text; rest = None }
parted_none text is = whole text (grind (arith, is))

pub parted_some : (text : List ℕ) (at : ℕ) → position (λ octet. octet == 32) text ≡ Some at → parted text ≡ record { field = take at text; rest = Some (drop (at + 1) text) }
parted_some text at is =
    let found = cond_some (nat_lt (place text) (length text)) (place text) at is in
    at_space text at found.1 (grind (arith, found.0, found.1))

-- what is left from the first space on
pub parted_left : (text : List ℕ) (at : ℕ) → position (λ octet. octet == 32) text ≡ Some at → left (drop at text) ≡ (parted text).rest
parted_left text at is =
    let found = cond_some (nat_lt (place text) (length text)) (place text) at is in
    ap left (drop_more text at 0 (grind (arith, found.0, found.1))) ∙ sym (ap (λ (p : Parted). p.rest) (parted_some text at is))
