-- How many dots there are in octets.
use Rattle.std.proofs.Common.{◌≡◌, ℕ, suc, ◌+◌, ◌≤◌, false, ◌==◌, if◌then◌else◌, List, [], ◌∷◌, drop, refl, inl, inr, arith}
use Rattle.std.proofs.lemmas.Bool.{cases_Bool}
use Rattle.std.proofs.lemmas.Bool.Decides.{nat_tests}
use Rattle.std.specs.List.{prefix_len}
use Rattle.std.specs.Char.{is_ascii_digit}
use Rattle.toml_parser.specs.Lexical.{first}

-- how many dots there are
abbrev pub dots_in : List ℕ → ℕ
dots_in [] = 0
dots_in (c ∷ cs) = if c == 46 then suc (dots_in cs) else dots_in cs

-- digits have none
pub digits_dots : (text : List ℕ) → dots_in text ≡ dots_in (drop (prefix_len is_ascii_digit text) text)
digits_dots [] = refl
digits_dots (c ∷ cs) =
    let rest = digits_dots cs in
    elim (cases_Bool (is_ascii_digit c)) [
      | inl is ↦
          let other : (c == 46) ≡ false = grind (arith, nat_tests) in
          let next : 1 + prefix_len is_ascii_digit cs ≡ suc (prefix_len is_ascii_digit cs) = omega arith in
          rw (is, other, next) rest
      | inr other ↦ rw other refl
    ]

-- one octet is one dot at most, and none if it is none
pub one_more : (text : List ℕ) → dots_in text ≤ suc (dots_in (drop 1 text))
one_more [] = omega arith
one_more (c ∷ cs) = grind arith

pub no_more : (text : List ℕ) → (first text == 46) ≡ false → dots_in text ≤ dots_in (drop 1 text)
no_more [] other = omega arith
no_more (c ∷ cs) other = rw other (omega arith)
