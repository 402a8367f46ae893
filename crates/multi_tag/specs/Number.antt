-- What digits write.
use Rattle.std.specs.Prelude.{ℕ, ◌+◌, ◌*◌, ◌^◌, ◌<◌, List, [], ◌∷◌, length}
use Rattle.std.specs.Char.{digit_value}

-- a digit of a base: `0` to `9`, and from ten on letters from `a` on in either case (own)
abbrev pub IsDigit : ℕ → ℕ → Type 0
IsDigit base octet = digit_value octet < base

-- the sum of each digit times the base to the power of its place; the places are counted from the last digit, from 0 (own)
abbrev pub number : ℕ → List ℕ → ℕ
number base [] = 0
number base (octet ∷ octets) = digit_value octet * base ^ length octets + number base octets
