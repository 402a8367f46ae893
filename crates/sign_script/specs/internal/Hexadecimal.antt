-- Octets in hexadecimal, pair by pair.
use Rattle.std.specs.Prelude.{ℕ, ◌+◌, ◌*◌, nat_lt, if◌then◌else◌, List, [], ◌∷◌, ◌++◌, Option, None, Some, unwrap_or}
use Rattle.hex.specs.Hex.{hex_digit_value}

-- what an octet writes as a digit, in either case, and 256 where it is none (own)
abbrev pub digit_value : ℕ → ℕ
digit_value c = unwrap_or (hex_digit_value c) 256

-- the octet that two digits write (own)
abbrev pub pair_of : ℕ → ℕ → Option ℕ
pair_of high low =
    if nat_lt (digit_value high * 16 + digit_value low) 256 then Some (digit_value high * 16 + digit_value low) else None

-- octets before others, where those are known (own)
abbrev pub before : List ℕ → Option (List ℕ) → Option (List ℕ)
before xs None = None
before xs (Some ys) = Some (xs ++ ys)

-- an octet before others, where both are known (own)
abbrev pub first_of : Option ℕ → Option (List ℕ) → Option (List ℕ)
first_of None others = None
first_of (Some x) None = None
first_of (Some x) (Some xs) = Some (x ∷ xs)

-- the octets that pairs of digits write (own)
unfoldable pub pairs_of : List ℕ → Option (List ℕ)
pairs_of [] = Some []
pairs_of (digit ∷ []) = None
pairs_of (high ∷ low ∷ rest) = first_of (pair_of high low) (pairs_of rest)
