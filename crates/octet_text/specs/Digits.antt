-- Decimal digits.
use Rattle.std.specs.Prelude.{ℕ, Bool, nat_le, ◌&&◌}

-- whether an octet is a decimal digit, `0` to `9`, octets 48 to 57 (own)
abbrev pub is_digit : ℕ → Bool
is_digit c = nat_le 48 c && nat_le c 57
