-- The digits of octets, pair by pair.
use Rattle.std.specs.Prelude.{ℕ, ◌+◌, ◌*◌, ◌/◌, ◌%◌, slice_index_or}
use Rattle.hex.specs.Hex.{lower_digits}

-- the two digits of an octet in lower case, the first one in the lower eight bits (own)
abbrev pub pair_of : ℕ → ℕ
pair_of octet = slice_index_or lower_digits (octet / 16) 0 + 256 * slice_index_or lower_digits (octet % 16) 0
