-- Rows of up to 64 pixels that are put into a plane, alone or one under the other.
use Rattle.std.specs.Prelude.{◌≡◌, ◌<◌, ℕ, ◌+◌, ◌-◌, ◌*◌, ◌/◌, Bool, if◌then◌else◌, ◌&&◌, ◌==◌, nat_lt, nat_le, List, length, slice_index}
use Rattle.std.specs.Int.{bit_at}
use Rattle.page_plane.specs.Octets.{row_octets, is_bit_set, bit_place}

-- pixel j of a row of 64 is set: bit 63 is the leftmost pixel's, and each bit below is the next one's to the right (own)
abbrev pub is_row_set : ℕ → ℕ → Bool
is_row_set bits j = bit_at bits (63 - j) == 1

-- a set pixel of the first width pixels of a row, put at column x of row y, comes to this column and row (own)
unfoldable pub is_put : ℕ → ℕ → ℕ → ℕ → ℕ → ℕ → Bool
is_put x y width bits column row = (row == y) && (nat_le x column && (nat_lt column (x + width) && is_row_set bits (column - x)))

-- a set pixel of the first width pixels of one of the first rows of these, the first put at column x of row y and each other
-- under the one before, comes to this column and row (own)
unfoldable pub is_first_put : ℕ → ℕ → ℕ → List ℕ → ℕ → ℕ → ℕ → Bool
is_first_put x y width rows count column row =
    nat_le y row && (nat_lt row (y + count) && is_put x row width (slice_index rows (row - y)) column row)

-- a set pixel of the first width pixels of one of these rows, the first put at column x of row y and each other under the
-- one before, comes to this column and row (own)
abbrev pub is_block_put : ℕ → ℕ → ℕ → List ℕ → ℕ → ℕ → Bool
is_block_put x y width rows column row = is_first_put x y width rows (length rows) column row

-- the bits of the octets of a plane of this many columns under the set pixels of the first of these rows are on, and all others
-- are as before (own)
abbrev pub IsBlockPutAt : List ℕ → List ℕ → ℕ → ℕ → ℕ → ℕ → List ℕ → ℕ → Bool → Type 0
IsBlockPutAt old new columns x y width rows count on = (column row : ℕ) → column < 8 * row_octets columns
    → is_bit_set new (bit_place columns column row)
    ≡ (if is_first_put x y width rows count column row then on else is_bit_set old (bit_place columns column row))

-- the bits of this octet of each row of octets under the set pixels of the first of these rows are on, and all others are as
-- before (own)
abbrev pub IsStripPutAt : List ℕ → List ℕ → ℕ → ℕ → ℕ → ℕ → ℕ → List ℕ → ℕ → Bool → Type 0
IsStripPutAt old new columns strip x y width rows count on = (column row : ℕ) → column < 8 * row_octets columns
    → is_bit_set new (bit_place columns column row)
    ≡ (if (column / 8 == strip) && is_first_put x y width rows count column row then on else is_bit_set old (bit_place columns column row))

-- the bit at this place is set in a word over the eight octets from octet `at` on, whose highest bit is for their first place (own)
abbrev pub is_in_word : ℕ → ℕ → ℕ → Bool
is_in_word at part place = nat_le (8 * at) place && (nat_lt place (8 * at + 64) && (bit_at part (63 - (place - 8 * at)) == 1))
