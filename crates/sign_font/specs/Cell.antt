-- The pixels of a character's cell.
use Rattle.std.specs.Prelude.{ℕ, ◌+◌, ◌-◌, ◌*◌, ◌/◌, ◌%◌, ◌<◌, ◌≡◌, Bool, ◌&&◌, ◌==◌, nat_lt, List, slice_index}
use Rattle.std.specs.Int.{bit_at}

-- a cell with its font's height: its number, its columns, its rows and the octets of its pixels (own)
pub record SizedCell : Type 0 where
  pub number : ℕ
  pub width : ℕ
  pub height : ℕ
  pub bits : List ℕ

-- the bit at a place among the bits of these octets, the highest bit of each octet first; after the last
-- octet no bit is set (NTCIP 1203 v03, object characterBitmap)
abbrev pub is_set : List ℕ → ℕ → Bool
is_set octets place = bit_at (slice_index octets (place / 8)) (7 - place % 8) == 1

-- the pixel of a column and a row: the rows stand in the bits from the top, each from the left
-- (NTCIP 1203 v03, object characterBitmap)
abbrev pub is_lit : SizedCell → ℕ → ℕ → Bool
is_lit cell column row = nat_lt column cell.width && is_set cell.bits (row * cell.width + column)

-- the word has the pixels of a row of the cell, column j in bit 63 - j, and no other bit (own)
abbrev pub IsRowOf : SizedCell → ℕ → ℕ → Type 0
IsRowOf cell row word = (column : ℕ) → column < 64 → (bit_at word (63 - column) == 1) ≡ is_lit cell column row
