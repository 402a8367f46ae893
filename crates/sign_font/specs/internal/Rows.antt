-- The words that a cell's rows are kept as.
use Rattle.std.specs.Prelude.{ℕ, ◌+◌, ◌-◌, ◌*◌, ◌<◌, ◌≡◌, ◌&&◌, ◌==◌, nat_lt, List, length, slice_index}
use Rattle.std.specs.Int.{bit_at}
use Rattle.sign_font.specs.Cell.{is_set}

-- the word has the bits from a place on, as many as the width says: the first in bit 63, and no other bit (own)
abbrev pub IsWordOf : List ℕ → ℕ → ℕ → ℕ → Type 0
IsWordOf octets first width word =
    (column : ℕ) → column < 64
    → (bit_at word (63 - column) == 1) ≡ (nat_lt column width && is_set octets (first + column))

-- the words are the rows of the octets' pixels from the top, each this many columns wide (own)
abbrev pub AreRowsOf : List ℕ → ℕ → List ℕ → Type 0
AreRowsOf octets width words =
    (row : ℕ) → row < length words → IsWordOf octets (row * width) width (slice_index words row)
