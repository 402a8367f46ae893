-- What the marks of pixels are written by.
use Rattle.std.specs.Prelude.{◌≡◌, ℕ, ◌+◌, ◌-◌, ◌*◌, ◌==◌, List, ◌++◌, drop, length, map, take}
use Rattle.std.specs.Int.{bit_at}
use Rattle.std.specs.List.{range_with_len}
use Rattle.page_plane.specs.Octets.{bit_place, is_bit_set}
use Rattle.page_picture.specs.Rows.{mark_of, marked_rows, octet_marks}

-- the marks of the eight pixels of an octet, from its highest bit on (own)
abbrev pub eight_marks : ℕ → ℕ → List ℕ
eight_marks mark octet = map (λ j. mark_of mark (bit_at octet (7 - j) == 1)) (range_with_len 0 8)

-- the table has the marks of the eight pixels of each octet (own)
abbrev pub IsTable : ℕ → List (List ℕ) → Type 0
IsTable mark table = table ≡ map (eight_marks mark) (range_with_len 0 256)

-- the text begins with the marks of the pixels of the octets, by a table, and goes on as it was (own)
abbrev pub WritesMarks : List (List ℕ) → List ℕ → List ℕ → List ℕ → Type 0
WritesMarks table octets old new =
    (mark : ℕ) → IsTable mark table → new ≡ octet_marks mark octets (8 * length octets) ++ drop (8 * length octets) old

-- the text begins with the marks of rows of this width that stand in octets, and goes on as it was from the eighth octet after them (own)
pub record WritesRows (mark : ℕ) (octets : List ℕ) (width height : ℕ) (old new : List ℕ) : Type 0 where
  pub len : length new ≡ length old
  pub written :
      take ((width + 1) * height) new ≡ marked_rows mark (λ column row. is_bit_set octets (bit_place width column row)) width height
  pub behind : drop ((width + 1) * height + 8) new ≡ drop ((width + 1) * height + 8) old
