-- Rows of pixels as lines of text.
use Rattle.std.specs.Prelude.{ℕ, Bool, true, false, List, [], ◌∷◌, ◌++◌, map}
use Rattle.std.specs.List.{flat_map, range_with_len}
use Rattle.page_plane.specs.Octets.{is_bit_set}
use Rattle.page_picture.specs.declared.rows.Mark.{Mark}
use Rattle.page_picture.specs.declared.rows.Mark.TheVariants.{Hash, One}
use Rattle.page_picture.specs.Colours.{row_values}

-- the octet of a mark for lit pixels (own)
abbrev pub octet_of : Mark → ℕ
octet_of Hash = 35
octet_of One = 49

-- the mark of a pixel: this octet if it is lit, and else a point, octet 46 (own)
abbrev pub mark_of : ℕ → Bool → ℕ
mark_of mark true = mark
mark_of mark false = 46

-- the marks of the first pixels of octets, from the highest bit of the first octet on (own)
abbrev pub octet_marks : ℕ → List ℕ → ℕ → List ℕ
octet_marks mark octets count = map (λ place. mark_of mark (is_bit_set octets place)) (range_with_len 0 count)

-- a row of pixels, with an octet for each, is a line, which ends with a line feed, octet 10 (own)
abbrev pub row_text : (ℕ → ℕ → ℕ) → ℕ → ℕ → List ℕ
row_text at width row = row_values at width row ++ 10 ∷ []

-- the rows of pixels from the top, with an octet for each by its column and row (own)
unfoldable pub rows_text : (ℕ → ℕ → ℕ) → ℕ → ℕ → List ℕ
rows_text at width height = flat_map (row_text at width) (range_with_len 0 height)

-- the rows of pixels from the top, with a mark for each that a test of column and row says is lit (own)
abbrev pub marked_rows : ℕ → (ℕ → ℕ → Bool) → ℕ → ℕ → List ℕ
marked_rows mark lit width height = rows_text (λ column row. mark_of mark (lit column row)) width height
