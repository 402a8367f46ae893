-- The points of a picture of a sign: a round dot for each pixel, on dark.
use Rattle.std.specs.Prelude.{ℕ, ◌+◌, ◌-◌, ◌*◌, Bool, ◌||◌, nat_le, nat_lt, List, map, slice_index, if◌then◌else◌}
use Rattle.std.specs.List.{flat_map, range_with_len}

-- how far the middle of a point lies from that of its pixel, in halves of a point, where a pixel has this many points side by side (own)
abbrev pub off_middle : ℕ → ℕ → ℕ
off_middle side point = (2 * point + 1 - side) + (side - (2 * point + 1))

-- a pixel is a square of points. Below 4 by 4 points all of them are its dot; from there on the dot is round: the square of its diameter is
-- three quarters of that of the side (own)
unfoldable pub is_in_dot : ℕ → ℕ → ℕ → Bool
is_in_dot side line point =
    nat_lt side 4
    || nat_le (4 * (off_middle side line * off_middle side line + off_middle side point * off_middle side point)) (3 * (side * side))

-- a point of a pixel of a colour, by its number in the palette: 0 between the dots, and in a dot the number after the colour's (own)
abbrev pub point_of : ℕ → ℕ → ℕ → ℕ → ℕ
point_of side colour line point = if is_in_dot side line point then colour + 1 else 0

-- the first points of a line of a pixel, from the left (own)
unfoldable pub dot_line : ℕ → ℕ → ℕ → ℕ → List ℕ
dot_line side colour line count = map (point_of side colour line) (range_with_len 0 count)

-- a line of points through the first pixels of a row, each by its column and row (own)
unfoldable pub line_points : ℕ → (ℕ → ℕ → ℕ) → ℕ → ℕ → ℕ → List ℕ
line_points side at row line count = flat_map (λ column. dot_line side (at column row) line side) (range_with_len 0 count)

-- the first lines of points of a row of pixels, from the top (own)
unfoldable pub row_points : ℕ → (ℕ → ℕ → ℕ) → ℕ → ℕ → ℕ → List ℕ
row_points side at width row count = flat_map (λ line. line_points side at row line width) (range_with_len 0 count)

-- the points of the first rows of pixels, from the top (own)
unfoldable pub dots : ℕ → (ℕ → ℕ → ℕ) → ℕ → ℕ → List ℕ
dots side at width count = flat_map (λ row. row_points side at width row side) (range_with_len 0 count)

-- a pixel by its column and row, where all stand in one list, row by row (own)
abbrev pub value_at : List ℕ → ℕ → ℕ → ℕ → ℕ
value_at values width column row = slice_index values (width * row + column)
