-- What fits a line and an area (own).
use Rattle.std.specs.Prelude.{ℕ, ◌+◌, ◌-◌, ◌/◌, Bool, ◌||◌, ◌&&◌, ◌==◌, nat_le, List}
use Rattle.multi_meaning.specs.Address.{Spot, segment}
use Rattle.multi_meaning.specs.Line.{width_of}

-- parts of these sizes at the start, in the middle and at the end stand apart within a length (own)
abbrev pub fit : ℕ → ℕ → ℕ → ℕ → Bool
fit a b c length = nat_le (a + b + c) length && ((b == 0) || (nat_le a ((length - b) / 2) && nat_le ((length - b) / 2 + b) (length - c)))

-- a line fits a width: its left, centre and right characters stand apart, and its full ones aren't wider (NTCIP 1203 v03, MULTI tag 'jl')
abbrev pub line_fits : ℕ → List Spot → Bool
line_fits width line =
    fit (width_of (segment 2 line)) (width_of (segment 3 line)) (width_of (segment 4 line)) width
    && nat_le (width_of (segment 5 line)) width
