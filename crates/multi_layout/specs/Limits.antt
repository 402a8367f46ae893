-- Limits on steps, for a string of n octets (own).
use Rattle.std.specs.Prelude.{ℕ, ◌+◌, ◌*◌, ◌/◌}
use Rattle.page_plane.specs.Octets.{row_octets}
use Rattle.sign_font.specs.Sign.{SignData, tallest}

-- the check limit, C1: the most steps that judging a string takes (own)
abbrev pub check_limit : ℕ → ℕ
check_limit n = 9 * n + 1

-- the octets of the sign's plane (own)
abbrev pub plane_octets : SignData → ℕ
plane_octets sign = row_octets sign.width * sign.height

-- the most steps that drawing takes over the string (own)
abbrev pub reading_limit : ℕ → ℕ
reading_limit n = 18 * n + 2

-- the most steps that drawing takes over the plane: a row for each row of each character, and a fill for page 0, for each new
-- page and for each background (own)
abbrev pub plane_limit : SignData → ℕ → ℕ
plane_limit sign n = tallest sign * n + plane_octets sign * (n / 4 + 1)

-- the drawing limit: the most steps that drawing one page, or all pages in turn, takes (own)
abbrev pub drawing_limit : SignData → ℕ → ℕ
drawing_limit sign n = reading_limit n + plane_limit sign n

-- the frame limit, C2: the most steps of judging a string, finding its page at a clock and drawing it (own)
abbrev pub frame_limit : SignData → ℕ → ℕ
frame_limit sign n = 2 * check_limit n + drawing_limit sign n
