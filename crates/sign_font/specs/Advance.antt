-- What octets take of a line.
use Rattle.std.specs.Prelude.{ℕ, ◌<◌, ◌≡◌, List, Option, slice_index, unwrap_or, if◌then◌else◌}
use Rattle.multi_token.specs.Spelling.{is_bracket}

-- the columns that an octet takes of a line, by these widths of octets; a bracket, and what has no width, takes more than any line has
-- (own)
abbrev pub advance_of : (ℕ → Option ℕ) → ℕ → ℕ
advance_of width_of octet = if is_bracket octet then 32768 else unwrap_or (width_of octet) 32768

-- by octet, what it takes of a line; of a wider number it says nothing (own)
abbrev pub AreAdvances : (ℕ → Option ℕ) → List ℕ → Type 0
AreAdvances width_of advances = (octet : ℕ) → octet < 256 → slice_index advances octet ≡ advance_of width_of octet
