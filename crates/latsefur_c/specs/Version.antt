-- The version of the library.
use Rattle.std.specs.Prelude.{ℕ}

-- it is the number of the header that stands beside it (own)
abbrev pub version : ℕ
version = 3
