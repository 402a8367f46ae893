-- What a sign says of a text that it judges.
use Rattle.std.specs.Prelude.{ℕ, Bool, true, false}
use Rattle.multi_meaning.specs.Verdict.{Verdict, Accepted, Refused}

-- the string is accepted (own)
abbrev pub is_accepted : Verdict → Bool
is_accepted (Accepted pages) = true
is_accepted (Refused code at) = false

-- the MULTI error, 2 where there is none (NTCIP 1203 v03, dmsMultiSyntaxError)
abbrev pub error_of : Verdict → ℕ
error_of (Accepted pages) = 2
error_of (Refused code at) = code

-- the position of the MULTI error, 0 where there is none (NTCIP 1203 v03, dmsMultiSyntaxErrorPosition)
abbrev pub position_of : Verdict → ℕ
position_of (Accepted pages) = 0
position_of (Refused code at) = at
