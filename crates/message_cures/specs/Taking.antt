-- Which messages a sign takes.
use Rattle.std.specs.Prelude.{ℕ, Bool, true, false, nat_lt, List, length, if◌then◌else◌}
use Rattle.sign_font.specs.Sign.{SignData}
use Rattle.multi_meaning.specs.Verdict.{Verdict, Accepted, Refused, verdict}

-- a verdict accepts (own)
abbrev pub accepts : Verdict → Bool
accepts (Accepted pages) = true
accepts (Refused code at) = false

-- a sign takes a message: it has at most 4,096 octets, and is accepted (own)
unfoldable pub takes : SignData → List ℕ → Bool
takes sign octets = if nat_lt 4096 (length octets) then false else accepts (verdict sign octets)
