-- Parts of a body, as they are read.
use Rattle.std.specs.Prelude.{◌≡◌, ℕ, ◌≤◌, ◌&&◌, nat_le, nat_lt, if◌then◌else◌, List, [], ◌∷◌, ◌++◌, length, Option, Some, None}
use Rattle.std.specs.List.{All}
use Rattle.std.specs.Char.{digit_value}
use Rattle.multi_tag.specs.Number.{IsDigit, number}
use Rattle.multi_tag.specs.Form.{Form, d?, ◌means◌, ◌or◌, between}

-- the number that digits write, if there are digits (own)
abbrev pub written : ℕ → List ℕ → Option ℕ
written base [] = None
written base (octet ∷ octets) = Some (number base (octet ∷ octets))

-- a number from low to high, or none, if a number isn't out of that range (own)
abbrev pub in_range : ℕ → ℕ → Option ℕ → Option (Option ℕ)
in_range low high None = Some None
in_range low high (Some number) = if nat_le low number && nat_le number high then Some (Some number) else None

-- the value of a digit of a base, if it is one (own)
abbrev pub digit_of : ℕ → ℕ → Option ℕ
digit_of base octet = if nat_lt (digit_value octet) base then Some (digit_value octet) else None

-- the octets begin with a digit (own)
abbrev pub BeginsWithDigit : ℕ → List ℕ → Type 0
BeginsWithDigit base [] = ⊥
BeginsWithDigit base (octet ∷ octets) = IsDigit base octet

-- the octets begin with digits, all that stand there or as many of them as may be read, which write this number; the rest follows (own)
pub record IsCut (base most : ℕ) (octets : List ℕ) (value : Option ℕ) (rest : List ℕ) : Type 0 where
  pub digits : List ℕ
  pub whole : octets ≡ digits ++ rest
  pub each : All (IsDigit base) digits
  pub count : length digits ≤ most
  pub stops : BeginsWithDigit base rest → length digits ≡ most
  pub value_is : value ≡ written base digits

-- octets begin with a number and then this octet; the rest follows (own)
abbrev pub IsPartBefore : {V : Type 0} → ℕ → Form V → List ℕ → V → List ℕ → Type 0
IsPartBefore octet form octets value rest = (front : List ℕ) × (octets ≡ front ++ octet ∷ rest) × form front value

-- octets begin with no number that is followed by this octet (own)
abbrev pub HasNoPartBefore : {V : Type 0} → ℕ → Form V → List ℕ → Type 0
HasNoPartBefore {V} octet form octets = (front behind : List ℕ) (value : V) → octets ≡ front ++ octet ∷ behind → ¬ (form front value)

-- one time, or two times with a letter between them (NTCIP 1203 v03, MULTI tags 'pt' and 'fl')
abbrev pub times : ℕ → Form (Option ℕ × Option ℕ)
times letter = (d? 0 255 means (λ first. (first, None))) or between letter (d? 0 255) (d? 0 255)
