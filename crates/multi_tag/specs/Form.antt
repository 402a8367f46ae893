-- Forms of octets: words for the rows of the tag table.
use Rattle.std.specs.Prelude.{◌≡◌, ◌≢◌, ◌⊎◌, ℕ, ◌≤◌, List, [], ◌∷◌, ◌++◌, length, Option, Some, None}
use Rattle.std.specs.List.{All}
use Rattle.multi_tag.specs.Number.{IsDigit, number}

-- a form: which octets spell which value (own)
abbrev pub Form : Type 0 → Type 1
Form V = List ℕ → V → Type 0

-- nothing stands there, which spells this value (own)
abbrev pub nothing : {V : Type 0} → V → Form V
nothing meaning octets value = (octets ≡ []) × (value ≡ meaning)

-- the octets are digits of a base, at least one and at most this many, and write a number from low to high (NTCIP 1203 v03, MULTI)
pub record IsNumber (base most low high : ℕ) (octets : List ℕ) (value : ℕ) : Type 0 where
  pub each : All (IsDigit base) octets
  pub least : octets ≢ []
  pub count : length octets ≤ most
  pub spelled : value ≡ number base octets
  pub above : low ≤ value
  pub below : value ≤ high

-- d: 1 to 5 decimal digits, for a number from low to high (NTCIP 1203 v03, MULTI; how many digits is own)
abbrev pub d : ℕ → ℕ → Form ℕ
d low high = IsNumber 10 5 low high

-- h: 1 to 4 hexadecimal digits, for a number from low to high (NTCIP 1203 v03, MULTI tags 'fo' and 'hc'; how many digits is own)
abbrev pub h : ℕ → ℕ → Form ℕ
h low high = IsNumber 16 4 low high

infixr 2 ◌or◌
infix 3 ◌means◌
-- the value that a form spells, put into another (own)
abbrev pub ◌means◌ : {U V : Type 0} → Form U → (U → V) → Form V
◌means◌ {U} form meaning octets value = (u : U) × form octets u × (value ≡ meaning u)

-- one form or another (own)
abbrev pub ◌or◌ : {V : Type 0} → Form V → Form V → Form V
◌or◌ first second octets value = first octets value ⊎ second octets value

-- d?: a number from low to high, or none (NTCIP 1203 v03, MULTI; how many digits is own)
abbrev pub d? : ℕ → ℕ → Form (Option ℕ)
d? low high = nothing None or d low high means Some

-- an octet, and then a form (own)
abbrev pub after : {V : Type 0} → ℕ → Form V → Form V
after octet form octets value = (rest : List ℕ) × (octets ≡ octet ∷ rest) × form rest value

-- two forms with an octet between them (own)
abbrev pub between : {U V : Type 0} → ℕ → Form U → Form V → Form (U × V)
between octet first second octets values =
    (front rest : List ℕ) × (octets ≡ front ++ octet ∷ rest) × first front values.0 × second rest values.1
