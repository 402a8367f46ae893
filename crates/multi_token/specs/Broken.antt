-- Brackets with which no item begins: those of which what follows can still make one, and those that stay broken (NTCIP 1203
-- v03, MULTI; that reading goes from the left is own).
use Rattle.std.specs.Prelude.{◌≡◌, ◌≢◌, ◌⊎◌, ℕ, List, [], ◌∷◌, ◌++◌}
use Rattle.std.specs.List.{All}
use Rattle.multi_token.specs.Spelling.{Item, IsPlain, BeginsWith, HasNoItem}

-- a string that may have been cut within an item: a `]` alone, or a `[` followed by nothing but octets of a body, or by nothing (own)
abbrev pub IsOpen : List ℕ → Type 0
IsOpen octets = (octets ≡ 93 ∷ []) ⊎ ((body : List ℕ) × All IsPlain body × (octets ≡ 91 ∷ body))

-- no item begins here, whatever follows (own)
abbrev pub StaysBroken : List ℕ → Type 0
StaysBroken octets = (more : List ℕ) → HasNoItem (octets ++ more)

-- something that follows makes an item of the octets (own)
abbrev pub CanBeMended : List ℕ → Type 0
CanBeMended octets = (more : List ℕ) × (item : Item) × BeginsWith (octets ++ more) item []

-- LAWS

-- octets with which no item begins are open, or they stay broken (own)
abbrev pub OpenOrBroken : Type 0
OpenOrBroken = (octets : List ℕ) → octets ≢ [] → HasNoItem octets → IsOpen octets ⊎ StaysBroken octets

-- all open octets can be mended (own)
abbrev pub OpenIsMended : Type 0
OpenIsMended = (octets : List ℕ) → IsOpen octets → CanBeMended octets
