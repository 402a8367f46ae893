-- Tags in octets that begin after an opening bracket.
use Rattle.std.specs.Prelude.{◌≡◌, ℕ, ◌+◌, ◌≤◌, List, ◌∷◌, ◌++◌, length}
use Rattle.multi_token.specs.declared.token.Kind.TheVariants as kinds
use Rattle.multi_token.specs.Tokens.{IsTagOf, body_of}
use Rattle.multi_tag.specs.declared.tag.Tag.{Tag}
use Rattle.multi_tag.specs.Body.{Spells}

-- octets begin with a body that spells this tag and its closing bracket, together this many octets (NTCIP 1203 v03, MULTI)
abbrev pub IsClosedTag : List ℕ → Tag → ℕ → Type 0
IsClosedTag octets tag len = (body rest : List ℕ) × (octets ≡ body ++ 93 ∷ rest) × Spells body tag × (len ≡ length body + 1)

-- octets begin with no body that spells a tag and is followed by a closing bracket (NTCIP 1203 v03, MULTI)
abbrev pub HasNoClosedTag : List ℕ → Type 0
HasNoClosedTag octets = (body rest : List ℕ) (tag : Tag) → octets ≡ body ++ 93 ∷ rest → ¬ (Spells body tag)

-- a tag of this many octets stands at a place of octets, and its body spells this (NTCIP 1203 v03, MULTI)
abbrev pub IsTagAt : List ℕ → ℕ → Tag → ℕ → Type 0
IsTagAt octets at tag len =
    IsTagOf octets (record { at = at; len = len; kind = kinds.Tag })
    × Spells (body_of octets (record { at = at; len = len; kind = kinds.Tag })) tag

-- no tag whose body spells something stands at a place of octets (NTCIP 1203 v03, MULTI)
abbrev pub HasNoTagAt : List ℕ → ℕ → Type 0
HasNoTagAt octets at = (tag : Tag) (len : ℕ) → ¬ (IsTagAt octets at tag len)

-- LAWS

-- a body that spells a tag has at most 25 octets: no number has more than 5 digits, with those zeros that lead it (own)
abbrev pub NoLongBody : Type 0
NoLongBody = (body : List ℕ) (tag : Tag) → Spells body tag → length body ≤ 25
