-- Tokens as the items that they stand for.
use Rattle.std.specs.Prelude.{◌^◌, ◌<◌, ◌≡◌, ℕ, ◌+◌, ◌-◌, ◌≤◌, ◌==◌, ◌⊎◌, if◌then◌else◌, List, ◌++◌, length, drop, slice_get, slice_range, Option, IfSome}
use Rattle.std.specs.List.{take_while}
use Rattle.multi_token.specs.Reading.{is_plain}
use Rattle.multi_token.specs.declared.token.Token.{Token}
use Rattle.multi_token.specs.declared.token.Bracketed.{Bracketed}
use Rattle.multi_token.specs.declared.token.Bracketed.TheVariants as bracketed
use Rattle.multi_token.specs.declared.token.Kind.{Kind}
use Rattle.multi_token.specs.declared.token.Kind.TheVariants as kinds
use Rattle.multi_token.specs.Spelling.{Item, Char, Tag, IsItem, spelling, BeginsWith}

-- the item of this kind; only a tag has a body (own)
abbrev pub item_of_kind : Kind → List ℕ → Item
item_of_kind (kinds.Char number) body = Char number
item_of_kind kinds.Tag body = Tag body

-- the octets between a token's first and its last (own)
abbrev pub body_of : List ℕ → Token → List ℕ
body_of octets token = slice_range octets (token.at + 1) (token.at + token.len - 1)

-- the item that a token of these octets stands for (own)
abbrev pub item_of : List ℕ → Token → Item
item_of octets token = item_of_kind token.kind (body_of octets token)

-- the token is the item whose spelling stands at the token's place in the octets, with the spelling's length (own)
pub record IsTokenOf (octets : List ℕ) (token : Token) : Type 0 where
  pub begins : BeginsWith (drop token.at octets) (item_of octets token) (drop (token.at + token.len) octets)
  pub len : token.len ≡ length (spelling (item_of octets token))
  pub within : token.at + token.len ≤ length octets
  -- a slice is no longer than this
  pub room : length octets < 2 ^ 63

-- the token is a tag of these octets (own)
pub record IsTagOf (octets : List ℕ) (token : Token) : Type 0 where
  pub is : IsTokenOf octets token
  pub kind : token.kind ≡ kinds.Tag

-- the octets that spell what begins with a bracket (own)
abbrev pub octets_of : Bracketed → ℕ
octets_of bracketed.Doubled = 2
octets_of (bracketed.Tag len) = len + 2

-- the steps of reading on after a bracket with which nothing begins: after `[` up to the next bracket or the end, after `]` one
-- (own)
abbrev pub bracket_steps : ℕ → List ℕ → ℕ
bracket_steps bracket behind = if bracket == 91 then length (take_while is_plain behind) + 1 else 1

-- what begins with a bracket at an offset of these octets (own)
abbrev pub IsBracketed : List ℕ → ℕ → ℕ → Bracketed → Type 0
IsBracketed octets at bracket bracketed.Doubled = IsTokenOf octets (record { at = at; len = 2; kind = kinds.Char bracket })
IsBracketed octets at bracket (bracketed.Tag len) = IsTokenOf octets (record { at = at; len = len + 2; kind = kinds.Tag })

-- the item that begins with a bracket at an offset of these octets (own)
abbrev pub item_spelled : List ℕ → ℕ → ℕ → Bracketed → Item
item_spelled octets at bracket bracketed.Doubled = Char bracket
item_spelled octets at bracket (bracketed.Tag len) = Tag (slice_range octets (at + 1) (at + 1 + len))

-- octets without brackets end at this offset, by a bracket or by the end of the string (own)
abbrev pub IsEndedBy : List ℕ → ℕ → Option ℕ → Type 0
IsEndedBy octets at ending = (ending ≡ slice_get octets at) × IfSome ending (λ octet. (octet ≡ 91) ⊎ (octet ≡ 93))

-- no item's spelling begins another's (own)
abbrev pub NoSpellingBeginsAnother : Type 0
NoSpellingBeginsAnother = (x y : Item) (rest : List ℕ) → IsItem x → IsItem y → spelling y ≡ spelling x ++ rest → x ≡ y
