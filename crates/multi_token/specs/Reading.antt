-- The reading of a string as a function of its octets, which definitions of whole strings cite. That it is
-- the reading is a law; a string has no other.
use Rattle.std.specs.Prelude.{ℕ, zero, suc, ◌==◌, Bool, if◌then◌else◌, List, [], ◌∷◌, length, drop, true, false, Option, Some, None}
use Rattle.std.specs.List.{take_while}
use Rattle.multi_token.specs.Spelling.{Item, Char, Tag, is_bracket, spelling, IsReading}

-- an octet that is neither `[` nor `]`, as a test (own)
abbrev pub is_plain : ℕ → Bool
is_plain octet = if is_bracket octet then false else true

-- the tag of a body, if the body has octets and `]` stands after it (own)
abbrev pub closed_tag : List ℕ → List ℕ → Option Item
closed_tag [] behind = None
closed_tag (octet ∷ body) [] = None
closed_tag (octet ∷ body) (next ∷ behind) = if next == 93 then Some (Tag (octet ∷ body)) else None

-- the tag whose body begins here, if one does (own)
abbrev pub tag_behind : List ℕ → Option Item
tag_behind octets = closed_tag (take_while is_plain octets) (drop (length (take_while is_plain octets)) octets)

-- the item after `[`: the doubled bracket, or a tag (own)
abbrev pub opened_item : List ℕ → Option Item
opened_item [] = None
opened_item (next ∷ octets) = if next == 91 then Some (Char 91) else tag_behind (next ∷ octets)

-- the item after `]`: the doubled bracket (own)
abbrev pub closed_item : List ℕ → Option Item
closed_item [] = None
closed_item (next ∷ octets) = if next == 93 then Some (Char 93) else None

-- the item that is spelled at the front of a string, if one is (own)
abbrev pub first_item : List ℕ → Option Item
first_item [] = None
first_item (octet ∷ octets) = if octet == 91 then opened_item octets else (if octet == 93 then closed_item octets else Some (Char octet))

-- the items of a string and its rest (own)
pub record Reading : Type 0 where
  pub items : List Item
  pub rest : List ℕ

-- the first item, if there is one, and then the items after it (own)
unfoldable pub read_item : List ℕ → (Item → Reading) → Option Item → Reading
read_item octets behind None = record { items = []; rest = octets }
read_item octets behind (Some item) = record { items = item ∷ (behind item).items; rest = (behind item).rest }

-- the first items, at most this many (own)
unfoldable pub read_items : ℕ → List ℕ → Reading
read_items zero octets = record { items = []; rest = octets }
read_items (suc most) octets = read_item octets (λ item. read_items most (drop (length (spelling item)) octets)) (first_item octets)

-- the reading of a string: each item has an octet at least (own)
unfoldable pub reading : List ℕ → Reading
reading octets = read_items (length octets) octets

-- a law: every string has a reading, this one (own)
abbrev pub EachStringHasAReading : Type 0
EachStringHasAReading = (octets : List ℕ) → IsReading octets (reading octets).items (reading octets).rest
