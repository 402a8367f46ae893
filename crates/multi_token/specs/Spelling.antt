-- Items and their spelling (NTCIP 1203 v03, MULTI: characters, tags and the doubled brackets).
use Rattle.std.specs.Prelude.{⊤, ◌≡◌, ◌≢◌, ℕ, ◌==◌, Bool, ◌||◌, List, [], ◌∷◌, ◌++◌, if◌then◌else◌}
use Rattle.std.specs.List.{flat_map, All}

-- a character by its number, or a tag by its body; the characters of a string of octets are 0 to 255 (NTCIP 1203 v03, MULTI)
pub data Item : Type 0 where
  Char : ℕ → Item
  Tag : List ℕ → Item

-- an octet that is neither `[` nor `]` (own)
abbrev pub IsPlain : ℕ → Type 0
IsPlain octet = (octet ≢ 91) × (octet ≢ 93)

-- the body of a tag is one or more octets without brackets (NTCIP 1203 v03, MULTI)
abbrev pub IsBody : List ℕ → Type 0
IsBody body = (body ≢ []) × All IsPlain body

-- what can be spelled: every character, and a tag that has a body (NTCIP 1203 v03, MULTI)
abbrev pub IsItem : Item → Type 0
IsItem (Char number) = ⊤
IsItem (Tag body) = IsBody body

-- `[` or `]` (own)
abbrev pub is_bracket : ℕ → Bool
is_bracket octet = (octet == 91) || (octet == 93)

-- a bracket is doubled, any other character stands for itself, and the body of a tag stands between brackets (NTCIP 1203 v03, MULTI)
abbrev pub spelling : Item → List ℕ
spelling (Char number) = if is_bracket number then number ∷ number ∷ [] else number ∷ []
spelling (Tag body) = 91 ∷ (body ++ 93 ∷ [])

-- a list of items is spelled item by item (NTCIP 1203 v03, MULTI)
abbrev pub spell : List Item → List ℕ
spell items = flat_map spelling items

-- the octets begin with the spelling of the item, and the rest follows (own)
abbrev pub BeginsWith : List ℕ → Item → List ℕ → Type 0
BeginsWith octets item rest = IsItem item × (octets ≡ spelling item ++ rest)

-- the octets begin with no item's spelling (own)
abbrev pub HasNoItem : List ℕ → Type 0
HasNoItem octets = (item : Item) (rest : List ℕ) → ¬ (BeginsWith octets item rest)

-- the reading of a string: the items that it spells from the left, as far as they go, and then a rest that
-- begins with none; a rest that isn't empty is a broken bracket (NTCIP 1203 v03, MULTI; that reading goes from the left is own)
pub record IsReading (octets : List ℕ) (items : List Item) (rest : List ℕ) : Type 0 where
  pub each : All IsItem items
  pub spelled : octets ≡ spell items ++ rest
  pub ends : HasNoItem rest

-- LAWS

-- a string has no two readings (own)
abbrev pub OneReading : Type 0
OneReading = (octets : List ℕ) (items items' : List Item) (rest rest' : List ℕ)
    → IsReading octets items rest → IsReading octets items' rest' → (items ≡ items') × (rest ≡ rest')
