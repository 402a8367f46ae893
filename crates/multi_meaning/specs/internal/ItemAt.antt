-- What stands at an offset of a string.
use Rattle.std.specs.Prelude.{◌≡◌, ◌⊎◌, ℕ, ◌+◌, ◌-◌, List, drop, length}
use Rattle.multi_token.specs.Spelling.{HasNoItem}
use Rattle.multi_token.specs.Tokens.{IsTokenOf, item_of}
use Rattle.multi_token.specs.declared.token.Token.{Token}
use Rattle.multi_meaning.specs.Meaning.{Faulty, Meaning, meaning}
use Rattle.multi_meaning.specs.Steps.{item_steps, looks, rest_steps}

-- an item that means this stands at an offset of these octets, spelled by so many of them (NTCIP 1203 v03, MULTI)
abbrev pub IsItemAt : List ℕ → ℕ → ℕ → Meaning → Type 0
IsItemAt octets at len means =
    (token : Token) × (token.at ≡ at) × (token.len ≡ len) × IsTokenOf octets token × (meaning (item_of octets token) ≡ means)

-- the number of an error at an offset: 3 where no item begins, or else that of the tag that stands there (NTCIP 1203 v03,
-- dmsMultiSyntaxError)
abbrev pub IsFaultAt : List ℕ → ℕ → ℕ → Type 0
IsFaultAt octets at code =
    (HasNoItem (drop at octets) × (code ≡ 3)) ⊎ ((len : ℕ) × IsItemAt octets at len (Faulty code))

-- an item that begins with a bracket and means this stands at an offset of these octets, spelled by so many of them, and is read
-- in so many steps after that bracket (own)
abbrev pub IsBracketedRead : List ℕ → ℕ → ℕ → Meaning → ℕ → Type 0
IsBracketedRead octets at len means steps =
    (token : Token) × (token.at ≡ at) × (token.len ≡ len) × IsTokenOf octets token × (meaning (item_of octets token) ≡ means)
    × (item_steps (length octets - at) (item_of octets token) ≡ 2 + steps + looks means)

-- the number of an error at a bracket, which is told in so many steps after it (own)
abbrev pub IsFaultRead : List ℕ → ℕ → ℕ → ℕ → Type 0
IsFaultRead octets at code steps =
    (HasNoItem (drop at octets) × (code ≡ 3) × (rest_steps (drop at octets) ≡ 2 + steps))
    ⊎ ((len : ℕ) × IsBracketedRead octets at len (Faulty code) steps)
