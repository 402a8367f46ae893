-- The verdict on a string: its first item that offends, or its pages (NTCIP 1203 v03, dmsMultiSyntaxError).
use Rattle.std.specs.Prelude.{◌≡◌, ◌↔◌, ℕ, ◌+◌, List, [], ◌∷◌, ◌++◌, map, length, drop, take, Option}
use Rattle.std.specs.List.{All, count_by}
use Rattle.std.specs.Option.{option_map}
use Rattle.multi_token.specs.Broken.{IsOpen, StaysBroken}
use Rattle.multi_token.specs.Spelling.{Item, IsItem, BeginsWith, spelling, spell, IsReading}
use Rattle.multi_token.specs.Reading.{reading}
use Rattle.sign_font.specs.Sign.{SignData}
use Rattle.multi_meaning.specs.Meaning.{Meaning, meaning, is_new_page}
use Rattle.multi_meaning.specs.Offence.{offence}
use Rattle.multi_meaning.specs.Times.{cycle, page_times}
use Rattle.multi_meaning.specs.Words.{some_after}

-- the error of an item and the offset of its first octet, if it offends after the items before it (NTCIP 1203 v03,
-- dmsMultiSyntaxErrorPosition; that it counts from 0 is own)
abbrev pub fault_at : SignData → List Item → Item → Option (ℕ × ℕ)
fault_at sign before item =
    option_map (λ code. (code, length (spell before))) (offence sign.line_fill sign (map meaning before) (meaning item))

-- the error and the offset of each item that offends after the items before it (own)
abbrev pub offences : SignData → List Item → List (ℕ × ℕ)
offences sign items = some_after (fault_at sign) items

-- a rest after the items is a broken bracket, which is 3 unsupportedTag at its first octet (own)
abbrev pub broken : List Item → List ℕ → List (ℕ × ℕ)
broken items [] = []
broken items (octet ∷ rest) = (3, length (spell items)) ∷ []

-- the number of pages of these items (NTCIP 1203 v03, MULTI tag 'np')
abbrev pub pages_of : List Meaning → ℕ
pages_of items = count_by is_new_page items + 1

-- accepted with a number of pages, or refused with the number of an error and its offset (own)
pub data Verdict : Type 0 where
  Accepted : ℕ → Verdict
  Refused : ℕ → ℕ → Verdict

-- refused for the first of these faults, or accepted with these pages where there is none (own)
abbrev pub of_first : ℕ → List (ℕ × ℕ) → Verdict
of_first pages [] = Accepted pages
of_first pages (fault ∷ faults) = Refused fault.0 fault.1

-- the verdict on the items of a string and what is left of it (NTCIP 1203 v03, dmsMultiSyntaxError)
unfoldable pub verdict_on : SignData → List Item → List ℕ → Verdict
verdict_on sign items rest = of_first (pages_of (map meaning items)) (offences sign items ++ broken items rest)

-- this is a sign's verdict on the string (own)
abbrev pub IsVerdict : SignData → List ℕ → Verdict → Type 0
IsVerdict sign octets verdict = (items : List Item) × (rest : List ℕ) × IsReading octets items rest × (verdict ≡ verdict_on sign items rest)

-- these are the times of all pages of the string together, in tenths of a second (own)
abbrev pub IsCycle : SignData → List ℕ → ℕ → Type 0
IsCycle sign octets tenths =
    (items : List Item) × (rest : List ℕ) × IsReading octets items rest × (tenths ≡ cycle (page_times sign (map meaning items)))

-- the verdict on a string as a function of its octets, which definitions of whole strings cite (own)
unfoldable pub verdict : SignData → List ℕ → Verdict
verdict sign octets = verdict_on sign (reading octets).items (reading octets).rest

-- a law: each string has one verdict, this (own)
abbrev pub OneVerdict : Type 0
OneVerdict = (sign : SignData) (octets : List ℕ) (v : Verdict) → IsVerdict sign octets v ↔ (v ≡ verdict sign octets)

-- a law: a refusal stands, with its error and its offset, however the string goes on; only one for a bracket that is open at
-- the end of the string may be mended (own)
abbrev pub RefusalStands : Type 0
RefusalStands = (sign : SignData) (octets : List ℕ) (code at : ℕ) → verdict sign octets ≡ Refused code at → ¬ (IsOpen (drop at octets))
    → (more : List ℕ) → verdict sign (octets ++ more) ≡ Refused code at

-- a law: a refusal for an item is that of every string with the same octets up to the end of that item, however it goes on (own)
abbrev pub ItemRefusalStands : Type 0
ItemRefusalStands = (sign : SignData) (octets : List ℕ) (code at : ℕ) → verdict sign octets ≡ Refused code at
    → (item : Item) (rest more : List ℕ) → BeginsWith (drop at octets) item rest
    → verdict sign (take at octets ++ (spelling item ++ more)) ≡ Refused code at

-- a law: a refusal for a bracket that stays broken stands for every string with the same octets up to there (own)
abbrev pub BrokenBracketStands : Type 0
BrokenBracketStands = (sign : SignData) (before : List Item) (bracket more : List ℕ)
    → All IsItem before → offences sign before ≡ [] → StaysBroken bracket
    → verdict sign (spell before ++ (bracket ++ more)) ≡ Refused 3 (length (spell before))
