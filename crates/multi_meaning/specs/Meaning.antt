-- What each item of a string means (NTCIP 1203 v03, MULTI).
use Rattle.std.specs.Prelude.{ℕ, Bool, true, false, List, map, Result, Ok, Err}
use Rattle.multi_token.specs.Reading.{reading}
use Rattle.multi_token.specs.Spelling.{Item, Char, Tag}
use Rattle.multi_tag.specs.declared.tag.TagFault.{TagFault}
use Rattle.multi_tag.specs.declared.tag.TagFault.TheVariants.{Unsupported, Value}
use Rattle.multi_tag.specs.declared.tag.Tag as tag
use Rattle.multi_tag.specs.declared.tag.Tag.TheVariants.{HexChar, NewPage, Rect}
use Rattle.multi_tag.specs.TagOf.{tag_of}

-- an item shows a character by its number, or does what its tag says, or its tag is at fault with the number of an error (own)
pub data Meaning : Type 0 where
  Shows : ℕ → Meaning
  Does : tag.Tag → Meaning
  Faulty : ℕ → Meaning

-- what a tag says: it shows the character of a number, or does something (NTCIP 1203 v03, MULTI tag 'hc')
abbrev pub said_by : tag.Tag → Meaning
said_by (HexChar number) = Shows number
said_by tag = Does tag

-- a tag that isn't supported is error 3, and one whose value isn't is error 4 (NTCIP 1203 v03, dmsMultiSyntaxError)
abbrev pub meaning_of_tag : Result tag.Tag TagFault → Meaning
meaning_of_tag (Ok tag) = said_by tag
meaning_of_tag (Err Unsupported) = Faulty 3
meaning_of_tag (Err Value) = Faulty 4

-- what an item means, and with it what a character is (NTCIP 1203 v03, MULTI)
abbrev pub meaning : Item → Meaning
meaning (Char number) = Shows number
meaning (Tag body) = meaning_of_tag (tag_of body)

-- what the items of a string mean, without what is left behind them (NTCIP 1203 v03, MULTI)
abbrev pub meanings : List ℕ → List Meaning
meanings octets = map meaning (reading octets).items

-- a page begins after the item (NTCIP 1203 v03, MULTI tag 'np')
abbrev pub is_new_page : Meaning → Bool
is_new_page (Does NewPage) = true
is_new_page _ = false

-- an area begins after the item: at each new page and at each rectangle (NTCIP 1203 v03, MULTI tags 'np' and 'tr')
abbrev pub begins_area : Meaning → Bool
begins_area (Does NewPage) = true
begins_area (Does (Rect x y w h)) = true
begins_area _ = false
