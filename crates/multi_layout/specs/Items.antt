-- The items of a string, one after the other, as whoever asks what a message sets reads them.
use Rattle.std.specs.Prelude.{◌≡◌, ℕ, ◌+◌, ◌^◌, ◌<◌, ◌≤◌, Bool, true, false, List, ◌∷◌, drop, length, Option, Some, None}
use Rattle.multi_token.specs.Reading.{reading}
use Rattle.multi_token.specs.Spelling.{Item, spelling}
use Rattle.multi_tag.specs.declared.tag.Tag.{Tag}
use Rattle.multi_tag.specs.declared.tag.Tag.TheVariants.{NewPage}
use Rattle.multi_meaning.specs.Meaning.{Faulty, Meaning, meaning, said_by}
use Rattle.multi_layout.specs.declared.item.StringItem.{StringItem}

-- an item says what a tag does, or its tag is at fault (own)
abbrev pub IsSaid : Meaning → Option Tag → Type 0
IsSaid item (Some tag) = item ≡ said_by tag
IsSaid item None = (code : ℕ) × (item ≡ Faulty code)

-- what is said begins a page (NTCIP 1203 v03, MULTI tag 'np')
abbrev pub is_page_said : Option Tag → Bool
is_page_said (Some NewPage) = true
is_page_said _ = false

-- this was read of the item at an offset (own)
pub record IsNext (octets : List ℕ) (at : ℕ) (read : StringItem) : Type 0 where
  pub item : Item
  pub next : (reading (drop at octets)).items ≡ item ∷ (reading (drop (at + read.len) octets)).items
  pub is : IsSaid (meaning item) read.tag
  pub len : read.len ≡ length (spelling item)
  pub some : 1 ≤ read.len
  pub within : at + read.len ≤ length octets
  -- a slice is no longer than this
  pub room : length octets < 2 ^ 63
