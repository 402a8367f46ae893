-- What the items of a string say, one after the other.
use Rattle.std.specs.Prelude.{ℕ, ◌+◌, List, [], ◌∷◌, Option, None, Some, length}
use Rattle.multi_token.specs.Reading.{reading}
use Rattle.multi_token.specs.Spelling.{Item, spelling}
use Rattle.multi_tag.specs.declared.tag.Tag.{Tag}
use Rattle.multi_tag.specs.declared.tag.Tag.TheVariants.{HexChar}
use Rattle.multi_meaning.specs.Meaning.{Does, Faulty, Meaning, Shows, meaning}
use Rattle.message_words.specs.declared.said.Said.{Said}

-- what an item says as a tag: a character says what the tag 'hc' with its number does, and a tag at fault nothing (own)
abbrev pub tag_said : Meaning → Option Tag
tag_said (Shows number) = Some (HexChar number)
tag_said (Does tag) = Some tag
tag_said (Faulty code) = None

-- what an item says that begins at an octet, counted from 0 (own)
abbrev pub said_at : ℕ → Item → Said
said_at at item = record { at = at; end = at + length (spelling item); tag = tag_said (meaning item) }

-- what some items say, the first of which begins at an octet (own)
abbrev pub said_from : ℕ → List Item → List Said
said_from at [] = []
said_from at (item ∷ items) = said_at at item ∷ said_from (at + length (spelling item)) items

-- what the items of a string say (own)
unfoldable pub said_items : List ℕ → List Said
said_items octets = said_from 0 (reading octets).items
