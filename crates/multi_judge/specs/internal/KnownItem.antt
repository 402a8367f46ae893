-- The items of a string, as they are read.
use Rattle.std.specs.Prelude.{◌≤◌, Bool, true, false}
use Rattle.multi_tag.specs.declared.tag.Tag.TheVariants.{NewPage, NewLine, Rect, Back}
use Rattle.multi_meaning.specs.Meaning.{Meaning, Shows, Does}
use Rattle.multi_judge.specs.declared.item.KnownItem.{KnownItem}
use Rattle.multi_judge.specs.declared.item.KnownItem.TheVariants.{Char, Tag}

-- what an item that was read means (NTCIP 1203 v03, MULTI)
abbrev pub meant_by : KnownItem → Meaning
meant_by (Char number) = Shows number
meant_by (Tag tag) = Does tag

-- an item only sets values that are in force after it: a tag that puts nothing and begins nothing (own)
abbrev pub is_setting : Meaning → Bool
is_setting (Does NewPage) = false
is_setting (Does (NewLine gap)) = false
is_setting (Does (Rect x y w h)) = false
is_setting (Does (Back colour)) = false
is_setting (Does tag) = true
is_setting _ = false

-- a character whose number is that of an octet (own)
abbrev pub IsOctet : KnownItem → Type 0
IsOctet (Char number) = number ≤ 255
IsOctet (Tag tag) = ⊥

-- the item ends a line (NTCIP 1203 v03, MULTI tag 'nl')
abbrev pub ends_line : Meaning → Bool
ends_line (Does (NewLine gap)) = true
ends_line _ = false
