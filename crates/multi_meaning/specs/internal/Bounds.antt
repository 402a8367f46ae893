-- Where pages and areas begin and end.
use Rattle.std.specs.Prelude.{◌≡◌, ◌⊎◌, Bool, true, false, List, [], ◌∷◌, ◌++◌}
use Rattle.multi_tag.specs.declared.tag.Tag.TheVariants.{NewLine, NewPage}
use Rattle.multi_meaning.specs.Meaning.{Meaning, Shows, Does, begins_area}

-- a page begins after these items: after none, or after a new page (NTCIP 1203 v03, MULTI tag 'np')
abbrev pub BeginsPage : List Meaning → Type 0
BeginsPage before = (before ≡ []) ⊎ ((earlier : List Meaning) × (before ≡ earlier ++ Does NewPage ∷ []))

-- a page ends before these items: before none, or before a new page (NTCIP 1203 v03, MULTI tag 'np')
abbrev pub EndsPage : List Meaning → Type 0
EndsPage behind = (behind ≡ []) ⊎ ((rest : List Meaning) × (behind ≡ Does NewPage ∷ rest))

-- an area ends before these items: before none, or before an item after which the next begins (NTCIP 1203 v03, MULTI tags
-- 'np' and 'tr')
abbrev pub EndsArea : List Meaning → Type 0
EndsArea behind = (behind ≡ []) ⊎ ((x : Meaning) × (rest : List Meaning) × (begins_area x ≡ true) × (behind ≡ x ∷ rest))

-- the item has a place in a group: a character or the end of a line (NTCIP 1203 v03, MULTI tag 'nl')
abbrev pub has_place : Meaning → Bool
has_place (Shows number) = true
has_place (Does (NewLine gap)) = true
has_place _ = false
