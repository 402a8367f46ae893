-- One more character or end of a line, put into the present area.
use Rattle.std.specs.Prelude.{◌≡◌, ℕ, ◌<◌, ◌≤◌, Bool, true, false, nat_le, List, [], ◌∷◌, ◌++◌, Option}
use Rattle.std.specs.List.{All, AllPass, after_last, list_any}
use Rattle.multi_tag.specs.Just.{page_number}
use Rattle.multi_tag.specs.declared.just.LineJust.{LineJust}
use Rattle.multi_meaning.specs.Address.{Spot, in_group, is_break, is_glyph}
use Rattle.multi_meaning.specs.Offence.{clashes}
use Rattle.multi_meaning.specs.internal.Present.{IsPlacing}
use Rattle.multi_judge.specs.declared.area.Area.{Area}
use Rattle.multi_judge.specs.declared.attributes.Attributes.{Attributes}
use Rattle.multi_judge.specs.declared.line.Line.{Line}
use Rattle.multi_judge.specs.declared.state.State.{State}
use Rattle.multi_judge.specs.internal.Run.{IsBehindOne}
use Rattle.multi_judge.specs.internal.State.{IsLimited, group_room}
use Rattle.multi_judge.specs.internal.Sums.{Character, IsBreak, IsCharacter, area_sum, area_sum_in, line_sum}

-- the answer is whether a character with this line justification clashes with one of a line, of which this is kept (own)
abbrev pub TellsClash : LineJust → Line → Bool → Type 0
TellsClash just kept clash =
    (line : List Spot) (s : Spot) → AllPass is_glyph line → kept ≡ line_sum line → s.at.line_just ≡ just → clash ≡ list_any (clashes s) line

-- a line has the present segment of another, and the same segments before it (own)
pub record IsSameBefore (old new : Line) : Type 0 where
  pub present : new.present ≡ old.present
  pub left : new.left ≡ old.left
  pub centre : new.centre ≡ old.centre

-- a line is the old one with one more character that doesn't clash, which is then the last one (own)
pub record PutsCharacter (old : Line) (character : Character) (new : Line) : Type 0 where
  pub sum : (line : List Spot) (s : Spot) → AllPass is_glyph line → IsCharacter s character → old ≡ line_sum line
      → list_any (clashes s) line ≡ false → new ≡ line_sum (line ++ s ∷ [])
  pub behind : IsBehindOne character.just character.font new

-- an area is the old one, and its present group is the one with this page justification, which isn't before; a group that begins has no
-- character (own)
pub record GoesOnTo (page_just : ℕ) (old new : Area) : Type 0 where
  pub sum : (area : List Spot) → All IsPlacing area → old ≡ area_sum area → new ≡ area_sum_in page_just area
  pub present : new.present ≡ page_just
  pub stays : page_just ≡ old.present → new ≡ old
  pub begins : old.present < page_just → new.group.line.any ≡ false

-- an area goes on to the group with a page justification and to the most that it may have within a height, unless the group is before the
-- present one, where nothing changes (own)
pub record ReachesGroup (page_just height : ℕ) (old : Area) (most : ℕ) (reached : Bool) (new : Area) (most' : ℕ) : Type 0 where
  pub order : reached ≡ nat_le old.present page_just
  pub goes : reached ≡ true → GoesOnTo page_just old new
  pub limit : reached ≡ true → (2 ≤ old.present → most ≡ group_room old height) → most' ≡ group_room new height
  pub left : reached ≡ false → (new ≡ old) × (most' ≡ most)

-- a character of this width in pixels, put where these attributes are in force (own)
abbrev pub character_of : Attributes → ℕ → Character
character_of here width = record { just = here.line_just; spacing = here.spacing; width = width; font = here.font }

-- the new state is the old one with one more character of this width, which is then the last one, and its limits are known where they
-- were (own)
pub record AddsCharacter (old : State) (width : ℕ) (new : State) : Type 0 where
  pub sum : (area : List Spot) (s : Spot) → All IsPlacing area → old.area ≡ area_sum area
      → IsCharacter s (character_of old.attributes width)
      → s.at.page_just ≡ old.attributes.page_just → old.area.present ≤ page_number old.attributes.page_just
      → list_any (clashes s) (after_last is_break (in_group (page_number old.attributes.page_just) area)) ≡ false
      → new.area ≡ area_sum (area ++ s ∷ [])
  pub behind : (new.area.present ≡ page_number old.attributes.page_just)
      × IsBehindOne old.attributes.line_just old.attributes.font new.area.group.line
  pub same : new ≡ record old { area = new.area; limits = new.limits }
  pub limited : IsLimited old → IsLimited new

-- the new state is the old one with one more end of a line, which gave this gap, and its limits are known where they were; the line in
-- force has no character, and the group in force is the present one where none is after it (own)
pub record AddsBreak (old : State) (gap : Option ℕ) (new : State) : Type 0 where
  pub sum : (area : List Spot) (s : Spot) → All IsPlacing area → old.area ≡ area_sum area → IsBreak s gap old.attributes.font
      → s.at.page_just ≡ old.attributes.page_just → old.area.present ≤ page_number old.attributes.page_just
      → new.area ≡ area_sum (area ++ s ∷ [])
  pub present : old.area.present ≤ page_number old.attributes.page_just → new.area.present ≡ page_number old.attributes.page_just
  pub none : new.area.group.line.any ≡ false
  pub same : new ≡ record old { area = new.area; limits = new.limits }
  pub limited : IsLimited old → IsLimited new
