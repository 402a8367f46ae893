-- The drawing of an area's items, of which a character is put beside the one before it (own).
use Rattle.std.specs.Prelude.{◌≡◌, ◌≢◌, ℕ, ◌+◌, ◌*◌, ◌^◌, ◌<◌, true, false, List, ◌∷◌, ◌++◌, map, Option, Some, IfSome}
use Rattle.multi_tag.specs.declared.just.LineJust.TheVariants.{Full}
use Rattle.page_plane.specs.Plane.{BitPlane}
use Rattle.sign_font.specs.Cell.{SizedCell}
use Rattle.sign_font.specs.Sign.{SignData, CellData, cell_in, cell_numbered}
use Rattle.multi_meaning.specs.declared.place.Place.{Place}
use Rattle.multi_meaning.specs.Address.{Glyph, Spot, is_glyph, spots, standing}
use Rattle.multi_meaning.specs.Meaning.{Meaning, Shows, begins_area}
use Rattle.multi_meaning.specs.Place.{place_of}
use Rattle.multi_judge.specs.declared.attributes.Attributes.{Attributes}
use Rattle.multi_layout.specs.declared.cursor.Cursor.{Cursor}
use Rattle.multi_judge.specs.declared.item.NextItem.{NextItem}
use Rattle.multi_layout.specs.declared.paint.Layer.{Layer}
use Rattle.multi_layout.specs.declared.read.AreaLines.{AreaLines}
use Rattle.multi_judge.specs.declared.state.State.{State}
use Rattle.multi_layout.specs.internal.AreaDrawing.{DrawsGlyph, IsAreaDrawn, IsDrawnUpTo, IsInArea}
use Rattle.multi_layout.specs.internal.Cursors.{IsRead, LaidItem, meant}
use Rattle.multi_judge.specs.internal.Run.{IsBehindCharacter}
use Rattle.multi_judge.specs.internal.State.{IsStateOf}

-- the next item of a string, if it is a character, stands at this place (own)
abbrev pub NextStandsAt : SignData → List Meaning → List Meaning → Place → Type 0
NextStandsAt sign before all place =
    (spot : Spot) → is_glyph spot ≡ true → spot.at ≡ standing sign before → place_of (spots sign before) (spots sign all) spot ≡ place

-- the cursor stands after a character, and if the next item is one too, it stands beside that one, at this place (own)
pub record IsBeside (sign : SignData) (before behind : List LaidItem) (cursor : Cursor) (place : Place) : Type 0 where
  pub stands : NextStandsAt sign (map meant before) (map meant (before ++ behind)) place
  pub character : IsBehindCharacter cursor.state
  pub apart : cursor.state.attributes.line_just ≢ Full
  pub low : place.column < 2 ^ 33 + 510 * cursor.at

-- a page is drawn as far as the cursor before an item of an area that was read, and this is read of the item; this is the place beside the
-- character before it, if known (own)
pub record IsNextDrawn (sign : SignData) (octets : List ℕ) (layer : Layer) (page : ℕ) (read : AreaLines) (next : NextItem)
    (beside : Option Place) (cursor : Cursor) (plane : BitPlane) : Type 0 where
  pub before : List LaidItem
  pub rest : List LaidItem
  pub item : LaidItem
  pub up_to : IsDrawnUpTo sign octets layer page before (item ∷ rest) cursor plane
  pub left : IsInArea sign read before (item ∷ rest) cursor
  pub read_is : IsRead item next
  pub plain : begins_area (meant item) ≡ false
  pub stands : IfSome beside (IsBeside sign before (item ∷ rest) cursor)

-- a page is drawn as far as the cursor in an area that was read, and this is the place beside the character before it, if known (own)
pub record IsRunDrawn (sign : SignData) (octets : List ℕ) (layer : Layer) (page : ℕ) (read : AreaLines) (beside : Option Place)
    (cursor : Cursor) (plane : BitPlane) : Type 0 where
  pub so : IsAreaDrawn sign octets layer page read cursor plane
  pub stands : IfSome beside (IsBeside sign so.before so.behind cursor)

-- from cursor to cursor the area is drawn on by that item, whichever page it stands in (own)
abbrev pub DrawsNext : SignData → List ℕ → Layer → AreaLines → NextItem → Option Place → Option Place → Cursor → Cursor → BitPlane
    → BitPlane → Type 0
DrawsNext sign octets layer read next beside beside' old new plane plane' =
    (page : ℕ) → IsNextDrawn sign octets layer page read next beside old plane → IsRunDrawn sign octets layer page read beside' new plane'

-- a character after some items stands at this place, whatever of the string is after it (own)
abbrev pub StandsAt : SignData → List Meaning → ℕ → List Meaning → Place → Type 0
StandsAt sign before number rest place =
    (cell : CellData) → cell_numbered (standing sign before).font number ≡ Some cell
    → let spot : Spot = record { at = standing sign before; put = Glyph cell } in
    place ≡ place_of (spots sign before) (spots sign (before ++ Shows number ∷ rest)) spot

-- a character that stands at this place is drawn, where these are in force and this is its cell (own)
abbrev pub DrawsCharacter : SignData → Layer → Attributes → SizedCell → Place → BitPlane → BitPlane → Type 0
DrawsCharacter sign layer attributes cell place old new =
    (before rest : List Meaning) (state : State) (number : ℕ) → IsStateOf sign before state → state.attributes ≡ attributes
    → cell_in sign attributes.font.number number ≡ Some cell → StandsAt sign before number rest place
    → DrawsGlyph sign layer before number rest old new
