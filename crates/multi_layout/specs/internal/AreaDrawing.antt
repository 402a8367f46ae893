-- The two readings of an area: one for the table of its lines, one to put its cells.
use Rattle.std.specs.Prelude.{◌≡◌, ℕ, ◌+◌, ◌*◌, ◌≤◌, false, nat_lt, List, [], ◌∷◌, ◌++◌, map, length, if◌then◌else◌}
use Rattle.std.specs.List.{All}
use Rattle.page_plane.specs.Plane.{BitPlane}
use Rattle.sign_font.specs.Sign.{SignData, tallest}
use Rattle.multi_meaning.specs.Address.{Spot, spots, standing, in_group, lines_of, in_area}
use Rattle.multi_meaning.specs.Picture.{Lights}
use Rattle.multi_meaning.specs.internal.Places.{has_colour}
use Rattle.multi_meaning.specs.Meaning.{Meaning, Shows, begins_area}
use Rattle.multi_meaning.specs.internal.Bounds.{EndsArea}
use Rattle.multi_meaning.specs.internal.Present.{ended_lines, present_area}
use Rattle.multi_layout.specs.declared.cursor.Cursor.{Cursor}
use Rattle.multi_layout.specs.declared.paint.Layer.{Layer}
use Rattle.multi_layout.specs.declared.read.AreaLines.{AreaLines}
use Rattle.multi_judge.specs.declared.table.LineTable.{LineTable}
use Rattle.multi_layout.specs.Limits.{plane_octets}
use Rattle.multi_layout.specs.internal.Cursors.{IsBetween, IsFirst, items_of, meant, LaidItem, spell_of}
use Rattle.multi_judge.specs.internal.Table.{group_lines, table_of}

-- the lines of a group that are known when items go on in this group: all counted lines of the groups before it, and the ended
-- lines of the others (own)
abbrev pub known_lines : ℕ → ℕ → List Spot → List (List Spot)
known_lines present just area = if nat_lt just present then lines_of (in_group just area) else ended_lines (in_group just area)

-- the table has the known lines of each group of an area (own)
abbrev pub HasKnown : ℕ → List Spot → LineTable → Type 0
HasKnown present area table = (just : ℕ) → 2 ≤ just → just ≤ 4 → group_lines just table ≡ table_of (known_lines present just area)

-- the table has the counted lines of each group of an area (own)
abbrev pub HasCounted : List Spot → LineTable → Type 0
HasCounted area table = (just : ℕ) → 2 ≤ just → just ≤ 4 → group_lines just table ≡ table_of (lines_of (in_group just area))

-- an area has no more counted lines than a table has room for (own)
abbrev pub HasRoom : List Spot → Type 0
HasRoom area = length (lines_of (in_group 2 area)) + length (lines_of (in_group 3 area)) + length (lines_of (in_group 4 area)) ≤ 128

-- no area begins after these items (own)
abbrev pub BeginsNoArea : List LaidItem → Type 0
BeginsNoArea area = All (λ item. begins_area (meant item) ≡ false) area

-- the placing items of the area in which the next item stands, those after that item too (own)
abbrev pub whole_area : SignData → List LaidItem → List LaidItem → List Spot
whole_area sign before behind = in_area (standing sign (map meant before)).area (spots sign (map meant (before ++ behind)))

-- the cursor stands in an area that was read: these items are left of it, and this is known of those after it (own)
pub record IsInArea (sign : SignData) (read : AreaLines) (before behind : List LaidItem) (cursor : Cursor) : Type 0 where
  pub area : List LaidItem
  pub rest : List LaidItem
  pub split : behind ≡ area ++ rest
  pub plain : BeginsNoArea area
  pub ends : EndsArea (map meant rest)
  pub end : read.end ≡ cursor.at + length (spell_of area)
  pub next : IsFirst (items_of rest) read.next
  pub counted : HasCounted (whole_area sign before behind) read.lines

-- the plane shows what these items put on their page, of all the items of the string (own)
abbrev pub IsDrawnTo : SignData → Layer → List Meaning → List Meaning → BitPlane → Type 0
IsDrawnTo sign layer items before plane =
    Lights plane (has_colour sign (standing sign before).page layer.phase layer.colour (spots sign items) (spots sign before))

-- if the old plane shows what the items before a character put on their page, the new one shows what the character puts on it too (own)
abbrev pub DrawsGlyph : SignData → Layer → List Meaning → ℕ → List Meaning → BitPlane → BitPlane → Type 0
DrawsGlyph sign layer before number rest old new =
    IsDrawnTo sign layer (before ++ Shows number ∷ rest) before old
    → IsDrawnTo sign layer (before ++ Shows number ∷ rest) (before ++ Shows number ∷ []) new

-- the cursor stands in this page, counted from 1, and the plane shows what the items before it put on the page (own)
pub record IsDrawnUpTo (sign : SignData) (octets : List ℕ) (layer : Layer) (page : ℕ) (before behind : List LaidItem) (cursor : Cursor)
    (plane : BitPlane) : Type 0 where
  pub between : IsBetween sign octets before behind cursor
  pub page_is : cursor.state.pages ≡ page
  pub drawn : IsDrawnTo sign layer (map meant (before ++ behind)) (map meant before) plane

-- a page is drawn as far as an area that begins at the cursor (own)
pub record IsPageDrawn (sign : SignData) (octets : List ℕ) (layer : Layer) (page : ℕ) (cursor : Cursor) (plane : BitPlane) : Type 0 where
  pub before : List LaidItem
  pub behind : List LaidItem
  pub up_to : IsDrawnUpTo sign octets layer page before behind cursor plane
  pub begins : present_area sign (map meant before) ≡ []

-- a page is drawn as far as the cursor in an area that was read (own)
pub record IsAreaDrawn (sign : SignData) (octets : List ℕ) (layer : Layer) (page : ℕ) (read : AreaLines) (cursor : Cursor)
    (plane : BitPlane) : Type 0 where
  pub before : List LaidItem
  pub behind : List LaidItem
  pub up_to : IsDrawnUpTo sign octets layer page before behind cursor plane
  pub left : IsInArea sign read before behind cursor

-- the area that begins at the old cursor was read, and the new one stands after its first settings: a page that is drawn as far as the
-- old cursor is drawn as far as the new (own)
abbrev pub ReadsArea : SignData → List ℕ → Cursor → Cursor → AreaLines → Type 0
ReadsArea sign octets old new read =
    (layer : Layer) (page : ℕ) (plane : BitPlane) → IsPageDrawn sign octets layer page old plane
    → IsAreaDrawn sign octets layer page read new plane

-- at most so many steps were taken over the plane, which has the same size (own)
pub record IsCountedBy (plane plane' : BitPlane) (steps : ℕ) : Type 0 where
  pub least : plane.steps ≤ plane'.steps
  pub most : plane'.steps ≤ plane.steps + steps
  pub width : plane'.width ≡ plane.width
  pub height : plane'.height ≡ plane.height

-- these octets of a page took at most these steps over the plane: a row for each row of each character, and a fill for each
-- background, which has four octets (own)
pub record IsFilledBy (sign : SignData) (plane plane' : BitPlane) (octets : ℕ) : Type 0 where
  pub fills : ℕ
  pub few : 4 * fills ≤ octets
  pub least : plane.steps ≤ plane'.steps
  pub most : plane'.steps ≤ plane.steps + tallest sign * octets + plane_octets sign * fills
  pub width : plane'.width ≡ plane.width
  pub height : plane'.height ≡ plane.height
