-- What is kept of the items that were read (own).
use Rattle.std.specs.Prelude.{◌≡◌, ℕ, ◌+◌, ◌*◌, ◌^◌, ◌<◌, ◌≤◌, true, List, [], ◌∷◌, ◌++◌, Some, None, Result, Ok, Err}
use Rattle.multi_tag.specs.declared.tag.Tag.{Tag}
use Rattle.multi_tag.specs.declared.tag.Tag.TheVariants.{NewPage, NewLine, Font, Rect}
use Rattle.sign_font.specs.declared.parts.LineFill.TheVariants.{Off}
use Rattle.sign_font.specs.declared.font.FontInfo.{FontInfo}
use Rattle.sign_font.specs.Sign.{SignData, font_numbered, info_of}
use Rattle.multi_meaning.specs.declared.fault.SyntaxError.{SyntaxError}
use Rattle.multi_meaning.specs.Codes.{code_of}
use Rattle.multi_meaning.specs.declared.attributes.Rectangle.{Rectangle}
use Rattle.multi_meaning.specs.internal.Fits.{area_fits, room_for}
use Rattle.multi_meaning.specs.Meaning.{Meaning}
use Rattle.multi_meaning.specs.internal.Bounds.{has_place}
use Rattle.multi_meaning.specs.Address.{Standing, standing}
use Rattle.multi_meaning.specs.Attributes.{default_line_just, default_page_just, whole_sign}
use Rattle.multi_meaning.specs.Offence.{offence}
use Rattle.multi_meaning.specs.Times.{cycle, ended_times}
use Rattle.multi_meaning.specs.Verdict.{pages_of}
use Rattle.multi_meaning.specs.Words.{some_after}
use Rattle.multi_meaning.specs.internal.Present.{present_area}
use Rattle.multi_judge.specs.declared.attributes.Attributes.{Attributes}
use Rattle.multi_judge.specs.declared.state.State.{State}
use Rattle.multi_judge.specs.declared.area.Area.{Area}
use Rattle.multi_judge.specs.declared.line.Line.{Line}
use Rattle.multi_judge.specs.internal.Sums.{area_sum}

-- what is kept of the values in force (own)
abbrev pub attributes_of : Standing → Attributes
attributes_of at = record {
  font = info_of at.font;
  line_just = at.line_just;
  page_just = at.page_just;
  spacing = at.spacing;
  fore = at.fore;
  back = at.back;
  on = at.on;
  off = at.off;
  flash = at.flash;
  rectangle = at.rectangle;
}

-- what is kept of the values in force before the first item, in this font (own)
abbrev pub start_in : SignData → FontInfo → Attributes
start_in sign font = record {
  font = font;
  line_just = default_line_just sign.defaults;
  page_just = default_page_just sign.defaults;
  spacing = None;
  fore = sign.defaults.fore;
  back = sign.defaults.back;
  on = sign.defaults.page_on;
  off = sign.defaults.page_off;
  flash = None;
  rectangle = whole_sign sign;
}

-- the sides of a rectangle are numbers of 16 bits (own)
abbrev pub IsSmall : Rectangle → Type 0
IsSmall rectangle = (rectangle.width < 2 ^ 16) × (rectangle.height < 2 ^ 16)

-- the state is that of these items: their pages, their ended pages' times, the values in force after them, and the sums of
-- their present area; the font in force is the sign's, and the rectangle in force is small (own)
pub record IsStateOf (sign : SignData) (items : List Meaning) (state : State) : Type 0 where
  pub pages : state.pages ≡ pages_of items
  pub times : state.cycle ≡ cycle (ended_times sign items)
  pub attributes : state.attributes ≡ attributes_of (standing sign items)
  pub area : state.area ≡ area_sum (present_area sign items)
  pub font : font_numbered sign (standing sign items).font.number ≡ Some (standing sign items).font
  pub short : state.cycle ≤ 510 * state.pages
  pub small : IsSmall state.attributes.rectangle

-- the times of all pages of a string that ends in this state, in tenths of a second (own)
abbrev pub whole_times : State → ℕ
whole_times state = state.cycle + state.attributes.on + state.attributes.off

-- the most that the present segment of a line may have within a width, by what is kept of the line (own)
abbrev pub segment_room : Line → ℕ → ℕ
segment_room line width = room_for line.present line.left line.centre width

-- the most that the present group of an area may have within a height, by what is kept of the area (own)
abbrev pub group_room : Area → ℕ → ℕ
group_room area height = room_for area.present area.top area.middle height

-- a number is the most that the present segment of a line may have within a width, if the line has a character (own)
abbrev pub IsMost : ℕ → Line → ℕ → Type 0
IsMost width line most = line.any ≡ true → most ≡ segment_room line width

-- the limits are what the present segment, if the line in force has a character, and the present group, if there is one, may have in the
-- rectangle in force (own)
pub record IsLimited (state : State) : Type 0 where
  pub width : IsMost state.attributes.rectangle.width state.area.group.line state.limits.width
  pub height : 2 ≤ state.area.present → state.limits.height ≡ group_room state.area state.attributes.rectangle.height

-- lines aren't filled, the state is that of these items with their limits, and none of them offends (own)
pub record IsUnfilledOf (sign : SignData) (state : State) (items : List Meaning) : Type 0 where
  pub off : sign.line_fill ≡ Off
  pub fine : some_after (offence Off sign) items ≡ []
  pub state_is : IsStateOf sign items state
  pub limited : IsLimited state

-- the ended pages' times are within their bound: 510 tenths of a second each (own)
pub record IsReady (state : State) : Type 0 where
  pub short : state.cycle ≤ 510 * state.pages

-- one more item is judged where lines aren't filled: it doesn't offend and the state is then that
-- of the items with it, or it offends by this error (own)
abbrev pub IsJudged : SignData → List Meaning → Meaning → Result (Unit {0}) SyntaxError → State → Type 0
IsJudged sign items item (Ok done) state = (offence Off sign items item ≡ None) × IsStateOf sign (items ++ item ∷ []) state
IsJudged sign items item (Err error) state = offence Off sign items item ≡ Some (code_of error)

-- whatever the items before are, if the old state is theirs, the item is judged after them, and the new state is the one then (own)
abbrev pub Judges : SignData → State → Meaning → Result (Unit {0}) SyntaxError → State → Type 0
Judges sign old item result new = (items : List Meaning) → IsStateOf sign items old → IsJudged sign items item result new

-- the present area of these items fits the rectangle in force (own)
abbrev pub AreaFits : SignData → List Meaning → Type 0
AreaFits sign items = area_fits (standing sign items).rectangle.height (present_area sign items) ≡ true

-- the same, and of an item that has a place where the limits are known and what is before it fits (own)
abbrev pub JudgesTag : SignData → State → Meaning → Result (Unit {0}) SyntaxError → State → Type 0
JudgesTag sign old item result new =
    (items : List Meaning) → IsStateOf sign items old → (has_place item ≡ true → IsLimited old × AreaFits sign items)
    → IsJudged sign items item result new

-- a tag that the layout of the sign has no part in: it begins nothing, places nothing, and asks for no font (own)
abbrev pub IsSimple : Tag → Type 0
IsSimple NewPage = ⊥
IsSimple (NewLine gap) = ⊥
IsSimple (Font pick) = ⊥
IsSimple (Rect x y w h) = ⊥
IsSimple tag = Unit {0}
