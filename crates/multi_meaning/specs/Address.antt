-- Where the items of a string stand: pages, areas, groups, lines and segments (NTCIP 1203 v03, MULTI).
use Rattle.std.specs.Prelude.{ℕ, Bool, true, false, ◌||◌, ◌&&◌, ◌==◌, ◌+◌, List, Option, Some, None}
use Rattle.std.specs.List.{filter, count_by, after_last}
use Rattle.std.specs.Option.{unwrap_or, option_map}
use Rattle.multi_tag.specs.declared.just.LineJust.{LineJust}
use Rattle.multi_tag.specs.declared.just.PageJust.{PageJust}
use Rattle.multi_tag.specs.declared.tag.Tag.TheVariants.{NewPage, NewLine, Back}
use Rattle.multi_tag.specs.Just.{line_number, page_number}
use Rattle.sign_font.specs.declared.parts.Defaults.{Defaults}
use Rattle.sign_font.specs.Sign.{SignData, FontData, CellData, cell_numbered}
use Rattle.multi_meaning.specs.Meaning.{Meaning, Shows, Does, is_new_page, begins_area}
use Rattle.multi_meaning.specs.declared.attributes.FlashTimes.{FlashTimes}
use Rattle.multi_meaning.specs.declared.attributes.Rectangle.{Rectangle}
use Rattle.multi_meaning.specs.Attributes.{in_force, default_font, default_line_just, default_page_just, given_font, given_line_just, given_page_just, given_spacing, given_fore, given_back, given_on, given_off, given_flash, given_rectangle, whole_sign}
use Rattle.multi_meaning.specs.Words.{some_after, cut_behind}

-- where an item stands, and what is in force there (own)
pub record Standing : Type 0 where
  pub page : ℕ
  pub area : ℕ
  pub font : FontData
  pub line_just : LineJust
  pub page_just : PageJust
  pub spacing : Option ℕ
  pub fore : ℕ
  pub back : ℕ
  pub on : ℕ
  pub off : ℕ
  pub flash : Option FlashTimes
  pub rectangle : Rectangle

-- where the item after some items stands, and what is in force there; pages are counted from 0, and areas from 0
-- through all pages (NTCIP 1203 v03, MULTI)
unfoldable pub standing : SignData → List Meaning → Standing
standing sign before = record {
  page = count_by is_new_page before;
  area = count_by begins_area before;
  font = in_force (given_font sign) (default_font sign) before;
  line_just = in_force (given_line_just sign.defaults) (default_line_just sign.defaults) before;
  page_just = in_force (given_page_just sign.defaults) (default_page_just sign.defaults) before;
  spacing = in_force given_spacing None before;
  fore = in_force (given_fore sign.defaults) sign.defaults.fore before;
  back = in_force (given_back sign.defaults) sign.defaults.back before;
  on = in_force (given_on sign.defaults) sign.defaults.page_on before;
  off = in_force (given_off sign.defaults) sign.defaults.page_off before;
  flash = in_force (given_flash sign.defaults) None before;
  rectangle = in_force (given_rectangle sign) (whole_sign sign) before;
}

-- what an item puts on a page: a character's cell, the end of a line with the gap that it gives, or a
-- background: the page that it covers, and its colour (own)
pub data Put : Type 0 where
  Glyph : CellData → Put
  Break : Option ℕ → Put
  Cover : ℕ → ℕ → Put

-- what is put on a page, and where it stands (own)
pub record Spot : Type 0 where
  pub at : Standing
  pub put : Put

-- what an item puts: a character the cell of its font, `nl` the end of a line, and a background where a page begins and
-- at a `pb` (NTCIP 1203 v03, MULTI tags 'nl', 'np' and 'pb')
abbrev pub put_at : Defaults → Standing → Meaning → Option Put
put_at defaults at (Shows number) = option_map Glyph (cell_numbered at.font number)
put_at defaults at (Does (NewLine gap)) = Some (Break gap)
put_at defaults at (Does NewPage) = Some (Cover (at.page + 1) at.back)
put_at defaults at (Does (Back colour)) = Some (Cover at.page (unwrap_or colour defaults.back))
put_at defaults at _ = None

-- what an item puts, with where it stands (own)
abbrev pub spot_at : Defaults → Standing → Meaning → Option Spot
spot_at defaults at item = option_map (λ put. record { at = at; put = put }) (put_at defaults at item)

-- all that the items of a string put, in their order (own)
unfoldable pub spots : SignData → List Meaning → List Spot
spots sign items = some_after (λ before item. spot_at sign.defaults (standing sign before) item) items

-- a character (NTCIP 1203 v03, MULTI)
abbrev pub is_glyph : Spot → Bool
is_glyph spot = of spot.put
  where
    of : Put → Bool
    of (Glyph cell) = true
    of _ = false

-- what ends a line (NTCIP 1203 v03, MULTI tag 'nl')
abbrev pub is_break : Spot → Bool
is_break spot = of spot.put
  where
    of : Put → Bool
    of (Break gap) = true
    of _ = false

-- the placing items of an area, which begins at a page's start or a rectangle: its characters and `nl` (NTCIP 1203 v03, MULTI
-- tag 'tr')
abbrev pub in_area : ℕ → List Spot → List Spot
in_area area spots = filter (λ t. (is_glyph t || is_break t) && (t.at.area == area)) spots

-- the placing items of a spot's area (own)
abbrev pub area_of : Spot → List Spot → List Spot
area_of spot spots = in_area spot.at.area spots

-- the group of an area with the page justification of this number in force (NTCIP 1203 v03, MULTI tag 'jp')
abbrev pub in_group : ℕ → List Spot → List Spot
in_group just area = filter (λ t. page_number t.at.page_just == just) area

-- the group of a spot (own)
abbrev pub group_of : Spot → List Spot → List Spot
group_of spot spots = in_group (page_number spot.at.page_just) (area_of spot spots)

-- the counted lines of a group: every line that an `nl` ends, with that `nl`, and the last line if it has characters (own)
abbrev pub lines_of : List Spot → List (List Spot)
lines_of group = cut_behind is_break group

-- the line of a spot, as far as the spots before it go: what stands after the last `nl` of its group (NTCIP 1203 v03, MULTI tag 'nl')
abbrev pub line_before : List Spot → Spot → List Spot
line_before before spot = after_last is_break (group_of spot before)

-- the characters of a line with the line justification of this number in force (NTCIP 1203 v03, MULTI tag 'jl')
abbrev pub segment : ℕ → List Spot → List Spot
segment just line = filter (λ t. is_glyph t && (line_number t.at.line_just == just)) line
