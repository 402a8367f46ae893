-- The present area, its groups and lines, and what one more item makes of them.
use Rattle.std.specs.Prelude.{◌≡◌, ℕ, ◌+◌, ◌≤◌, true, List, [], ◌∷◌, ◌++◌, length, Some, if◌then◌else◌, ◌⊎◌}
use Rattle.std.specs.Option.{unwrap_or}
use Rattle.std.specs.List.{filter, list_any, after_last}
use Rattle.multi_tag.specs.Just.{page_number}
use Rattle.sign_font.specs.Sign.{SignData}
use Rattle.multi_meaning.specs.Attributes.{given_font, given_line_just, given_page_just, given_spacing, given_fore, given_back, given_on, given_off, given_flash, given_rectangle}
use Rattle.multi_meaning.specs.Meaning.{Meaning, begins_area, is_new_page}
use Rattle.multi_meaning.specs.Address.{Spot, Standing, in_area, spots, standing, is_glyph, is_break, segment, in_group, lines_of}
use Rattle.multi_meaning.specs.Line.{width_of, height_of}
use Rattle.multi_meaning.specs.Words.{largest}
use Rattle.multi_meaning.specs.Filling.{filled}

-- the placing items of the present area, in which the next item stands (own)
abbrev pub present_area : SignData → List Meaning → List Spot
present_area sign items = in_area (standing sign items).area (spots sign items)

-- the values in force after one more item (own)
abbrev pub standing_behind : SignData → Standing → Meaning → Standing
standing_behind sign here x = record {
  page = here.page + (if is_new_page x then 1 else 0);
  area = here.area + (if begins_area x then 1 else 0);
  font = unwrap_or (given_font sign x) here.font;
  line_just = unwrap_or (given_line_just sign.defaults x) here.line_just;
  page_just = unwrap_or (given_page_just sign.defaults x) here.page_just;
  spacing = unwrap_or (given_spacing x) here.spacing;
  fore = unwrap_or (given_fore sign.defaults x) here.fore;
  back = unwrap_or (given_back sign.defaults x) here.back;
  on = unwrap_or (given_on sign.defaults x) here.on;
  off = unwrap_or (given_off sign.defaults x) here.off;
  flash = unwrap_or (given_flash sign.defaults x) here.flash;
  rectangle = unwrap_or (given_rectangle sign x) here.rectangle;
}

-- a placing item: a character or the end of a line (NTCIP 1203 v03, MULTI tag 'nl')
abbrev pub IsPlacing : Spot → Type 0
IsPlacing s = (is_glyph s ≡ true) ⊎ (is_break s ≡ true)

-- the lines of a group that an `nl` ends (own)
abbrev pub ended_lines : List Spot → List (List Spot)
ended_lines group = filter (list_any is_break) (lines_of group)

-- the laid items of an area, whose group with the page justification of this number is these items, filled, and those with
-- one more character: that group grows, the others stay, and none is after it (own)
pub record IsFilledOn (page_just width : ℕ) (group : List Spot) (s : Spot) (old new : List Spot) : Type 0 where
  pub own : page_number s.at.page_just ≡ page_just
  pub before : in_group page_just old ≡ filled (Some width) group
  pub after : in_group page_just new ≡ filled (Some width) (group ++ s ∷ [])
  pub others : (just : ℕ) → (just ≡ page_just → ⊥) → in_group just new ≡ in_group just old
  pub last : largest (λ t. page_number t.at.page_just) new ≡ page_just

-- the segments of a line are at most as wide as the widest sign, and its full characters at most so many (own)
pub record IsNarrow (line : List Spot) : Type 0 where
  pub width : (just : ℕ) → 2 ≤ just → just ≤ 5 → width_of (segment just line) ≤ 1024
  pub characters : length (segment 5 line) ≤ 1024

-- the present line of each group of an area is narrow, and no group is higher (own)
abbrev pub IsNarrowArea : List Spot → Type 0
IsNarrowArea area =
    (just : ℕ) → 2 ≤ just → just ≤ 4
    → IsNarrow (after_last is_break (in_group just area)) × (height_of (lines_of (in_group just area)) ≤ 1024)
