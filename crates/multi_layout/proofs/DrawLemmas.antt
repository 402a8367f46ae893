-- What is drawn of one more item, and the steps over the plane that it takes.
use Rattle.multi_layout.proofs.Common.{true, Put, is_glyph, is_break, ◌||◌, in_area-append, spots_with, spots_behind, ◌≡◌, ℕ, ◌+◌, ◌<◌, ◌≤◌, Bool, false, cond, ◌==◌, ◌⊎◌, List, [], ◌∷◌, ◌++◌, length, map, Option, Some, None, refl, sym, ap, ◌∙◌, arith, ◌-◌, ◌&&◌, rules, nat_lt, unwrap_or, option_map, length-append, spelling, tag_of, Tag, Back, BitPlane, is_lit, Defaults, SignData, FontData, cell_in, largest, tallest, CellData, cell_numbered, Standing, standing, put_at, spots, Break, Glyph, Spot, in_group, lines_of, in_area, Meaning, Does, Shows, begins_area, is_new_page, meaning, shown_colour, is_lit_at, covered_same, eq-eqb, same_page_behind, present_area-placing, Layer, State, Attributes, HasCounted, IsDrawnTo, IsFilledBy, IsStateOf, area_sum, filter-append, page_number, Place, present_area, unsized_offence, page_number_known, Area, LineTable, StandsAt, PlacesCharacter, group_lines, table_of, Result, find, nat_le, le-mul_of_pos_right, same_Some, length-map, sized, meaning_of_tag, covered_cover, covered_glyph, does_tag, IsCountedBy, cell_of_font, shown_free, no_back, no_clash}
use Rattle.multi_token.specs.Spelling as spelled
use Rattle.multi_tag.specs.Body.{Spells, SpellsSmall}
use Rattle.multi_tag.specs.declared.tag.TagFault.{TagFault}
use Rattle.multi_tag.proofs.TagOfLemmas.{tag_of_is_the_table}
use Rattle.sign_font.specs.Cell as cells

-- A CHARACTER ON A PLANE

-- a lit character covers this pixel
abbrev lit_covers : Bool → cells.SizedCell → ℕ → ℕ → ℕ → ℕ → ℕ → Bool
lit_covers lit cell column row rows x y = lit && nat_le column x && nat_le row y && nat_lt y (row + rows) && cells.is_lit cell (x - column) (y - row)

-- the group of what an item puts, among what all items put
pub group_with : (sign : SignData) (before : List Meaning) (x : Meaning) (rest : List Meaning) (put : Put) → put_at sign.defaults (standing sign before) x ≡ Some put
    → let y : Spot = record { at = standing sign before; put = put } in (is_glyph y || is_break y) ≡ true → (just : ℕ) → just ≡ page_number (standing sign before).page_just
    → (more : List Spot) × (in_group just (in_area (standing sign before).area (spots sign (before ++ x ∷ rest))) ≡ in_group just (in_area (standing sign before).area (spots sign before)) ++ y ∷ more)
group_with sign before x rest put puts placing just own =
    let y : Spot = record { at = standing sign before; put = put } in
    let a = (standing sign before).area in
    let more = spots_behind sign (before ++ x ∷ []) rest in
    let area : in_area a (spots sign before ++ y ∷ more) ≡ in_area a (spots sign before) ++ y ∷ in_area a more = grind (arith, in_area-append a (spots sign before) (y ∷ more), eq-eqb a a refl) in (
      in_group just (in_area a more),
      ap (λ l. in_group just (in_area a l)) (spots_with sign before x rest put puts) ∙ ap (in_group just) area
          ∙ filter-append (λ t. page_number t.at.page_just == just) (in_area a (spots sign before)) (y ∷ in_area a more)
          ∙ ap (λ b. in_group just (in_area a (spots sign before)) ++ cond b (y ∷ in_group just (in_area a more)) (in_group just (in_area a more))) (eq-eqb (page_number y.at.page_just) just (sym own)),
    )

module _ (sign : SignData) (before : List Meaning) (state : State) (st : IsStateOf sign before state) (number : ℕ) (c : cells.SizedCell)
    (found : cell_in sign state.attributes.font.number number ≡ Some c) where
  pub glyph_found : (cell : CellData) × (cell_numbered (standing sign before).font number ≡ Some cell) × (sized (standing sign before).font cell ≡ c)
  glyph_found = first_of (search (rules, cell_of_font), grind (arith, cell_of_font))

  -- the place of a character, by the lines of its area
  module _ (rest : List Meaning) (lines : LineTable) (counted : HasCounted (in_area (standing sign before).area (spots sign (before ++ Shows number ∷ rest))) lines)
      (place : Place)
      (area : Area)
      (with : area ≡ area_sum (present_area sign (before ++ Shows number ∷ [])))
      (placed : PlacesCharacter state.attributes area (group_lines (page_number state.attributes.page_just) lines) c.width place)
      (fine : unsized_offence sign before (Shows number) ≡ None) where
    pub stands_at : StandsAt sign before number rest place
    stands_at cell numbered =
        let (cell', numbered', is') = glyph_found in
        let same : cell' ≡ cell = same_Some cell' cell (sym numbered' ∙ numbered) in
        let is : sized (standing sign before).font cell ≡ c = ap (sized (standing sign before).font) (sym same) ∙ is' in
        let at = standing sign before in
        let spot : Spot = record { at = at; put = Glyph cell } in
        let page : page_number state.attributes.page_just ≡ page_number at.page_just = ap (λ (a : Attributes). page_number a.page_just) st.attributes in
        let known = page_number_known state.attributes.page_just in
        let (more, group) = group_with sign before (Shows number) rest (Glyph cell) (ap (option_map Glyph) numbered) refl (page_number at.page_just) refl in
        placed (spots sign before) (spots sign (before ++ Shows number ∷ rest)) more spot refl st.attributes (ap (λ (z : cells.SizedCell). z.width) is)
        (with ∙ ap area_sum (present_area-placing sign before (Shows number) (Glyph cell) refl (ap (option_map Glyph) numbered) refl))
        (counted (page_number state.attributes.page_just) known.0 known.1 ∙ ap (λ n. table_of (lines_of (in_group n (in_area at.area (spots sign (before ++ Shows number ∷ rest)))))) page)
        group
        (no_clash (spots sign before) spot (page_number at.page_just) refl refl (shown_free sign before number cell numbered fine))
        (no_back (spots sign before) spot (page_number state.attributes.page_just) _ (sym page) refl (shown_free sign before number cell numbered fine))

  -- a character covers the pixels of its cell if it is lit, and else none
  pub character_put : (rest : List Meaning) (layer : Layer) (place : Place) → StandsAt sign before number rest place → (old new : BitPlane) (on lit : Bool) → is_lit_at layer.phase state.attributes.flash ≡ lit
      → on ≡ (shown_colour sign state.attributes.fore == layer.colour) → new.width ≡ old.width → new.height ≡ old.height
      → ((x y : ℕ) → x < old.width → y < old.height → is_lit new x y ≡ cond (lit_covers lit c place.column place.row c.height x y) on (is_lit old x y))
      → IsDrawnTo sign layer (before ++ Shows number ∷ rest) before old → IsDrawnTo sign layer (before ++ Shows number ∷ rest) (before ++ Shows number ∷ []) new
  character_put rest layer place stands old new on lit flashes colour width tall pixels drawn = λ x y across down.
      let (cell, numbered, is) = glyph_found in
      let in_old : x < old.width = omega (arith, width, across) in
      let in_old' : y < old.height = omega (arith, tall, down) in
      grind (arith, in_old, in_old', numbered, is, covered_glyph sign layer.phase layer.colour (spots sign (before ++ Shows number ∷ rest)) x y before number cell numbered, same_page_behind sign before (Shows number) refl)

-- FOUR OCTETS

-- a body that spells a tag has two octets at least
long_body : (body : List ℕ) (tag : Tag) → Spells body tag → 2 ≤ length body
unfolding Spells SpellsSmall
long_body body tag spells = first_of (search (rules, length-map, length-append), grind (arith, length-map, length-append))

tag_spelled : (body : List ℕ) (r : Result Tag TagFault) (tag : Tag) → tag_of body ≡ r → meaning_of_tag r ≡ Does tag → Spells body tag
tag_spelled body read tag is e = grind (arith, does_tag, tag_of_is_the_table)

-- a tag is spelled by four octets at least
pub four_octets : (item : spelled.Item) (tag : Tag) → meaning item ≡ Does tag → 4 ≤ length (spelling item)
four_octets (spelled.Char number) tag e = cc
four_octets (spelled.Tag body) tag e = omega (arith, long_body body tag (tag_spelled body (tag_of body) tag refl e), length-append body (93 ∷ []))

-- THE TALLEST FONT

tall_enough : (fonts : List FontData) (number : ℕ) (font : FontData) → find (λ (f : FontData). f.number == number) fonts ≡ Some font → font.height ≤ largest (map (λ (f : FontData). f.height) fonts)
tall_enough [] number font e = cc
tall_enough (f ∷ fonts) number font e = grind (arith, same_Some, tall_enough fonts number font)

-- a cell that was found has its font's height, and the tallest font is no lower
pub cell_height : (sign : SignData) (before : List Meaning) (state : State) → IsStateOf sign before state → (number : ℕ) (c : cells.SizedCell)
    → cell_in sign state.attributes.font.number number ≡ Some c → (c.height ≡ state.attributes.font.height) × (c.height ≤ tallest sign)
cell_height sign before state st number c found = first_of (search (rules, glyph_found, tall_enough), grind (arith, glyph_found, tall_enough))

-- ONE MORE ITEM

module _ (sign : SignData) (layer : Layer) (before rest : List Meaning) where
  -- a background covers the page
  pub cover_drawn : (given : Option ℕ) (new : BitPlane) (on : Bool) → on ≡ (shown_colour sign (unwrap_or given sign.defaults.back) == layer.colour)
      → ((x y : ℕ) → x < new.width → y < new.height → is_lit new x y ≡ on)
      → IsDrawnTo sign layer (before ++ Does (Back given) ∷ rest) (before ++ Does (Back given) ∷ []) new
  cover_drawn given new on colour pixels = first_of (search (rules, covered_cover, same_page_behind), grind (arith, covered_cover, same_page_behind))

  -- an item that covers nothing leaves the plane
  pub same_drawn : (x : Meaning) (old : BitPlane) → is_new_page x ≡ false → (put_at sign.defaults (standing sign before) x ≡ None) ⊎ ((gap : Option ℕ) × (put_at sign.defaults (standing sign before) x ≡ Some (Break gap)))
      → IsDrawnTo sign layer (before ++ x ∷ rest) before old → IsDrawnTo sign layer (before ++ x ∷ rest) (before ++ x ∷ []) old
  same_drawn x old page puts drawn = first_of (search (rules, covered_same, same_page_behind), grind (arith, covered_same, same_page_behind))

-- a tag that begins no area and sets no background puts nothing, or ends a line
pub quiet_put : (defaults : Defaults) (at : Standing) (tag : Tag) → ((given : Option ℕ) → tag ≡ Back given → ⊥) → begins_area (Does tag) ≡ false
    → (put_at defaults at (Does tag) ≡ None) ⊎ ((gap : Option ℕ) × (put_at defaults at (Does tag) ≡ Some (Break gap)))
quiet_put defaults at tag other plain = grind (arith)

pub no_page : (tag : Tag) → begins_area (Does tag) ≡ false → is_new_page (Does tag) ≡ false
no_page tag plain = grind (arith)

-- STEPS OVER THE PLANE

-- no more than a row for each row of a font
pub rows_few : (sign : SignData) {old new : BitPlane} {rows : ℕ} (octets : ℕ) → 1 ≤ octets → rows ≤ tallest sign → IsCountedBy old new rows → IsFilledBy sign old new octets
rows_few sign octets some tall k = first_of (search (rules, le-mul_of_pos_right), grind (arith, le-mul_of_pos_right))
