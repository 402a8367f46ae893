-- What is in force after the items of an accepted string: the rectangle is inside the sign, and every font is at least one
use Rattle.multi_meaning.proofs.Common.{◌≡◌, ℕ, ◌+◌, ◌≤◌, Bool, true, ◌&&◌, ◌||◌, ◌==◌, List, [], ◌∷◌, ◌++◌, Option, None, sym, ◌∙◌, arith, IfSome, inl, inr, false, cond, length, Some, refl, ap, option_map, map, length-append, All, cons_option, find, after_last, nat_tests, All-nil, All-head, All-tail, All-filter, All-weaker, filter-append, or_parts, cases_eq, map-append, Defaults, SignData, CellData, FontData, font_numbered, cell_numbered, NewPage, NewLine, Back, Rect, LineFill, Off, Words, page_number, Item, Rectangle, Meaning, Shows, Does, begins_area, meaning, given_rectangle, whole_sign, Standing, standing, Spot, put_at, spots, is_glyph, is_break, Put, Glyph, Break, in_group, lines_of, segment, glyph_width, height_of, offence_by, offence, conflicts, present_area, some_after, area_fits, line_fits, too_big, fill_at, filled, offences, IsSome, All-drop, le-leb, not-false, none-some, IsSound, default_font, given_font, IsNarrow, IsNarrowArea, IsFine, rules}
use Rattle.multi_meaning.proofs.StandingLemmas.{spots_all, offence-rectangle, standing_push, offence-undefined, offence-character, offence-break, rectangle_stays, present_area-placing, present_area-nothing, present_area-cover, present_area-new, last_fine}
use Rattle.multi_meaning.proofs.WordLemmas.{left_nil, none_of, push_ind, right_nil, some_after_push, some_after-append, cases_Option, after_last_push}
use Rattle.multi_meaning.proofs.GroupLemmas.{lines_within, area_placing, in_group_other, own_group, placing_group, fit_each, sum_least}
use Rattle.multi_meaning.specs.internal.FillOpen.{AllOpenFit}
use Rattle.multi_meaning.proofs.FillLemmas.{nothing_fits, segment_front, filled_behind, filled_none}

module _ (sign : SignData) where
  -- where no item offends by these errors, none of a front of them does
  pub none_front : (f : List Meaning → Meaning → Option ℕ) (items behind : List Meaning) → some_after f (items ++ behind) ≡ [] → some_after f items ≡ []
  none_front f items behind none = left_nil (some_after f items) (some_after (λ more. f (items ++ more)) behind) (sym (some_after-append f items behind) ∙ none)

  -- where no item offends by them, the last one doesn't after those before it
  pub none_last : (f : List Meaning → Meaning → Option ℕ) (items : List Meaning) (item : Meaning) → some_after f (items ++ item ∷ []) ≡ [] → f items item ≡ None
  none_last f items item none = none_of (f items item) [] (right_nil (some_after f items) (cons_option (f items item) []) (sym (some_after_push f items item) ∙ none))

  -- what holds before the first item, and after each that doesn't offend if it holds before it, holds after them all
  pub each_ind : (f : List Meaning → Meaning → Option ℕ) (P : List Meaning → Type 0) → P [] → ((before : List Meaning) (x : Meaning) → f before x ≡ None → P before → P (before ++ x ∷ []))
      → (items : List Meaning) → some_after f items ≡ [] → P items
  each_ind f P first step = push_ind (λ items. some_after f items ≡ [] → P items) (λ none. first)
      (λ items item holds none. step items item (none_last f items item none) (holds (none_front f items (item ∷ []) none)))

-- a rectangle is inside the sign
abbrev pub IsInSign : SignData → Rectangle → Type 0
IsInSign sign r = (r.left + r.width ≤ sign.width) × (r.top + r.height ≤ sign.height)

module _ (sign : SignData) (big : List Spot → Spot → Bool) where
  -- after the items of an accepted string the rectangle in force is inside the sign
  pub rectangle_inside : (items : List Meaning) → some_after (offence_by big sign) items ≡ [] → IsInSign sign (standing sign items).rectangle
  unfolding standing
  rectangle_inside = each_ind sign (offence_by big sign) (λ before. IsInSign sign (standing sign before).rectangle) (omega arith, omega arith)
      (λ before x none old. grind (arith, nat_tests, standing_push sign before x, offence-rectangle big sign before, none, old))

  -- and so the rectangle in force is no higher than the sign
  pub rectangle_within : (items : List Meaning) → some_after (offence_by big sign) items ≡ [] → (standing sign items).rectangle.height ≤ sign.height
  rectangle_within items none = omega (arith, (rectangle_inside items none).1)

  -- and no wider
  pub rectangle_width_within : (items : List Meaning) → some_after (offence_by big sign) items ≡ [] → (standing sign items).rectangle.width ≤ sign.width
  rectangle_width_within items none = omega (arith, (rectangle_inside items none).0)

-- what holds of each holds of the one that is found
found_each : {X : Type 0} (P : X → Type 0) (p : X → Bool) (xs : List X) → All P xs → IfSome (find p xs) P
found_each P p [] all = tt
found_each P p (x ∷ xs) all = grind (arith, All-head, found_each P p xs (All-tail P x xs all))

-- a cell of at least one column
abbrev IsWideCell : CellData → Type 0
IsWideCell cell = 1 ≤ cell.width

-- a font of at least one row, whose cells have at least one column
abbrev HighFont : FontData → Type 0
HighFont font = (1 ≤ font.height) × All IsWideCell font.cells

-- what is put in a font of at least one row is, if it is a character, at least one column wide
abbrev High : Spot → Type 0
High s = (1 ≤ s.at.font.height) × (is_glyph s ≡ true → 1 ≤ glyph_width s)

high_numbered : (sign : SignData) (number : ℕ) → IsSound sign → IfSome (font_numbered sign number) HighFont
high_numbered sign number sound = grind (arith, found_each)

-- what an item puts where the font in force is high
high_put : (defaults : Defaults) (here : Standing) (x : Meaning) → HighFont here.font → IfSome (put_at defaults here x) (λ put. let spot : Spot = record { at = here; put = put } in High spot)
high_put defaults here x high = grind (arith, found_each IsWideCell, high.0, high.1)

module _ (sign : SignData) (sound : IsSound sign) (some : IsSome (font_numbered sign sign.defaults.font)) where
  default_high : HighFont (default_font sign)
  default_high = grind (arith, high_numbered sign sign.defaults.font sound, some)

  -- the font in force and all that is put are high
  abbrev AreHigh : List Meaning → Type 0
  AreHigh items = HighFont (standing sign items).font × All High (spots sign items)

  given_high : (x : Meaning) → IfSome (given_font sign x) HighFont
  given_high x = grind (arith, high_numbered, default_high)

  next_high : (before : List Meaning) (x : Meaning) → AreHigh before → AreHigh (before ++ x ∷ [])
  next_high before x (font, each) =
      grind (arith, standing_push sign before x, given_high x, font, spots_all sign High before x, high_put sign.defaults (standing sign before) x font, each)

  -- whatever the items are, all that they put is high
  area_high_all : (items : List Meaning) → All High (present_area sign items)
  unfolding standing spots
  area_high_all items = All-filter _ High (spots sign items) (push_ind AreHigh (default_high, All-nil High) next_high items).1

  -- the characters of the present area are at least one column wide
  pub area_wide : (items : List Meaning) → All (λ (s : Spot). is_glyph s ≡ true → 1 ≤ glyph_width s) (present_area sign items)
  area_wide items = All-weaker High (λ (s : Spot). is_glyph s ≡ true → 1 ≤ glyph_width s) (λ s h. h.1) (present_area sign items) (area_high_all items)

-- what holds of an empty area in each rectangle, and stays where a placing item joins that isn't too big, holds of the present
-- area of an accepted string
module _ (setting : LineFill) (sign : SignData) (P : Rectangle → List Spot → Type 0) (first : (r : Rectangle) → P r [])
    (joins : (before : List Meaning) (put : Put) → let spot : Spot = record { at = standing sign before; put = put } in
    (is_glyph spot || is_break spot) ≡ true → too_big setting (spots sign before) spot ≡ false → P spot.at.rectangle (present_area sign before) → P spot.at.rectangle (present_area sign before ++ spot ∷ [])) where
  -- it holds of the area of these items in the rectangle in force
  abbrev Holds : List Meaning → Type 0
  Holds items = P (standing sign items).rectangle (present_area sign items)

  pub first_holds : Holds []
  unfolding standing spots
  first_holds = first (whole_sign sign)

  -- the area after an item, by what it is and by the rectangle before the item
  holds_by : (before : List Meaning) (x : Meaning) (area : List Spot) → given_rectangle sign x ≡ None → present_area sign (before ++ x ∷ []) ≡ area
      → P (standing sign before).rectangle area → Holds (before ++ x ∷ [])
  holds_by before x area gives is holds = grind (arith, rectangle_stays)

  -- a placing item joins it
  holds_placing : (before : List Meaning) (x : Meaning) (put : Put) → let spot : Spot = record { at = standing sign before; put = put } in
      given_rectangle sign x ≡ None → begins_area x ≡ false → put_at sign.defaults (standing sign before) x ≡ Some put → (is_glyph spot || is_break spot) ≡ true
      → cond {A = Option ℕ} (conflicts (spots sign before) spot) (Some 11) (cond (too_big setting (spots sign before) spot) (Some 5) None) ≡ None
      → Holds before → Holds (before ++ x ∷ [])
  holds_placing before x put gives stays puts placing fine old = grind (arith, holds_by, present_area-placing)

  -- it holds after one more item that doesn't offend
  pub next_holds : (before : List Meaning) (x : Meaning) → offence setting sign before x ≡ None → Holds before → Holds (before ++ x ∷ [])
  next_holds before (Shows number) none old = elim (cases_Option (cell_numbered (standing sign before).font number)) [
    | inl undefined ↦ absurd (none-some 7 (sym none ∙ offence-undefined (too_big setting) sign before number undefined))
    | inr (cell, found) ↦ holds_placing before (Shows number) (Glyph cell) refl refl (ap (option_map Glyph) found) refl
        (sym (offence-character (too_big setting) sign before number cell found) ∙ none) old
  ]
  next_holds before (Does (NewLine gap)) none old = holds_placing before (Does (NewLine gap)) (Break gap) refl refl refl refl
      (sym (offence-break (too_big setting) sign before gap) ∙ none) old
  next_holds before (Does NewPage) none old = grind (arith, present_area-new sign before (Does NewPage) refl, first)
  next_holds before (Does (Rect x y w h)) none old = grind (arith, present_area-new sign before (Does (Rect x y w h)) refl, first)
  next_holds before (Does (Back colour)) none old = holds_by before (Does (Back colour)) (present_area sign before) refl (present_area-cover sign before (Does (Back colour)) _ refl refl refl) old
  next_holds before x none old = holds_by before x (present_area sign before) refl (present_area-nothing sign before x refl refl) old

  pub holds_always : (items : List Meaning) → some_after (offence setting sign) items ≡ [] → P (standing sign items).rectangle (present_area sign items)
  holds_always = each_ind sign (offence setting sign) Holds first_holds next_holds

-- an area without items fits
fits_none : (height : ℕ) → area_fits height [] ≡ true
fits_none height = ap (λ b. b && true) (le-leb 0 height (omega arith))

-- an area fits a rectangle
abbrev Fitting : Rectangle → List Spot → Type 0
Fitting r area = area_fits r.height area ≡ true

fits_joined : (sign : SignData) (before : List Meaning) (put : Put) → let spot : Spot = record { at = standing sign before; put = put } in
    (is_glyph spot || is_break spot) ≡ true → too_big Off (spots sign before) spot ≡ false → Fitting spot.at.rectangle (present_area sign before) → Fitting spot.at.rectangle (present_area sign before ++ spot ∷ [])
fits_joined sign before put placing small old = not-false _ (or_parts _ _ small).1

-- after one more item that doesn't offend the present area fits the rectangle in force, if it does before it
pub fits_next : (sign : SignData) (before : List Meaning) (x : Meaning) → offence Off sign before x ≡ None → area_fits (standing sign before).rectangle.height (present_area sign before) ≡ true
    → area_fits (standing sign (before ++ x ∷ [])).rectangle.height (present_area sign (before ++ x ∷ [])) ≡ true
fits_next sign = next_holds Off sign Fitting (λ r. fits_none r.height) (fits_joined sign)

-- before the first item it does
pub fits_first : (sign : SignData) → area_fits (standing sign []).rectangle.height (present_area sign []) ≡ true
fits_first sign = first_holds Off sign Fitting (λ r. fits_none r.height) (fits_joined sign)

-- after the items of an accepted string the present area fits the rectangle in force
pub area_fits_always : (sign : SignData) (items : List Meaning) → IsFine sign items → area_fits (standing sign items).rectangle.height (present_area sign items) ≡ true
area_fits_always sign = holds_always Off sign Fitting (λ r. fits_none r.height) (fits_joined sign)

module _ (sign : SignData) (sound : IsSound sign) (some : IsSome (font_numbered sign sign.defaults.font)) (items : List Meaning) where
  -- a present area that fits has no more lines than a sign has rows
  pub room_of : area_fits (standing sign items).rectangle.height (present_area sign items) ≡ true → (standing sign items).rectangle.height ≤ sign.height
      → length (lines_of (in_group 2 (present_area sign items))) + length (lines_of (in_group 3 (present_area sign items)))
      + length (lines_of (in_group 4 (present_area sign items))) ≤ 128
  room_of fits within = grind (arith, lines_within, area_high_all, All-weaker High (λ (s : Spot). 1 ≤ s.at.font.height))

  -- and so has that after the items of an accepted string
  pub room : IsFine sign items → length (lines_of (in_group 2 (present_area sign items))) + length (lines_of (in_group 3 (present_area sign items)))
      + length (lines_of (in_group 4 (present_area sign items))) ≤ 128
  room none = room_of (area_fits_always sign items none) (rectangle_within sign (too_big Off) items none)

-- the present line of each group fits a width
abbrev pub LinesFit : ℕ → List Spot → Type 0
LinesFit width area = (just : ℕ) → line_fits width (after_last is_break (in_group just area)) ≡ true

-- lines are filled to a width of their rectangle, or to none
module _ (setting : LineFill) (fill : Rectangle → Option ℕ) (is : (at : Standing) → fill_at setting at ≡ fill at.rectangle) (sign : SignData) where
  -- the open line of each group of an area, as it is filled, fits a rectangle
  abbrev pub Fits : Rectangle → List Spot → Type 0
  Fits r area = (just : ℕ) → line_fits r.width (after_last is_break (filled (fill r) (in_group just area))) ≡ true

  pub none_fit : (r : Rectangle) → Fits r []
  none_fit r just = ap (λ l. line_fits r.width (after_last is_break l)) (filled_none (fill r)) ∙ nothing_fits r.width

  pub fits_joins : (before : List Meaning) (put : Put) → let s : Spot = record { at = standing sign before; put = put } in
      (is_glyph s || is_break s) ≡ true → too_big setting (spots sign before) s ≡ false → Fits s.at.rectangle (present_area sign before) → Fits s.at.rectangle (present_area sign before ++ s ∷ [])
  fits_joins before put placing small old just =
      let s : Spot = record { at = standing sign before; put = put } in
      let area = present_area sign before in
      let own = own_group (page_number s.at.page_just) area s refl in
      let group = in_group (page_number s.at.page_just) area in
      let ends = filled_behind (fill_at setting s.at) group s (placing_group (page_number s.at.page_just) area (area_placing (spots sign before) s)) in
      elim (cases_eq (page_number s.at.page_just) just) [
        | inl same ↦
            let after_last_push' = after_last_push is_break (filled (fill_at setting s.at) group) s in
            grind (arith, same, placing, small, own, ends, after_last_push', nothing_fits s.at.rectangle.width, is s.at)
        | inr other ↦ grind (arith, in_group_other, old)
      ]

-- after the items of an accepted string the present line of each group fits the rectangle in force
pub lines_fit_always : (sign : SignData) (items : List Meaning) → IsFine sign items → LinesFit (standing sign items).rectangle.width (present_area sign items)
lines_fit_always sign = holds_always Off sign (Fits Off (λ r. None) (λ at. refl) sign) (none_fit Off (λ r. None) (λ at. refl) sign) (fits_joins Off (λ r. None) (λ at. refl) sign)

-- where lines are filled and no item offends, the open line of each group of the present area fits
module _ (sign : SignData) where
  abbrev pub OpenLinesFit : List Meaning → Type 0
  OpenLinesFit items = AllOpenFit (Some (standing sign items).rectangle.width) (present_area sign items)

  pub open_lines_fit : sign.line_fill ≡ Words → (before : List Item) → offences sign before ≡ [] → OpenLinesFit (map meaning before)
  open_lines_fit words =
      let fill = λ (r : Rectangle). Some r.width in
      let next = next_holds Words sign (Fits Words fill (λ at. refl) sign) (none_fit Words fill (λ at. refl) sign) (fits_joins Words fill (λ at. refl) sign) in
      push_ind (λ before. offences sign before ≡ [] → OpenLinesFit (map meaning before)) (λ none. first_holds Words sign (Fits Words fill (λ at. refl) sign) (none_fit Words fill (λ at. refl) sign) (fits_joins Words fill (λ at. refl) sign))
      (λ before item ih none. grind (arith, last_fine sign before item none, words, map-append, next (map meaning before) (meaning item), ih))

-- the characters of a segment are at least one column wide
wide_segment : (just : ℕ) (line : List Spot) → All (λ (s : Spot). is_glyph s ≡ true → 1 ≤ glyph_width s) line → All (λ (s : Spot). 1 ≤ glyph_width s) (segment just line)
wide_segment just [] all = All-nil (λ (s : Spot). 1 ≤ glyph_width s)
wide_segment just (s ∷ line) all =
    grind (arith, All-head, wide_segment just line (All-tail (λ (s : Spot). is_glyph s ≡ true → 1 ≤ glyph_width s) s line all))

module _ (sign : SignData) (sound : IsSound sign) (items : List Meaning) (fits : LinesFit (standing sign items).rectangle.width (present_area sign items))
    (high : area_fits (standing sign items).rectangle.height (present_area sign items) ≡ true) (across : (standing sign items).rectangle.width ≤ sign.width) (down : (standing sign items).rectangle.height ≤ sign.height) where
  -- the present line of each group is narrow
  narrow : (just : ℕ) → IsNarrow (after_last is_break (in_group just (present_area sign items)))
  narrow just =
      let line = after_last is_break (in_group just (present_area sign items)) in
      let P = λ (s : Spot). is_glyph s ≡ true → 1 ≤ glyph_width s in
      let wide : All P line = All-drop P _ (in_group just (present_area sign items)) (All-filter (λ t. page_number t.at.page_just == just) P (present_area sign items) (area_wide sign sound sound.font items)) in
      let fits' = fits just in
      record {
        width = (λ j low top. grind (arith, nat_tests, fits', across, sound.width.1));
        characters = grind (arith, nat_tests, sum_least glyph_width (segment 5 line) (wide_segment 5 line wide), fits', across, sound.width.1);
      }

  -- and no group is higher than a sign
  height : (just : ℕ) → 2 ≤ just → just ≤ 4 → height_of (lines_of (in_group just (present_area sign items))) ≤ 1024
  height just low top = grind (arith, fit_each)

  pub narrow_of : IsNarrowArea (present_area sign items)
  narrow_of = λ just low top. (narrow just, height just low top)

-- and so is that after the items of an accepted string
pub narrow_area : (sign : SignData) → IsSound sign → (items : List Meaning) → IsFine sign items → IsNarrowArea (present_area sign items)
narrow_area sign sound items none = search (rules, narrow_of, lines_fit_always, area_fits_always, rectangle_width_within, rectangle_within)

-- and the front of a narrow line
pub narrow_front : (line behind : List Spot) → IsNarrow (line ++ behind) → IsNarrow line
narrow_front line behind whole = grind (arith, segment_front, filter-append, length-append)
