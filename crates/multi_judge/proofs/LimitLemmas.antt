-- What fits after one more character, where what was before it fits: only the present segment and the present group can be too much.
use Rattle.multi_judge.proofs.Common.{◌==◌, ◌≡◌, ℕ, ◌≤◌, Bool, true, List, [], ◌∷◌, ◌++◌, refl, ap, arith, rules, inl, inr, false, cond, not, Option, Some, None, sym, subst, ◌∙◌, nat_le, if◌then◌else◌, All, AllPass, list_any, and_from, and_parts, cases_eq, eq-eqb, ne_eqb, false≢true, le-leb, nat_tests, All-head, All-push, line_number, page_number, le_test, nothing_fits, Off, SignData, cell_in, Spot, in_group, spots, standing, Standing, area_of, is_glyph, line_before, area_fits, fit, line_fits, Meaning, Does, Shows, offence, clashes, conflicts, IsPlacing, present_area, some_after, largest, smaller_fits, each_just, area_placing, in_group_other, area_fits_always, too_big, largest_most, largest_push, line_number_known, page_number_known, SizedCell, NewLine, Area, Line, group_room, AreaFits, IsLimited, IsMost, IsStateOf, segment_room, FitsBefore, kept_height, lengthened_line, IsBehindCharacter, is_within, kept_fits, area_sum, line_sum, ◌^◌, ◌<◌, IsSmall, Group, State, Attributes, AddsCharacter, character_of, FitsWithout, room_for, room_end, room_middle, room_start, lines_fit_always, AddsBreak}
use Rattle.multi_judge.proofs.Sums.{group_known, kept_width_is, present_known, segment_other, in_order, no_character, fits_break, fits_character, group_of_own, no_clash, present_line, cell_found, state-limits}
use Rattle.multi_meaning.specs.declared.attributes.Rectangle.{Rectangle}
use Rattle.multi_judge.proofs.RunLemmas.{kept_group_height, kept_group_height_is, kept_area_fits, kept_fits_is}
use Rattle.multi_judge.proofs.PlacingLemmas.{IsFound, Placed, break-grown, character-grown, line_end, item_of, line_here, page_here, placed_order, placed_size, shown, spot_of, state-placed}

-- ---- the line of a character

module _ (width : ℕ) (line : List Spot) (s : Spot) (l : Line) (e : l ≡ line_sum (line ++ s ∷ [])) (own : l.present ≡ line_number s.at.line_just) (fits : line_fits width line ≡ true) where
  pub segments_fit_before : FitsBefore width l
  segments_fit_before = search (rules, and_from, and_parts, cases_eq, eq-eqb, fits, kept_width_is, le_test, ne_eqb, segment_other, smaller_fits, width)

-- ---- the area of a character, whose group alone grows by it

-- the height of the group with a page justification, if it is before the present one, by what is kept of the area
abbrev pub kept_before : ℕ → Area → ℕ
kept_before just area = if just == area.present then 0 else (if just == 2 then area.top else (if just == 3 then area.middle else 0))

-- by what is kept of an area, its groups before the present one fit a height
abbrev pub GroupsFitBefore : ℕ → Area → Type 0
GroupsFitBefore height area = fit (kept_before 2 area) (kept_before 3 area) (kept_before 4 area) height ≡ true

module _ (height : ℕ) (area more : List Spot) (page : ℕ) (others : (just : ℕ) → (just ≡ page → ⊥) → in_group just more ≡ in_group just area) (a : Area) (e : a ≡ area_sum more) (placing : All IsPlacing more)
    (own : a.present ≡ page) (fits : area_fits height area ≡ true) where
  pub groups_fit_before : GroupsFitBefore height a
  groups_fit_before = search (rules, cases_eq, eq-eqb, kept_group_height_is, ne_eqb, smaller_fits)

-- the groups of an area stand apart within a height, by what is kept of the area
abbrev pub kept_fits_height : ℕ → Area → Bool
kept_fits_height height area = fit (kept_group_height 2 area) (kept_group_height 3 area) (kept_group_height 4 area) height

-- its present group by the numbers alone
told_of : (n top middle height present just : ℕ) → present ≡ just → 2 ≤ just → just ≤ 5 → just ≤ 4 → (present ≡ 2 → middle ≡ 0) →
    let other = λ (m j : ℕ). if j == present then m else (if j == 2 then top else (if j == 3 then middle else 0)) in
    fit (other 0 2) (other 0 3) (other 0 4) height ≡ true → nat_le n (room_for just top middle height) ≡ fit (other n 2) (other n 3) (other n 4) height
told_of n top middle height present just is' low' high' = search (rules, each_just, room_end, room_middle, room_start)

-- what its present group may have
module _ (area : List Spot) (a : Area) (e : a ≡ area_sum area) (height : ℕ) where
  middle_none : a.present ≡ 2 → a.middle ≡ 0
  middle_none is = grind (arith, nat_tests, is, ap (λ (a : Area). a.middle) e, ap (λ (a : Area). a.present) e)

  pub group_room_fits : 2 ≤ a.present → a.present ≤ 4 → GroupsFitBefore height a → nat_le (kept_height a.group) (group_room a height) ≡ kept_fits_height height a
  group_room_fits low high = told_of (kept_height a.group) a.top a.middle height a.present a.present refl low (omega (arith, high)) high middle_none

-- ---- after items of which none offends

module _ (sign : SignData) (items : List Meaning) (none : some_after (offence Off sign) items ≡ []) where
  -- what an item here joins fits without it
  pub fits_without : (s : Spot) → s.at ≡ standing sign items → FitsWithout (spots sign items) s
  fits_without s at = search (rules, area_fits_always, lines_fit_always)

-- ---- what fits them

-- a line into which its segments before the present one fit
module _ (line : List Spot) (l : Line) (e : l ≡ line_sum line) (width pixels count : ℕ) where
  full : nat_le 0 width ≡ true
  full = le-leb 0 width (omega arith)

  segment_by : (just : ℕ) → l.present ≡ just → 2 ≤ just → just ≤ 5 → FitsBefore width l → kept_fits width (lengthened_line pixels count l) ≡ nat_le pixels (room_for just l.left l.centre width)
  segment_by just is' low' high' = search (rules, and_parts, each_just, full, room_end, room_middle, room_start)

-- it is told by its limit
line_told : (line : List Spot) (l : Line) (width most : ℕ) → width < 2 ^ 16 → l ≡ line_sum line → 2 ≤ l.present → FitsBefore width l → most ≡ segment_room l width → nat_le l.part.width most ≡ line_fits width line
line_told line l width most small e low before is = ap (nat_le l.part.width) is ∙ sym (segment_by line l e width l.part.width l.part.count l.present refl low (present_known line l e) before) ∙ kept_fits_is line l width e small

-- an area into which its groups before the present one fit is told by its limit
pub area_told : (area : List Spot) (a : Area) (height most : ℕ) → height < 2 ^ 16 → a ≡ area_sum area → All IsPlacing area → 2 ≤ a.present → GroupsFitBefore height a → most ≡ group_room a height
    → nat_le (kept_height a.group) most ≡ area_fits height area
area_told area a height most small e placing low before is = ap (nat_le (kept_height a.group)) is ∙ group_room_fits area a e height low (group_known area a e) before ∙ kept_area_fits area a height placing e small

-- a line with a character has a known justification
some_present : (line : List Spot) → list_any is_glyph line ≡ true → 2 ≤ largest (λ (t : Spot). line_number t.at.line_just) line
some_present [] any = absurd (false≢true any)
some_present (s ∷ line) any =
    let f : Spot → ℕ = λ t. line_number t.at.line_just in
    omega (arith, All-head (λ t. f t ≤ largest f (s ∷ line)) s line (largest_most f (s ∷ line)), (line_number_known s.at.line_just).0)

-- the present line is told by its limit, whether it has a character or not
pub open_told : (line : List Spot) (l : Line) (width most : ℕ) → width < 2 ^ 16 → AllPass is_glyph line → l ≡ line_sum line → FitsBefore width l → IsMost width l most → nat_le l.part.width most ≡ line_fits width line
open_told line l width most small glyphs e before is = by_any l.any refl
  where
    by_any : (b : Bool) → l.any ≡ b → nat_le l.part.width most ≡ line_fits width line
    by_any true some =
        let low : 2 ≤ l.present = omega (arith, ap (λ (l : Line). l.present) e, some_present line (sym (ap (λ (l : Line). l.any) e) ∙ some)) in
        line_told line l width most small e low before (is some)
    by_any false none =
        let empty = no_character line l glyphs e none in
        let narrow : l.part.width ≡ 0 = ap (λ (l : Line). l.part.width) (e ∙ ap line_sum empty) in
        ap (λ n. nat_le n most) narrow ∙ le-leb 0 most (omega arith) ∙ sym (ap (line_fits width) empty ∙ nothing_fits width)

-- the segments of no character fit
pub none_before : (width : ℕ) (l : Line) → l ≡ line_sum [] → FitsBefore width l
none_before width l e = subst (FitsBefore width) (sym e) (nothing_fits width)

-- a line that fitted, with one more character that clashes with none of it
module _ (width : ℕ) (line : List Spot) (s : Spot) (l : Line) (e : l ≡ line_sum (line ++ s ∷ [])) (apart : list_any (clashes s) line ≡ false) (fits : line_fits width line ≡ true) where
  present : l.present ≡ line_number s.at.line_just
  present = omega (arith, ap (λ (l : Line). l.present) e, largest_push (λ (t : Spot). line_number t.at.line_just) line s, in_order line s (line_sum line) refl apart)

  known : 2 ≤ l.present
  known = omega (arith, present, (line_number_known s.at.line_just).0)

  pub fits_behind : FitsBefore width l
  fits_behind = segments_fit_before width line s l e present fits

  pub told_behind : (most : ℕ) → width < 2 ^ 16 → most ≡ segment_room l width → nat_le l.part.width most ≡ line_fits width (line ++ s ∷ [])
  told_behind most small is = line_told (line ++ s ∷ []) l width most small e known fits_behind is

-- an area with one more item, which is in its present group, is told by its limit, where it fitted without the item
higher_told : (before : List Spot) (s : Spot) (a : Area) (most : ℕ) → s.at.rectangle.height < 2 ^ 16 → IsPlacing s → a ≡ area_sum (area_of s before ++ s ∷ []) → a.present ≡ page_number s.at.page_just
    → area_fits s.at.rectangle.height (area_of s before) ≡ true → most ≡ group_room a s.at.rectangle.height → nat_le (kept_height a.group) most ≡ area_fits s.at.rectangle.height (area_of s before ++ s ∷ [])
higher_told before s a most small is e present without room =
    let page = page_number_known s.at.page_just in
    let placing = All-push IsPlacing (area_of s before) s (area_placing before s) is in
    search (rules, area_told, groups_fit_before, in_group_other, most, present, small)

-- what stands after one more character
pub behind_added : (state new : State) (cell_width : ℕ) → AddsCharacter state cell_width new → IsBehindCharacter new
behind_added state new cell_width added = subst IsBehindCharacter (sym added.same) (record { group = added.behind.0; line = added.behind.1 })

-- one more item with a place is put after items whose state this is, and doesn't conflict: whether it offends is told by the limits that
-- are kept then
module _ (sign : SignData) (items : List Meaning) (state : State) (st : IsStateOf sign items state) (new : State) (same : new ≡ record state { area = new.area; limits = new.limits }) where
  abbrev at : Standing
  at = standing sign items

  -- what may stand there, in the rectangle in force
  rectangle : new.attributes.rectangle ≡ at.rectangle
  rectangle = ap (λ (t : State). t.attributes.rectangle) same ∙ ap (λ (a : Attributes). a.rectangle) st.attributes

  small : IsSmall at.rectangle
  small = subst IsSmall (ap (λ (a : Attributes). a.rectangle) st.attributes) st.small

  height_room : IsLimited new → 2 ≤ new.area.present → new.limits.height ≡ group_room new.area at.rectangle.height
  height_room now low = now.height low ∙ ap (λ (r : Rectangle). group_room new.area r.height) rectangle

  -- the state then, and whether the item offends
  placed_judged : (p : Placed) → IsFound sign items p → conflicts (spots sign items) (spot_of sign items p) ≡ false → new.area ≡ area_sum (present_area sign items ++ spot_of sign items p ∷ [])
      → (fits : Bool) → fits ≡ not (too_big Off (spots sign items) (spot_of sign items p)) → (offence Off sign items (item_of p) ≡ cond fits None (Some 5)) × IsStateOf sign (items ++ item_of p ∷ []) new
  placed_judged p found apart grown fits is = search (rules, placed_size, state-limits, state-placed)

  pub character_judged : some_after (offence Off sign) items ≡ [] → IsLimited state → (number : ℕ) (c : SizedCell) → cell_in sign state.attributes.font.number number ≡ Some c → (width : ℕ) → width ≡ c.width → AddsCharacter state width new
      → (r : Bool) → ((before : List Spot) (s : Spot) → state.area ≡ area_sum (area_of s before) → is_glyph s ≡ true → s.at.page_just ≡ state.attributes.page_just → s.at.line_just ≡ state.attributes.line_just → r ≡ conflicts before s)
      → r ≡ false → (offence Off sign items (Shows number) ≡ cond (is_within new) None (Some 5)) × IsStateOf sign (items ++ Shows number ∷ []) new
  character_judged none limited number c some width wide added r answer free =
      let (cell, found, cell_width) = cell_found sign items state st number c some in
      let p = shown number cell in
      let s = spot_of sign items p in
      let before = spots sign items in
      let apart = sym (answer before s st.area refl (page_here sign items state st) (line_here sign items state st)) ∙ free in
      let grown = character-grown sign items state st number c cell cell_width apart (character_of state.attributes width) refl refl wide refl new.area added.sum in
      let page = page_number s.at.page_just in
      let present : new.area.present ≡ page = added.behind.0 ∙ ap page_number (sym (page_here sign items state st)) in
      let without = fits_without sign items none s refl in
      let now = added.limited limited in
      let width_room = now.width added.behind.1.any ∙ ap (λ (r : Rectangle). segment_room new.area.group.line r.width) rectangle in
      let own = present_line before s page refl refl in
      let line : new.area.group.line ≡ line_sum (line_before before s ++ s ∷ []) =
      ap (λ (g : Group). g.line) (group_of_own (area_of s before ++ s ∷ []) new.area grown page (sym present)) ∙ ap line_sum own in
      placed_judged p found apart grown (is_within new)
      (fits_character before s page s.at.rectangle.width s.at.rectangle.height (nat_le new.area.group.line.part.width new.limits.width) (nat_le (kept_height new.area.group) new.limits.height) refl refl refl refl
      (told_behind s.at.rectangle.width (line_before before s) s new.area.group.line line (no_clash before s page refl refl apart) without.0 new.limits.width small.0 width_room ∙ ap (line_fits s.at.rectangle.width) (sym own))
      (higher_told before s new.area new.limits.height small.1 (inl refl) grown present without.1 (height_room now (omega (arith, present, (page_number_known s.at.page_just).0)))))

  pub break_judged : AreaFits sign items → IsLimited state → (gap : Option ℕ) → AddsBreak state gap new
      → (r : Bool) → ((before : List Spot) (s : Spot) → state.area ≡ area_sum (area_of s before) → is_glyph s ≡ false → s.at.page_just ≡ state.attributes.page_just → r ≡ conflicts before s)
      → r ≡ false → (offence Off sign items (Does (NewLine gap)) ≡ cond (nat_le new.area.group.closed new.limits.height) None (Some 5)) × IsStateOf sign (items ++ Does (NewLine gap) ∷ []) new
  break_judged fits limited gap added r answer free =
      let p = line_end gap in
      let s = spot_of sign items p in
      let before = spots sign items in
      let apart = sym (answer before s st.area refl (page_here sign items state st)) ∙ free in
      let grown = break-grown sign items state st gap apart new.area added.sum in
      let present : new.area.present ≡ page_number s.at.page_just = added.present (placed_order sign items state st p apart) ∙ ap page_number (sym (page_here sign items state st)) in
      let closed : kept_height new.area.group ≡ new.area.group.closed = rw added.none refl in
      placed_judged p tt apart grown (nat_le new.area.group.closed new.limits.height)
      (fits_break before s s.at.rectangle.height (nat_le new.area.group.closed new.limits.height) refl refl
      (ap (λ n. nat_le n new.limits.height) (sym closed)
      ∙ higher_told before s new.area new.limits.height small.1 (inr refl) grown present fits (height_room (added.limited limited) (omega (arith, present, (page_number_known s.at.page_just).0)))))

-- an area of no item has no limits yet
pub limited_none : (state : State) → state.area ≡ area_sum [] → IsLimited state
limited_none state none = search (rules, false≢true, present)
