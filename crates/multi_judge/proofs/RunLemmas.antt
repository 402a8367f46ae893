-- One list of lines, split into those of the top, the middle and the bottom group.
use Rattle.multi_judge.proofs.Common.{◌≡◌, ℕ, ◌+◌, ◌-◌, ◌≤◌, length, take, drop, List, [], ◌∷◌, ◌++◌, sym, ap, ◌∙◌, arith, true, false, cond, ◌<◌, ◌==◌, inl, inr, Some, None, refl, rules, slice_range, nat_lt, if◌then◌else◌, cases_eq, eq-eqb, le-ltb, ne_eqb, length-drop, All, AllPass, after_last, list_any, option_map_or, unwrap_or, line_number, page_number, SizedCell, SignData, cell_in, Spot, in_group, is_break, is_glyph, lines_of, spots, area_fits, fit, line_fits, average, height_of, Meaning, Shows, clashes, unsized_offence, IsPlacing, largest, placing_group, CountedLine, TableLines, split_lines, Area, Group, Character, Line, Segment, State, character_of, IsBehindCharacter, IsRun, kept_fits, kept_height, lengthened, lengthened_area, lengthened_by, lengthened_line, line_in_force, counted, held, ◌^◌, cases_lt, lt-leb, IsStateOf, IsCharacter, area_sum, area_sum_in, group_sum, line_sum, segment_sum, drop-append-le, length-take, length_push, take-append-le, take_all, IsOrdered, height_before, common_steps}
use Rattle.multi_judge.proofs.Sums.{area_with, group_of_own, none_of_later_group, own_line, height_ended, height_present, group_character, present_glyphs, kept_width_is, line_with, segment_own, whole_before, group_known}
use Rattle.multi_judge.proofs.AreaSumLemmas.{area_stays}
use Rattle.multi_judge.proofs.PlacingLemmas.{character-accepted}

-- what holds of the page justifications top, middle and bottom
pub each_group : (P : ℕ → Type 0) → P 2 → P 3 → P 4 → (just : ℕ) → 2 ≤ just → just ≤ 4 → P just
each_group P top middle bottom just least most = search (rules, cases_eq)

-- where a part begins at its end
range_none : {X : Type 0} (xs : List X) (i : ℕ) → slice_range xs i i ≡ []
range_none xs i = ap (λ n. take n (drop i xs)) (let none : i - i ≡ 0 = omega arith in none)

-- one more line
module _ (xs : List CountedLine) (middle bottom : ℕ) (ordered : IsOrdered xs middle bottom) (line : CountedLine) (ys : List CountedLine) (more : ys ≡ xs ++ line ∷ []) (middle' bottom' : ℕ) where
  abbrev old : TableLines
  old = split_lines xs middle bottom

  abbrev new : TableLines
  new = split_lines ys middle' bottom'

  long : length ys ≡ length xs + 1
  long = ap length more ∙ length_push xs line

  most : middle ≤ length xs
  most = omega (arith, ordered.0, ordered.1)

  -- it is put into the top group, where the others have none
  pub pushed_top : middle' ≡ length ys → bottom' ≡ length ys → old.middle ≡ [] → old.bottom ≡ [] → (new.top ≡ old.top ++ line ∷ []) × (new.middle ≡ old.middle) × (new.bottom ≡ old.bottom)
  pushed_top from_middle from_bottom none3 none4 = grind (arith, common_steps, length-take, long, drop-append-le, take_all, length-drop, length_push, range_none)

  -- into the middle one, where the bottom one has none
  pub pushed_middle : middle' ≡ middle → bottom' ≡ length ys → old.bottom ≡ [] → (new.top ≡ old.top) × (new.middle ≡ old.middle ++ line ∷ []) × (new.bottom ≡ old.bottom)
  pushed_middle from_middle from_bottom none4 = search (rules, drop-append-le, length-drop, length-take, length_push, range_none, take-append-le, take_all)

-- ---- what is kept of a line and of a group

all_fit : (a b c length : ℕ) → length < 2 ^ 16 → fit (held a) (held b) (held c) length ≡ fit a b c length
all_fit a b c length small = elim (cases_lt length (a + b + c)) [
  | inl more ↦ rw (lt-leb (a + b + c) length more, lt-leb (held a + held b + held c) length (omega (arith, more))) refl
  | inr fits ↦
      let x : held a ≡ a = omega arith in
      let y : held b ≡ b = omega arith in
      let z : held c ≡ c = omega arith in
      rw (x, y, z) refl
]

pub kept_fits_is : (spots : List Spot) (line : Line) (width : ℕ) → line ≡ line_sum spots → width < 2 ^ 16 → kept_fits width line ≡ line_fits width spots
kept_fits_is spots line width e small =
    let is = λ (just : ℕ) (low : 2 ≤ just) (high : just ≤ 5). kept_width_is spots line e just low high in
    search (rules, all_fit, small, width)

pub kept_height_is : (spots : List Spot) (group : Group) → All IsPlacing spots → group ≡ group_sum spots → kept_height group ≡ held (height_of (lines_of spots))
kept_height_is spots group placing e = search (rules, height_ended, height_present)

-- the height of the group with a page justification, by what is kept of the area: top 2, middle 3, bottom 4
abbrev pub kept_group_height : ℕ → Area → ℕ
kept_group_height just area =
    if just == area.present then kept_height area.group else (if just == 2 then area.top else (if just == 3 then area.middle else 0))

module _ (spots : List Spot) (area : Area) (e : area ≡ area_sum spots) (placing : All IsPlacing spots) where
  -- of the present group, or else of one that is kept
  group_kept : (just h : ℕ) → h ≡ height_before (largest (λ (t : Spot). page_number t.at.page_just) spots) just spots
      → cond (just == area.present) (kept_height area.group) h ≡ held (height_of (lines_of (in_group just spots)))
  group_kept just h is = elim (cases_eq just area.present) [
    | inl own ↦ rw (eq-eqb just area.present own) (kept_height_is (in_group just spots) area.group (placing_group just spots placing) (group_of_own spots area e just own))
    | inr other ↦ rw (ne_eqb just area.present other) (is ∙ whole_before (λ j. held (height_of (lines_of (in_group j spots)))) (largest (λ (t : Spot). page_number t.at.page_just) spots) just
        (λ behind. ap (λ l. held (height_of (lines_of l))) (none_of_later_group spots area e just (omega (arith, behind, other, ap (λ (a : Area). a.present) e)))))
  ]

  pub kept_group_height_is : (just : ℕ) → 2 ≤ just → just ≤ 4 → kept_group_height just area ≡ held (height_of (lines_of (in_group just spots)))
  kept_group_height_is =
      each_group (λ just. kept_group_height just area ≡ held (height_of (lines_of (in_group just spots)))) (group_kept 2 area.top (ap (λ (a : Area). a.top) e)) (group_kept 3 area.middle (ap (λ (a : Area). a.middle) e))
      (group_kept 4 0 (sym (ap (λ b. cond b (held (height_of (lines_of (in_group 4 spots)))) 0) (le-ltb 4 (largest (λ (t : Spot). page_number t.at.page_just) spots) (omega (arith, group_known spots area e, ap (λ (a : Area). a.present) e))))))

  -- the area goes on to a later group, which has no item yet
  pub area_turned : (just : ℕ) → area.present < just → (new : Area) → new.present ≡ just → new.top ≡ kept_group_height 2 area → new.middle ≡ kept_group_height 3 area → new.group ≡ group_sum []
      → new ≡ area_sum_in just spots
  area_turned just later new present top middle group = search (rules, each_group, group_kept, group_known, le-ltb, none_of_later_group, whole_before)

pub kept_area_fits : (spots : List Spot) (area : Area) (height : ℕ) → All IsPlacing spots → area ≡ area_sum spots → height < 2 ^ 16
    → fit (kept_group_height 2 area) (kept_group_height 3 area) (kept_group_height 4 area) height ≡ area_fits height spots
kept_area_fits spots area height placing e small =
    let is = λ (just : ℕ) (low : 2 ≤ just) (high : just ≤ 4). kept_group_height_is spots area e placing just low high in
    search (rules, all_fit, small)

-- ---- one more character of the segment

-- the average of a number with itself
pub average_same : (n : ℕ) → average n n ≡ n
average_same n = omega arith

module _ (line : List Spot) (s : Spot) (c : Character) (glyphs : AllPass is_glyph line) (is : IsCharacter s c) (l : Line) (e : l ≡ line_sum line)
    (segment_is : l.present ≡ line_number c.just) (parts : l.has_parts ≡ nat_lt (line_number c.just) 5) (any : l.any ≡ true) (height : c.font.height ≤ l.height) (spacing : c.font.line_spacing ≤ l.spacing)
    (last : l.part.last ≡ Some c.font.char_spacing) (gap : ℕ) (gap_is : gap ≡ unwrap_or c.spacing c.font.char_spacing) where
  -- the line is lengthened by the gap and the character's width
  pub line_lengthened : lengthened_line (held (l.part.width + (gap + c.width))) (counted (l.part.count + 1)) l ≡ line_sum (line ++ s ∷ [])
  line_lengthened =
      let most : l.present ≡ largest (λ (t : Spot). line_number t.at.line_just) line = ap (λ (l : Line). l.present) e in
      let present : largest (λ (t : Spot). line_number t.at.line_just) line ≡ line_number c.just = sym most ∙ segment_is in
      let between : gap ≡ option_map_or (λ earlier. unwrap_or c.spacing (average earlier c.font.char_spacing)) l.part.last 0 =
      gap_is ∙ ap (unwrap_or c.spacing) (sym (average_same c.font.char_spacing))
      ∙ ap (λ o. option_map_or (λ earlier. unwrap_or c.spacing (average earlier c.font.char_spacing)) o 0) (sym last) in
      let part : l.part ≡ segment_sum (line_number c.just) line = ap (λ (l : Line). l.part) e ∙ ap (λ n. segment_sum n line) present in
      let own : ◌≡◌ {A = Segment} (record { width = held (l.part.width + (gap + c.width)); count = counted (l.part.count + 1); last = Some c.font.char_spacing }) (segment_sum (line_number c.just) (line ++ s ∷ [])) =
      segment_own (line_number c.just) line s c is refl l.part gap c.width part between refl in
      grind (arith, common_steps, line_with)

-- ---- a character beside one with the same attributes

-- the area with it
abbrev pub longer_by : State → ℕ → SizedCell → Area
longer_by state gap cell = lengthened_area (held ((line_in_force state).part.width + (gap + cell.width))) (counted ((line_in_force state).part.count + 1)) state.area

-- what stands after a character still does when its segment is lengthened
pub behind_stays : (state : State) (width count : ℕ) → IsBehindCharacter state → IsBehindCharacter (lengthened width count state)
behind_stays state width count b = search (rules)

-- and the run goes on
pub run_stays : (state : State) (gap width count : ℕ) → IsRun state gap → IsRun (lengthened width count state) gap
run_stays state gap width count run = search (rules, behind_stays)

module _ (state : State) (behind : IsBehindCharacter state) (gap : ℕ) (gap_is : gap ≡ unwrap_or state.attributes.spacing state.attributes.font.char_spacing) (cell : SizedCell) where
  pub area_beside : (xs : List Spot) (s : Spot) → All IsPlacing xs → state.area ≡ area_sum xs → IsCharacter s (character_of state.attributes cell.width) → s.at.page_just ≡ state.attributes.page_just → state.area.present ≤ page_number state.attributes.page_just
      → list_any (clashes s) (after_last is_break (in_group (page_number state.attributes.page_just) xs)) ≡ false → longer_by state gap cell ≡ area_sum (xs ++ s ∷ [])
  area_beside xs s placing e is page order apart =
      let spots = after_last is_break (in_group (page_number state.attributes.page_just) xs) in
      let line : line_in_force state ≡ line_sum spots = own_line xs state.area e ∙ ap (λ n. line_sum (after_last is_break (in_group n xs))) behind.group in
      let grown = line_lengthened spots s (character_of state.attributes cell.width) (present_glyphs (page_number state.attributes.page_just) xs placing) is (line_in_force state) line
      behind.line.segment behind.line.parts behind.line.any behind.line.height behind.line.spacing behind.line.last gap gap_is in
      let here = page_number state.attributes.page_just in
      let present = behind.group in
      area_with xs s here (ap page_number page) state.area e order state.area _ (area_stays xs here state.area e (omega (arith, present)) order) refl refl refl
      (group_character here xs s (ap page_number page) is.glyph state.area.group _ (group_of_own xs state.area e here (sym present)) grown)

  -- a character that doesn't offend lengthens the state
  pub state_beside : (sign : SignData) (items : List Meaning) → IsStateOf sign items state → (number : ℕ) → cell_in sign state.attributes.font.number number ≡ Some cell
      → unsized_offence sign items (Shows number) ≡ None
      → IsStateOf sign (items ++ Shows number ∷ []) (lengthened_by (gap + cell.width) 1 state)
  state_beside sign items st number found fine =
      character-accepted sign items state st number cell found (character_of state.attributes cell.width) refl refl refl refl (longer_by state gap cell) area_beside fine
