-- What is kept after one more character, where lines are filled.
use Rattle.multi_judge.proofs.Common.{offence-undefined, order_of, ◌≡◌, ℕ, ◌+◌, ◌-◌, ◌≤◌, Bool, true, false, ◌==◌, inl, inr, List, [], ◌∷◌, ◌++◌, length, Option, Some, None, refl, sym, ap, subst, ◌∙◌, arith, append-nil, rules, ◌<◌, drop, map, slice_get, append_assoc, Result, Ok, not, after_last, list_any, All, and_parts, cases_eq, eq-eqb, eqb-true, false≢true, cases_lt, ne_eqb, length-append, length-drop, All-push, All-nil, sum_by-append, page_number, LineFill, Words, Off, SizedCell, SignData, CellData, cell_in, cell_numbered, Spot, Standing, group_of, in_group, is_break, spots, standing, filled, area_fits, line_fits, laid_items, Meaning, Shows, meaning, clashes, conflicts, first_code, offence, unsized_offence, present_area, in_group_other, own_group, are_laid, standing_push, present_area-placing, none_more, Token, IsTokenOf, cycle, ended_times, pages_of, SyntaxError, some_after, Area, Attributes, Split, Pass, Character, Limits, Line, IsFilledFor, IsFilledOf, IsFilledReady, EndsLine, order_sum, split_sum, IsLimited, IsStateOf, attributes_of, IsJudged, IsCharacter, area_sum, State, ReadSoFar, IsCellPut, IsPassOf, drop_all, map-append, slice_get-get_or, spaces_is, Item, IsItem, spelling, spell, HasNoItem, IsReading, item_of, Accepted, IsCycle, IsVerdict, Refused, item_refused, offences_push, one_verdict, IsPassReady, fill_of, line_in_force, placing_group, line_sum, in_area_placing, item_steps, items_steps, judging_steps, rest_steps, items_steps_push, steps_ended, steps_offending}
use Rattle.multi_judge.proofs.Sums.{both_fit, group_behind, no_back, no_clash, present_push, shown_free, ready, cell_missing}
use Rattle.std.proofs.lemmas.List.Concat.{flat_map-append}
use Rattle.multi_token.proofs.ReadingLemmas.{none_found, spelling_some}
use Rattle.multi_meaning.specs.Times.{page_times}
use Rattle.multi_meaning.specs.Verdict.{verdict_on}
use Rattle.multi_judge.proofs.FilledStateLemmas.{area_with, doesn't_fit, goes_behind, offends_by, offends_without, present_is, shown, filled_state, pages_at, same_times, open_ordered}
use Rattle.multi_judge.proofs.FilledJudgedLemmas.{Fills, IsTagJudged, attributes_here, filled_grown, filled_size, found_here, shown_character, filled_of, filled_undefined, group_laid}

module _ (sign : SignData) (items : List Meaning) (number : ℕ) (cell : CellData) (found : cell_numbered (standing sign items).font number ≡ Some cell) where
  abbrev s : Spot
  s = shown sign items number cell found

  abbrev more : List Meaning
  more = items ++ Shows number ∷ []

  -- the characters of its area with it
  present_more : present_area sign more ≡ present_area sign items ++ s ∷ []
  present_more = first_of (search (rules, present_area-placing), grind (arith, present_area-placing))

  -- its group grows by it, and the others stay
  own : in_group (page_number s.at.page_just) (present_area sign more) ≡ group_of s (spots sign items) ++ s ∷ []
  own = ap (in_group (page_number s.at.page_just)) present_more ∙ own_group (page_number s.at.page_just) (present_area sign items) s refl

  other : (j : ℕ) → (page_number s.at.page_just ≡ j → ⊥) → in_group j (present_area sign more) ≡ in_group j (present_area sign items)
  other j apart = ap (in_group j) present_more ∙ in_group_other j (present_area sign items) s apart

  module _ (kept : Pass) (of : IsFilledOf sign items kept) (apart : conflicts (spots sign items) (shown sign items number cell found) ≡ false) where
    back : kept.state.area.present ≤ page_number s.at.page_just
    back = no_back (spots sign items) s (page_number s.at.page_just) kept.state.area.present refl (present_is sign items number cell found kept.state of.state_is) apart

    -- the order of the characters since the hard break
    pub order_with : (goes_on : Bool) → goes_on ≡ (page_number kept.state.attributes.page_just == kept.state.area.present) → kept.state.attributes.page_just ≡ s.at.page_just
        → (character : Character) → IsCharacter s character → (order' : ℕ)
        → ((line : List Spot) (s : Spot) → s.at.line_just ≡ character.just → list_any (clashes s) line ≡ false
        → (goes_on ≡ true → order_of kept.order ≡ order_sum line) → (goes_on ≡ false → line ≡ []) → order_of order' ≡ order_sum (line ++ s ∷ []))
        → order_of order' ≡ order_sum (after_last is_break (in_group (page_number s.at.page_just) (present_area sign more)))
    order_with goes_on goes at character is order' sum =
        let all = spots sign items in
        let just = page_number s.at.page_just in
        let line = after_last is_break (group_of s all) in
        sum line s (sym is.just) (no_clash all s just refl refl apart)
        (λ e. of.order_is ∙ ap (λ j. order_sum (after_last is_break (in_group j (present_area sign items)))) (sym (eqb-true (page_number kept.state.attributes.page_just) kept.state.area.present (sym goes ∙ e)) ∙ ap page_number at))
        (λ e. ap (after_last is_break) (group_behind just (present_area sign items) (elim (cases_eq (page_number kept.state.attributes.page_just) kept.state.area.present) [
          | inl same ↦ absurd (false≢true (sym e ∙ goes ∙ eq-eqb (page_number kept.state.attributes.page_just) kept.state.area.present same))
          | inr differ ↦ omega (arith, back, ap page_number at, differ, present_is sign items number cell found kept.state of.state_is)
        ])))
        ∙ ap order_sum (sym (present_push (group_of s all) s refl) ∙ ap (after_last is_break) (sym own))

    -- what is kept is that of the items with it
    pub kept_with : (area' : Area) (limits' : Limits) (split' : Option Split) (order' : ℕ) → area' ≡ area_sum (area_with sign items number cell found)
        → split' ≡ split_sum (after_last is_break (filled (Some s.at.rectangle.width) (group_of s (spots sign items) ++ s ∷ [])))
        → order_of order' ≡ order_sum (after_last is_break (in_group (page_number s.at.page_just) (present_area sign more)))
        → line_fits s.at.rectangle.width (after_last is_break (filled (Some s.at.rectangle.width) (group_of s (spots sign items) ++ s ∷ []))) ≡ true
        → area_fits s.at.rectangle.height (area_with sign items number cell found) ≡ true → IsLimited (record kept.state { area = area'; limits = limits' })
        → IsFilledOf sign more (record { state = record kept.state { area = area'; limits = limits' }; split = split'; order = order' })
    kept_with area' limits' split' order' area split order fits high limited =
        let present : area'.present ≡ page_number s.at.page_just = ap (λ (a : Area). a.present) area ∙ (goes_behind sign items number cell found apart).last in
        filled_of sign items more kept (record { state = record kept.state { area = area'; limits = limits' }; split = split'; order = order' }) of
        (filled_state Words sign items number cell found kept.state area' limits' of.state_is area) limited
        (ap (λ (t : Standing). area_fits t.rectangle.height (area_with sign items number cell found)) ((are_laid Words sign more more [] (sym (append-nil more))).0 ∙ standing_push sign items (Shows number)) ∙ high)
        (ap (λ (t : Standing). t.rectangle.width) (standing_push sign items (Shows number))) (page_number s.at.page_just) present other (group_of s (spots sign items) ++ s ∷ []) own split
        (order ∙ ap (λ l. order_sum (after_last is_break l)) own) fits

-- a character that doesn't offend isn't before the present group
module _ (sign : SignData) (items : List Meaning) (kept : Pass) (of : IsFilledOf sign items kept) (number : ℕ) (fine : offence Words sign items (Shows number) ≡ None) where
  on_by : (o : Option CellData) → cell_numbered (standing sign items).font number ≡ o → kept.state.area.present ≤ page_number kept.state.attributes.page_just
  on_by None found = let wrong : ◌≡◌ {A = Option ℕ} (Some 7) None = sym (offends_without sign items number found) ∙ fine in absurd cc
  on_by (Some cell) found =
      let at = ap (λ (a : Attributes). page_number a.page_just) (attributes_here sign items kept of) in
      let free : (a b : Bool) → first_code ((a, 11) ∷ (b, 5) ∷ []) ≡ None → a ≡ false = λ a b e. search rules in
      let apart = free (conflicts (spots sign items) (shown sign items number cell found)) (doesn't_fit sign items number cell found) (sym (offends_by sign items number cell found) ∙ fine) in
      omega (arith, at, back sign items number cell found kept of apart)

  pub goes_on : kept.state.area.present ≤ page_number kept.state.attributes.page_just
  goes_on = on_by (cell_numbered (standing sign items).font number) refl

-- a character is put whose cell was found and which doesn't offend by more than its size
module _ (sign : SignData) (items : List Meaning) (kept : Pass) (is : IsFilledFor sign kept items) (number : ℕ) (c : SizedCell) (some : cell_in sign kept.state.attributes.font.number number ≡ Some c)
    (fine : unsized_offence sign items (Shows number) ≡ None) (goes_on : Bool) (goes : goes_on ≡ (page_number kept.state.attributes.page_just == kept.state.area.present))
    (character : Character) (just : character.just ≡ kept.state.attributes.line_just) (spacing : character.spacing ≡ kept.state.attributes.spacing) (wide : character.width ≡ c.width)
    (font : character.font ≡ kept.state.attributes.font) (area' : Area) (split' : Option Split) (ended : Option Line)
    (fills : (cell : CellData) (found : cell_numbered (standing sign items).font number ≡ Some cell) → Fills sign items kept is.of number c some character (number == 32) area' split' ended (page_number kept.state.attributes.page_just) kept.state.attributes.rectangle.width)
    (limits' : Limits) (limited : IsLimited (record kept.state { area = area'; limits = limits' }))
    (order' : ℕ) (sum : (line : List Spot) (s : Spot) → s.at.line_just ≡ character.just → list_any (clashes s) line ≡ false
    → (goes_on ≡ true → order_of kept.order ≡ order_sum line) → (goes_on ≡ false → line ≡ []) → order_of order' ≡ order_sum (line ++ s ∷ [])) where
  pub filled_put : IsCellPut true sign items number kept (Ok ended) (record { state = record kept.state { area = area'; limits = limits' }; split = split'; order = order' })
  filled_put =
      let of = is.of in
      let (cell, found, width) = found_here sign items kept of number c some in
      let s : Spot = shown sign items number cell found in
      let w = s.at.rectangle.width in
      let group = group_of s (spots sign items) in
      let at = ap (λ (a : Attributes). a.page_just) (attributes_here sign items kept of) in
      let page = ap page_number at in
      let apart = shown_free sign items number cell found fine in
      let is' = shown_character sign items kept of number c some cell found width character just spacing wide font in
      let space = spaces_is sign items number cell found in
      let (area, split, line_ended, before) = filled_grown sign items kept of number c some cell found apart character is' (number == 32) space area' split' ended (fills cell found) in
      let on = goes_behind sign items number cell found apart in
      let new = area_with sign items number cell found in
      let (told, size) = filled_size sign items kept of number c some cell found apart character is' (number == 32) space area' split' ended (fills cell found) limits' limited in (
        ap (λ (setting : LineFill). offence setting sign items (Shows number)) is.words ∙ size,
        λ both.
            let (wide_fits, high_fits) = and_parts (line_fits w (after_last is_break (in_group (page_number s.at.page_just) new))) (area_fits s.at.rectangle.height new)
            (both_fit (line_fits w (after_last is_break (in_group (page_number s.at.page_just) new))) (area_fits s.at.rectangle.height new) ∙ sym told ∙ both) in
            let line_fits' = ap (λ l. line_fits w (after_last is_break l)) (sym on.after) ∙ wide_fits in
            let order = order_with sign items number cell found kept of apart goes_on goes at character is' order' sum in
            record {
              of = record { words = is.words; of = kept_with sign items number cell found kept of apart area' limits' split' order' area split order line_fits' high_fits limited };
              present = ap (λ (a : Area). a.present) area ∙ on.last ∙ sym page;
              order = omega (arith, page, back sign items number cell found kept of apart);
              others = λ j other. on.others j (λ e. other (e ∙ sym page));
              own = subst (λ j. EndsLine (in_group j (present_area sign (laid_items Words sign items items))) (in_group j new) ended) (sym page)
                  (subst (λ l. EndsLine l (in_group (page_number s.at.page_just) new) ended) (sym on.before) (subst (λ l. EndsLine (filled (Some w) group) l ended) (sym on.after) line_ended));
            },
      )

-- where no octet stands is the end
pub at_end : (octets : List ℕ) (at : ℕ) → at ≤ length octets → slice_get octets at ≡ None → length octets ≡ at
at_end octets at within none = elim (cases_lt at (length octets)) [
  | inl before ↦ absurd (let some = slice_get-get_or octets at 0 before in cc)
  | inr past ↦ omega arith
]

pub nothing_read : (sign : SignData) (octets : List ℕ) (IsKept : List Meaning → Type 0) → IsKept [] → ReadSoFar sign octets 0 0 IsKept
nothing_read sign octets IsKept is = record { items = []; each = All-nil IsItem; front = refl; place = refl; within = omega arith; none = refl; taken = refl; is = is }

spell_push : (items : List Item) (item : Item) → spell (items ++ item ∷ []) ≡ spell items ++ spelling item
spell_push items item = flat_map-append spelling items (item ∷ []) ∙ ap (λ l. spell items ++ l) (append-nil (spelling item))

module _ (sign : SignData) (octets : List ℕ) (at steps : ℕ) (IsKept : List Meaning → Type 0) (r : ReadSoFar sign octets at steps IsKept) where
  module _ (t : Token) (here : t.at ≡ at) (stands : IsTokenOf octets t) where
    -- the string is the items so far, this one, and what stands after it
    spelled : octets ≡ spell r.items ++ (spelling (item_of octets t) ++ drop (t.at + t.len) octets)
    spelled = r.front ∙ ap (λ l. spell r.items ++ l) (ap (λ n. drop n octets) (sym here) ∙ stands.begins.1)

    regrouped : spell (r.items ++ item_of octets t ∷ []) ++ drop (t.at + t.len) octets ≡ octets
    regrouped = ap (λ l. l ++ drop (t.at + t.len) octets) (spell_push r.items (item_of octets t)) ∙ append_assoc (spell r.items) (spelling (item_of octets t)) (drop (t.at + t.len) octets) ∙ sym spelled

    each_more : All IsItem (r.items ++ item_of octets t ∷ [])
    each_more = All-push IsItem r.items (item_of octets t) r.each stands.begins.0

    -- its steps more
    taken_more : steps + item_steps (length octets - at) (item_of octets t) ≡ items_steps (length octets) (r.items ++ item_of octets t ∷ [])
    taken_more = (λ i. r.taken i + item_steps (length octets - r.place i) (item_of octets t)) ∙ sym (items_steps_push (length octets) r.items (item_of octets t))

    pub read_more : (IsNow : List Meaning → Type 0) → offence sign.line_fill sign (map meaning r.items) (meaning (item_of octets t)) ≡ None → IsNow (map meaning r.items ++ meaning (item_of octets t) ∷ [])
        → ReadSoFar sign octets (at + t.len) (steps + item_steps (length octets - at) (item_of octets t)) IsNow
    read_more IsNow fine is = search (rules, each_more, length-append, map-append, offences_push, regrouped, spell_push, spelling_some, taken_more)

    -- the item offends, whatever stands after it
    pub refused_here : (code : ℕ) → offence sign.line_fill sign (map meaning r.items) (meaning (item_of octets t)) ≡ Some code → IsVerdict sign octets (Refused code at)
    refused_here code offends =
        grind (arith, item_refused sign r.items (item_of octets t) code (drop (t.at + t.len) octets) each_more r.none offends, regrouped, one_verdict sign octets (Refused code at))

    -- and these are the steps of judging
    pub steps_here : (code : ℕ) → offence sign.line_fill sign (map meaning r.items) (meaning (item_of octets t)) ≡ Some code → judging_steps sign octets ≡ steps + item_steps (length octets - at) (item_of octets t)
    steps_here code offends = search (rules, each_more, regrouped, steps_offending)

  -- the end, where all items are read
  all_read : length octets ≡ at → IsReading octets r.items []
  all_read end = first_of (search (rules, drop_all, none_found, spelled), grind (arith, drop_all, none_found, spelled))

  pub accepted_at_end : length octets ≡ at → (pages : ℕ) → pages ≡ pages_of (map meaning r.items) → IsVerdict sign octets (Accepted pages)
  unfolding verdict_on
  accepted_at_end end pages is = search (rules, all_read)

  pub cycle_at_end : length octets ≡ at → (state : State) → state.cycle ≡ cycle (ended_times sign (map meaning r.items)) → state.attributes ≡ attributes_of (standing sign (map meaning r.items))
      → IsCycle sign octets (state.cycle + state.attributes.on + state.attributes.off)
  unfolding page_times
  cycle_at_end end state times attributes = search (rules, all_read, sum_by-append)

  pub steps_at_end : length octets ≡ at → judging_steps sign octets ≡ steps + 1
  steps_at_end end = steps_ended sign octets r.items [] (all_read end) r.none ∙ ap (λ k. k + 1) (sym r.taken)

  -- a broken bracket
  pub refused_at_bracket : at < length octets → HasNoItem (drop at octets) → IsVerdict sign octets (Refused 3 at)
  unfolding verdict_on
  refused_at_bracket before none = search (rules, length-drop, spelled)

  pub steps_at_bracket : HasNoItem (drop at octets) → judging_steps sign octets ≡ steps + rest_steps (drop at octets)
  steps_at_bracket none = steps_ended sign octets r.items (drop at octets) (record { each = r.each; spelled = r.front; ends = none }) r.none ∙ ap (λ k. k + rest_steps (drop at octets)) (sym r.taken)

module _ (sign : SignData) (items : List Meaning) (kept : Pass) (of : IsFilledOf sign items kept) where
  -- what clashes with its lines clashes with its order
  pub filled_ready : IsFilledReady kept
  filled_ready =
      let present = kept.state.area.present in
      let line : line_in_force kept.state ≡ line_sum (after_last is_break (filled (Some (standing sign items).rectangle.width) (in_group present (present_area sign items)))) =
      ap (λ (a : Area). a.group.line) of.state_is.area ∙ ap (λ (a : Area). line_sum (after_last is_break (in_group a.present (present_area sign (laid_items Words sign items items))))) (sym of.state_is.area) ∙ ap (λ l. line_sum (after_last is_break l)) (group_laid sign items present) in
      let (own, behind) = open_ordered (standing sign items).rectangle.width (in_group present (present_area sign items)) (placing_group present (present_area sign items) (in_area_placing (standing sign items).area (spots sign items))) in
      search (rules, ready)

  -- it has their pages and times
  pub kept_pages : kept.state.pages ≡ pages_of items
  kept_pages = of.state_is.pages ∙ pages_at sign (laid_items Words sign items items) items (ap (λ (s : Standing). s.page) (are_laid Words sign items items [] (sym (append-nil items))).0)

  pub kept_times : kept.state.cycle ≡ cycle (ended_times sign items)
  kept_times = of.state_is.times ∙ ap cycle (same_times Words sign items items [] (sym (append-nil items)))

-- whether lines are filled, as a number that isn't 0
pub is_true : (n : ℕ) → (n ≡ 0 → ⊥) → not (n == 0) ≡ true
is_true n other = ap not (ne_eqb n 0 other)

pub is_false : (n : ℕ) → n ≡ 0 → not (n == 0) ≡ false
is_false n none = ap not (eq-eqb n 0 none)

-- an item that is judged where lines aren't filled
pub judged_unfilled : (sign : SignData) (items : List Meaning) (item : Meaning) (result : Result (Unit {0}) SyntaxError) (pass : Pass) → sign.line_fill ≡ Off → some_after (offence Off sign) items ≡ [] → IsLimited pass.state
    → IsJudged sign items item result pass.state
    → IsTagJudged false sign items item result pass
judged_unfilled sign items item result pass off none limited judged = search (rules, none_more)

-- before the first item
pub pass_start : (sign : SignData) (pass : Pass) (words : Bool) → sign.line_fill ≡ fill_of words → IsStateOf sign [] pass.state → IsLimited pass.state
    → (IsStateOf sign (laid_items Words sign [] []) pass.state → present_area sign [] ≡ [] → IsFilledOf sign [] pass) → IsPassOf words sign pass []
unfolding spots
pass_start sign pass words is st limited filled = search rules

-- a character without a cell
pub pass_undefined : (sign : SignData) (items : List Meaning) (pass : Pass) (words : Bool) → IsPassOf words sign pass items → (number : ℕ) → cell_in sign pass.state.attributes.font.number number ≡ None
    → offence sign.line_fill sign items (Shows number) ≡ Some 7
pass_undefined sign items pass words is number none = search (rules, cell_missing, filled_undefined, offence-undefined)

-- a pass over lines of either kind is ready
pub pass_ready : (words : Bool) (sign : SignData) (pass : Pass) (items : List Meaning) → IsPassOf words sign pass items → IsPassReady words pass
pass_ready words sign pass items is = search (rules, filled_ready, ready)

-- where lines aren't filled the limits are known
pub limited_of : (words : Bool) → words ≡ false → (sign : SignData) (pass : Pass) (items : List Meaning) → IsPassOf words sign pass items → IsLimited pass.state
limited_of words off sign pass items is = search rules
