-- One more item is passed: the group that it joins, and the line that it ends.
use Rattle.multi_judge.proofs.Common.{order_of, eq-eqb, or_parts, lt-ltb, line_number_known, nat_lt, line_number, ◌||◌, ◌&&◌, LineJust, width_in, ◌≡◌, ℕ, ◌≤◌, ◌<◌, ◌==◌, Bool, true, false, cond, List, [], ◌∷◌, ◌++◌, Option, Some, None, Result, Ok, Err, refl, sym, ap, subst, ◌∙◌, arith, inl, inr, cases_lt, after_last, list_any, le-leb, false≢true, page_number, page_number_known, Words, SignData, cell_in, Spot, clashes, is_break, in_group, filled, laid_items, Tag, Does, Meaning, Shows, begins_area, offence, unsized_offence, area_fits_always, begins_line, LineFill, SyntaxError, JudgesTag, offends_as_laid, laid_plain, laid_tag, unsized_if, present_area, ended_lines, Area, Attributes, Character, Group, Line, Order, Pass, Split, State, ReachesGroup, character_of, EndsLine, FillsGroup, order_sum, split_sum, IsFilledFor, IsPassOf, fill_of, IsCellPut, IsItemJudged, IsItemPassed, next_group, IsLimited, IsMost, IsStateOf, area_sum, group_sum, area_of, is_glyph, conflicts, AddsCharacter, PutsCell, not, rules, common_steps, code_of, ends_line}
use Rattle.multi_judge.proofs.Sums.{area_filled, line_clashes, nothing_yet, reached_group, reached_line}
use Rattle.multi_judge.proofs.LimitLemmas.{character_judged}
use Rattle.multi_judge.proofs.PlacingLemmas as steps
use Rattle.multi_judge.proofs.PlacingLemmas.{plain_passed}
use Rattle.multi_judge.proofs.FilledJudgedLemmas.{FillsArea, IsTagJudged, filled_free, judged-begins, judged-stays}
use Rattle.multi_judge.proofs.FilledStateLemmas.{order_more}
use Rattle.multi_judge.proofs.RunReadLemmas.{cell_of_width}
use Rattle.multi_judge.proofs.ReadLemmas.{filled_put, judged_unfilled}

-- the state is that of the items as they are laid out
pub state_of : (words : Bool) (sign : SignData) (kept : Pass) (items : List Meaning) → IsPassOf words sign kept items → IsStateOf sign (laid_items (fill_of words) sign items items) kept.state
state_of words sign kept items of = search (rules, laid_plain)

-- a tag doesn't offend among the items as they are laid out
pub tag_unsized : (words : Bool) (sign : SignData) (kept : Pass) (ms : List Meaning) → IsPassOf words sign kept ms → (tag : Tag) → offence sign.line_fill sign ms (Does tag) ≡ None
    → unsized_offence sign (laid_items (fill_of words) sign ms ms) (Does tag) ≡ None
tag_unsized words sign kept items of tag fine = search (rules, laid_plain, offends_as_laid, unsized_if)

-- one that is judged after the items as they are laid out, and begins a line
pub tag_begun : (words : Bool) (sign : SignData) (items : List Meaning) (old : Pass) (tag : Tag) (result : Result (Unit {0}) SyntaxError) (state : State) → IsPassOf words sign old items → (IsLimited old.state → IsLimited state)
    → JudgesTag sign old.state (Does tag) result state → words ≡ true → begins_line tag ≡ true → IsTagJudged words sign items (Does tag) result (record { state = state; split = None; order = 0 })
tag_begun words sign items old tag result state of limited judged w begins = search (rules, false≢true, judged-begins)

-- or that doesn't
pub tag_kept : (words : Bool) (sign : SignData) (items : List Meaning) (old : Pass) (tag : Tag) (result : Result (Unit {0}) SyntaxError) (state : State) → IsPassOf words sign old items → (IsLimited old.state → IsLimited state)
    → JudgesTag sign old.state (Does tag) result state → (words ≡ true → begins_line tag ≡ false) → IsTagJudged words sign items (Does tag) result (record { state = state; split = old.split; order = old.order })
tag_kept true sign items old tag result state of limited judged stays =
    judged-stays sign items old of.of of.words tag result state (stays refl) (limited of.of.limited) (judged (laid_items Words sign items items) of.of.state_is (λ place. (of.of.limited, of.of.area_fits)))
tag_kept false sign items old tag result state of limited judged stays =
    judged_unfilled sign items (Does tag) result (record { state = state; split = old.split; order = old.order }) of.off of.fine (limited of.limited) (judged items of.state_is (λ place. (of.limited, area_fits_always sign items of.fine)))

-- or that offends
pub tag_refused : (words : Bool) (sign : SignData) (items : List Meaning) (old : Pass) (tag : Tag) (error : SyntaxError) (state : State) → IsPassOf words sign old items → JudgesTag sign old.state (Does tag) (Err error) state
    → offence sign.line_fill sign items (Does tag) ≡ Some (code_of error)
tag_refused words sign items old tag error state of judged = search (rules, area_fits_always, offends_as_laid)

module _ (words : Bool) (sign : SignData) (items : List Meaning) (old new : Pass) (tag : Tag) (of : IsPassOf words sign old items) (fine : offence sign.line_fill sign items (Does tag) ≡ None)
    (of' : IsPassOf words sign new (items ++ Does tag ∷ [])) where
  abbrev as_laid : List Meaning
  as_laid = laid_items (fill_of words) sign items items

  with_tag : laid_items (fill_of words) sign (items ++ Does tag ∷ []) (items ++ Does tag ∷ []) ≡ as_laid ++ Does tag ∷ []
  with_tag = laid_tag (fill_of words) sign items tag

  before : IsStateOf sign as_laid old.state
  before = state_of words sign old items of

  behind : IsStateOf sign (as_laid ++ Does tag ∷ []) new.state
  behind = subst (λ l. IsStateOf sign l new.state) with_tag (state_of words sign new (items ++ Does tag ∷ []) of')

  -- it ends no line
  pub tag_stays : begins_area (Does tag) ≡ false → ends_line (Does tag) ≡ false → IsItemPassed words sign items (Does tag) (next_group old.state (Does tag)) old new None
  tag_stays plain open' =
      let (none, same) = steps.area_stays sign as_laid old.state before tag plain open' in
      let stays : next_group old.state (Does tag) ≡ old.state.area.present = ap (λ b. cond b (page_number old.state.attributes.page_just) old.state.area.present) none in
      let area = ap (present_area sign) with_tag ∙ same in
      record {
        of = of';
        present = ap (λ (a : Area). a.present) (behind.area ∙ ap area_sum same ∙ sym before.area) ∙ sym stays;
        order = omega (arith, stays);
        others = λ just other. ap (in_group just) area;
        own = ap (λ l. ended_lines (in_group (next_group old.state (Does tag)) l)) area;
      }

  pub tag_judged : ends_line (Does tag) ≡ false → IsItemJudged words sign items (Does tag) old (Ok None) new
  tag_judged open' = (fine, of', λ apart. refl, λ plain. tag_stays plain open')

  -- it ends the open one
  pub tag_ends : ends_line (Does tag) ≡ true → (group : Group) → ((area : List Spot) → old.state.area ≡ area_sum area → old.state.area.present ≤ page_number old.state.attributes.page_just → group ≡ group_sum (in_group (page_number old.state.attributes.page_just) area))
      → IsItemJudged words sign items (Does tag) old (Ok (Some group.line)) new
  tag_ends ends group sum =
      let page = page_number old.state.attributes.page_just in
      let unsized = tag_unsized words sign old items of tag fine in
      let line = ap (λ (g : Group). g.line) (sum (present_area sign as_laid) before.area (steps.order sign as_laid old.state before (Does tag) unsized (steps.ends_placed (Does tag) ends))) in
      let (present, order, others, own) = steps.break_joins sign as_laid old.state before (Does tag) ends unsized new.state behind group.line line in
      let area = sym (ap (present_area sign) with_tag) in
      let placed = ap (λ b. cond b page old.state.area.present) (steps.ends_placed (Does tag) ends) in (
        fine,
        of',
        λ apart. absurd (false≢true (sym apart ∙ steps.ends_placed (Does tag) ends)),
        λ plain. subst (λ n. IsItemPassed words sign items (Does tag) n old new (Some group.line)) (sym placed) (record {
          of = of';
          present = present;
          order = order;
          others = subst (λ l. (just : ℕ) → (just ≡ page → ⊥) → in_group just l ≡ in_group just (present_area sign as_laid)) area others;
          own = subst (λ l. EndsLine (in_group page (present_area sign as_laid)) (in_group page l) (Some group.line)) area own;
        }),
      )

-- one that is passed is judged
pub cell_judged : (words : Bool) (sign : SignData) (items : List Meaning) (number : ℕ) (old new : Pass) (ended : Option Line) → offence sign.line_fill sign items (Shows number) ≡ None
    → IsItemPassed words sign items (Shows number) (page_number old.state.attributes.page_just) old new ended → IsItemJudged words sign items (Shows number) old (Ok ended) new
cell_judged words sign items number old new ended fine on = (fine, on.of, λ apart. absurd (false≢true (sym apart)), λ plain. on)

-- one that doesn't conflict where lines aren't filled is put
pub plain_put : (old new : Pass) (number width : ℕ) (result : Bool) → ((before : List Spot) (s : Spot) → old.state.area ≡ area_sum (area_of s before) → is_glyph s ≡ true → s.at.page_just ≡ old.state.attributes.page_just → s.at.line_just ≡ old.state.attributes.line_just → not result ≡ conflicts before s)
    → AddsCharacter old.state width new.state → (IsLimited old.state → IsLimited new.state) → result ≡ true → PutsCell false old number width (Ok None) new
plain_put old new number width result conflicts added limited is sign own items of =
    let (sized, some, wide) = cell_of_width (cell_in sign old.state.attributes.font.number number) width (sym own) in
    let (size, st) = character_judged sign items old.state of.state_is new.state added.same of.fine of.limited number sized some width wide added (not result) conflicts (ap not is) in (
      ap (λ (setting : LineFill). offence setting sign items (Shows number)) of.off ∙ size,
      λ fits. plain_passed sign items old new of number
          (ap (λ (setting : LineFill). offence setting sign items (Shows number)) of.off ∙ size ∙ ap {B = Option ℕ} (λ b. cond b None (Some 5)) fits) st (limited of.limited),
    )

-- it clashes by the order of those before it
pub clash_by : (order : Order) (just : LineJust) (n : ℕ) → n ≡ line_number just → (line : List Spot) (s : Spot) → order ≡ order_sum line → s.at.line_just ≡ just → (nat_lt n order.largest || ((n == 5) && order.has_parts)) ≡ list_any (clashes s) line
clash_by order just n is line s e j = rw (e, is, ← j) (sym (line_clashes line s))

-- the order with one more character, which doesn't clash with those before it; these are none where its group doesn't go on
order_with : (order : ℕ) (just : LineJust) (n : ℕ) (goes_on : Bool) → n ≡ line_number just → (line : List Spot) (s : Spot) → s.at.line_just ≡ just → list_any (clashes s) line ≡ false
    → (goes_on ≡ true → order_of order ≡ order_sum line) → (goes_on ≡ false → line ≡ []) → order_of n ≡ order_sum (line ++ s ∷ [])
order_with order just n goes_on is line s at apart goes stops = grind (arith, common_steps, eq-eqb, cases_lt, lt-ltb, line_clashes, line_number_known, or_parts, order_more)

-- the parts of the present line, which are none where the group after the present one is reached
abbrev pub IsSplitReached : Pass → Option Split → Type 0
IsSplitReached kept split =
    (kept.state.area.present < page_number kept.state.attributes.page_just → split ≡ None) × (page_number kept.state.attributes.page_just ≤ kept.state.area.present → split ≡ kept.split)

-- the group of a character that is filled with it, where lines are filled
module _ (kept : Pass) (reached : Bool) (area : Area) (height : ℕ) (r : ReachesGroup (page_number kept.state.attributes.page_just) kept.state.attributes.rectangle.height kept.state.area kept.state.limits.height reached area height)
    (split : Option Split) (parts : IsSplitReached kept split) where
  abbrev at : Attributes
  at = kept.state.attributes

  module _ (group : Group) (split' : Option Split) where
    module _ (sign : SignData) (items : List Meaning) (is : IsFilledFor sign kept items) (number width : ℕ) (own : width_in sign at.font.number number ≡ Some width)
        (page n : ℕ) (page_is : page ≡ page_number at.page_just) (n_is : n ≡ line_number at.line_just) (free : (nat_lt page kept.state.area.present || ((page == kept.state.area.present) && (nat_lt n kept.order || ((n == 5) && (order_of kept.order).has_parts)))) ≡ false)
        (most : ℕ) (room : IsMost at.rectangle.width area.group.line kept.state.limits.width → IsMost at.rectangle.width group.line most) (ended : Option Line) (character : Character) (is_character : character ≡ character_of at width)
        (fills : IsMost at.rectangle.width area.group.line kept.state.limits.width → FillsGroup at.rectangle.width area.group split character (number == 32) group split' ended) where
      abbrev new : Pass
      new =
          record { state = record kept.state { area = record area { group = group }; limits = record { width = most; height = height } }; split = split'; order = n }

      line_room : IsMost at.rectangle.width area.group.line kept.state.limits.width
      line_room = reached_line r (page_number_known at.page_just) at.rectangle.width kept.state.limits.width is.of.limited.width

      area_fills : FillsArea (page_number at.page_just) at.rectangle.width kept.state.area kept.split (character_of at width) (number == 32) (record area { group = group }) split' ended
      area_fills old more cells s small placing placing' e order on own space fits apart o =
          let page = page_number at.page_just in
          let turned = (r.goes (r.order ∙ le-leb kept.state.area.present page order)).sum old placing e in
          let open' : split ≡ split_sum (after_last is_break (filled (Some at.rectangle.width) cells)) = elim (cases_lt kept.state.area.present page) [
            | inl later ↦ parts.0 later ∙ nothing_yet old cells page at.rectangle.width on.before kept.state.area e later
            | inr goes ↦ parts.1 goes ∙ o (omega (arith, order, goes))
          ] in
          let (grown, parts', ended', before) = subst (λ (k : Character). FillsGroup at.rectangle.width area.group split k (number == 32) group split' ended) is_character (fills line_room) cells s small placing' own space fits apart (ap (λ (a : Area). a.group) turned ∙ ap group_sum on.before) open' in
          (area_filled old more cells s page at.rectangle.width on area _ turned refl refl refl grown, parts', ended', before)

      pub cell_put : IsCellPut true sign items number kept (Ok ended) new
      cell_put =
          let (c, some, wide) = cell_of_width (cell_in sign at.font.number number) width (sym own) in
          filled_put sign items kept is number c some (filled_free sign items kept is.of number c some _ (clash_by (order_of kept.order) at.line_just n n_is) (rw page_is at free)) (page == kept.state.area.present) (ap (λ n. n == kept.state.area.present) page_is)
          (character_of at width) refl refl wide refl (record area { group = group }) split' ended (λ cell found. area_fills)
          new.state.limits (record { width = room line_room; height = λ some. reached_group r (page_number_known at.page_just) is.of.limited.height })
          new.order (order_with kept.order at.line_just n (page == kept.state.area.present) n_is)
