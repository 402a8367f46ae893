-- The first reading of an area, at one more item.
use Rattle.multi_layout.proofs.Common.{IsItemJudged, Ok, begins_area, nat_tests, ◌&&◌, ◌⊎◌, inl, inr, nat_lt, ◌≡◌, ℕ, Bool, ◌≤◌, true, false, List, [], ◌∷◌, ◌++◌, map, None, refl, sym, ap, subst, ◌∙◌, arith, ◌<◌, Option, Some, rules, All, map-append, Item, page_number, SignData, IsSound, Break, Spot, in_group, spots, standing, laid_items, Does, Meaning, Shows, has_place, meaning, offence, present_area, IsPlacing, IsNarrowArea, ended_lines, offences, placing_group, laid_plain, unsized_if, last_fine, Area, Group, Pass, KnownItem, Char, LineTable, laid_area, IsNextRead, IsReadOf, meant_by, HasKnown, HasRoom, next_group, IsPassOf, IsPassReady, fill_of, IsStateOf, area_sum, group_of_own, height_of, page_number_known, CountedLine, group_lines, line_count, line_entry, IsNarrow, area_placing, narrow_area, narrow_front, room, IsItemPassed, State, EndsGroup, KnowsArea, KnowsOn, line_sum, goes_on, pass_ready, kept_height_is}
use Rattle.multi_judge.specs.declared.item.KnownItem.TheVariants as known
use Rattle.multi_judge.proofs.PassedLemmas.{state_of, tag_unsized}
use Rattle.multi_layout.proofs.FilledLemmas.{laid_narrow, laid_room}
use Rattle.multi_judge.proofs.PlacingLemmas as steps
use Rattle.multi_judge.specs.declared.line.Line.{Line}
use Rattle.multi_judge.specs.internal.FillSums.{EndsLine}
use Rattle.multi_layout.proofs.KnownLinesLemmas.{entry_ended, known_pushed, known_unchanged, pushed_room, Pushed, behind_empty}

-- WHAT IS KEPT

-- what the present area has is placing items
pub present_placing : (sign : SignData) (items : List Meaning) → All IsPlacing (present_area sign items)
present_placing sign items = area_placing (spots sign items) (record { at = standing sign items; put = Break None })

-- so the ended lines of the present group aren't high
pub closed_below : (spots : List Spot) (area : Area) → area ≡ area_sum spots → All IsPlacing spots → IsNarrowArea spots → (just : ℕ) → 2 ≤ just → just ≤ 4 → area.present ≡ just → area.group.closed ≤ 1024
closed_below spots area is placing narrow just low high own = grind (arith, kept_height_is (in_group just spots) area.group (placing_group just spots placing) (group_of_own spots area is just (sym own)), group_of_own spots area is just (sym own))

module _ (sign : SignData) (sound : IsSound sign) (items : List Item) (none : offences sign items ≡ []) where
  -- the lines are few and narrow
  pub room_of : (words : Bool) (kept : Pass) → IsPassOf words sign kept (map meaning items) → HasRoom (laid_area words sign (map meaning items))
  room_of words kept of = grind (arith, laid_room, laid_plain, room)

  pub narrow_of : (words : Bool) (kept : Pass) → IsPassOf words sign kept (map meaning items) → IsNarrowArea (laid_area words sign (map meaning items))
  narrow_of true kept of = laid_narrow sign sound of.words items none kept of.of
  narrow_of false kept of = subst (λ l. IsNarrowArea (present_area sign l)) (sym (laid_plain sign (map meaning items))) (narrow_area sign sound (map meaning items) of.fine)

-- WHAT WAS READ

module _ {words : Bool} {sign : SignData} (sound : IsSound sign) {items : List Item} {present : ℕ} {kept : Pass} {lines : LineTable} (r : IsReadOf words sign items present kept lines) where
  abbrev ms : List Meaning
  ms = map meaning items

  abbrev laid : List Meaning
  laid = laid_items (fill_of words) sign ms ms

  pub read_state : IsStateOf sign laid kept.state
  read_state = state_of words sign kept ms r.of

  -- it is ready for the next item
  pub read_ready : IsPassReady words kept
  read_ready = pass_ready words sign kept ms r.of

  -- the lines are few and narrow
  pub read_lines : KnowsArea present kept.state.area lines
  read_lines = grind (arith, present_placing sign laid, room_of sign sound items r.none words kept r.of, narrow_of sign sound items r.none words kept r.of, read_state)

-- the group before the item is left, if the item belongs to a later one
group_left : {words : Bool} {sign : SignData} → IsSound sign → {items : List Item} {kept : Pass} {lines : LineTable} → IsReadOf words sign items kept.state.area.present kept lines → (x : Meaning) (lines' : LineTable)
    → KnowsOn kept.state.area (next_group kept.state x) lines lines'
    → IsReadOf words sign items (next_group kept.state x) kept lines'
group_left {words} {sign} sound {items} {kept} {lines} r x lines' known = grind (arith, present_placing sign (laid_items (fill_of words) sign (map meaning items) (map meaning items)), narrow_of sign sound items r.none words kept r.of, state_of words sign kept (map meaning items) r.of)

-- ONE MORE ITEM

module _ {sign : SignData} {items : List Item} {item : Item} {read : KnownItem} (next : IsNextRead sign items item read) where
  -- it doesn't offend
  pub next_fine : offence sign.line_fill sign (map meaning items) (meant_by read) ≡ None
  next_fine = subst (λ m. offence sign.line_fill sign (map meaning items) m ≡ None) next.meant (last_fine sign items item next.none).1

  pub items_with : map meaning (items ++ item ∷ []) ≡ map meaning items ++ meant_by read ∷ []
  items_with = map-append meaning items (item ∷ []) ∙ ap (λ m. map meaning items ++ m ∷ []) next.meant

-- what has a place isn't before the present group
character_order : (words : Bool) (sign : SignData) (kept : Pass) (ms : List Meaning) → IsPassOf words sign kept ms → (number : ℕ) → offence sign.line_fill sign ms (Shows number) ≡ None
    → kept.state.area.present ≤ page_number kept.state.attributes.page_just
character_order true sign kept ms of number fine = goes_on sign ms kept of.of number (subst (λ setting. offence setting sign ms (Shows number) ≡ None) of.words fine)
character_order false sign kept ms of number fine = steps.order sign ms kept.state of.state_is (Shows number) (unsized_if sign.line_fill sign ms (Shows number) fine true refl) refl

next_order : (words : Bool) (sign : SignData) (items : List Item) (kept : Pass) → IsPassOf words sign kept (map meaning items) → (item : Item) (read : KnownItem) → IsNextRead sign items item read
    → has_place (meant_by read) ≡ true → kept.state.area.present ≤ page_number kept.state.attributes.page_just
next_order words sign items kept of item (Char number) next place = character_order words sign kept (map meaning items) of number (next_fine next)
next_order words sign items kept of item (known.Tag tag) next place =
    let ms = map meaning items in
    steps.order sign (laid_items (fill_of words) sign ms ms) kept.state (state_of words sign kept ms of) (Does tag) (tag_unsized words sign kept ms of tag (next_fine next)) place

-- an item belongs to a later group, or to the present one
module _ (state : State) (x : Meaning) (place : Bool) (place_is : place ≡ has_place x) (number : ℕ) (number_is : number ≡ page_number state.attributes.page_just) where
  later_group : (place && nat_lt state.area.present number) ≡ true → state.area.present < next_group state x
  later_group later = grind (arith, nat_tests)

  same_group : (has_place x ≡ true → state.area.present ≤ page_number state.attributes.page_just) → (place && nat_lt state.area.present number) ≡ false → next_group state x ≡ state.area.present
  same_group order not = grind (arith, nat_tests)

-- the group before the item is left, if the item belongs to a later one
pub left_if : {words : Bool} {sign : SignData} → IsSound sign → {items : List Item} {kept : Pass} {lines : LineTable} → IsReadOf words sign items kept.state.area.present kept lines → {item : Item} {read : KnownItem} → IsNextRead sign items item read → (lines' : LineTable)
    → (place : Bool) → place ≡ has_place (meant_by read) → (number : ℕ) → number ≡ page_number kept.state.attributes.page_just
    → (((place && nat_lt kept.state.area.present number) ≡ true) × EndsGroup kept.state.area lines lines') ⊎ (((place && nat_lt kept.state.area.present number) ≡ false) × (lines' ≡ lines))
    → IsReadOf words sign items (next_group kept.state (meant_by read)) kept lines'
left_if sound {kept = kept} r {read = read} next lines' place place_is number number_is (inl (later, ends)) =
    group_left sound r (meant_by read) lines' (ends (next_group kept.state (meant_by read)) (later_group kept.state (meant_by read) place place_is number number_is later))
left_if {words} {sign} sound {items} {kept} r {item} {read} next lines' place place_is number number_is (inr (not, same)) =
    rw (same_group kept.state (meant_by read) place place_is number number_is (next_order words sign items kept r.of item read next) not, same) r

-- only what has a place ends a line
own_group : (x : Meaning) (state : State) {ended : Option Line} {line : Line} → (has_place x ≡ false → ended ≡ None) → ended ≡ Some line → next_group state x ≡ page_number state.attributes.page_just
own_group x state apart is = grind (arith)

-- an item ended this line of the present group, after which none has a line: there is room for it, and with it the table is that of these items
pub record IsLineEnded (words : Bool) (sign : SignData) (items : List Item) (lines : LineTable) (new : Pass) (line : Line) : Type 0 where
  pub just : (2 ≤ new.state.area.present) × (new.state.area.present ≤ 4)
  pub last : (just : ℕ) → new.state.area.present < just → just ≤ 4 → group_lines just lines ≡ []
  pub room : line_count lines < 128
  pub narrow : (spots : List Spot) × (line ≡ line_sum spots) × IsNarrow spots
  pub closed : new.state.area.group.closed ≤ 1024
  pub ended : (entry : CountedLine) (lines' : LineTable) → ((spots : List Spot) → line ≡ line_sum spots → IsNarrow spots → entry ≡ line_entry spots new.state.area.group.closed)
      → Pushed new.state.area.present entry lines lines' → IsReadOf words sign items new.state.area.present new lines'

-- BEHIND ONE MORE ITEM

module _ {words : Bool} {sign : SignData} (sound : IsSound sign) {items : List Item} {page : ℕ} {old new : Pass} {lines : LineTable} (r : IsReadOf words sign items page old lines)
    {item : Item} {read : KnownItem} (next : IsNextRead sign items item read) {ended : Option Line} (b : IsItemPassed words sign (map meaning items) (meant_by read) page old new ended) where
  abbrev here : List Meaning
  here = map meaning items

  abbrev more : List Meaning
  more = here ++ meant_by read ∷ []

  abbrev area : List Spot
  area = laid_area words sign here

  abbrev area_more : List Spot
  area_more = laid_area words sign more

  new_state : IsStateOf sign (laid_items (fill_of words) sign more more) new.state
  new_state = state_of words sign new more b.of

  of_more : IsPassOf words sign new (map meaning (items ++ item ∷ []))
  of_more = subst (IsPassOf words sign new) (sym (items_with next)) b.of

  -- a table with the lines that are known then
  known_more : (lines' : LineTable) → HasKnown page area_more lines' → IsReadOf words sign (items ++ item ∷ []) new.state.area.present new lines'
  known_more lines' known = first_of (search (rules, items_with, of_more), grind (arith, items_with, of_more))

  -- it ends no line
  pub step_stays : ended ≡ None → IsReadOf words sign (items ++ item ∷ []) new.state.area.present new lines
  step_stays none = known_more lines (known_unchanged page area area_more b.others (subst (EndsLine (in_group page area) (in_group page area_more)) none b.own) lines r.known)

  -- it ends one of the group in force
  module _ (at : page ≡ page_number old.state.attributes.page_just) (line : Line) (is : ended ≡ Some line) where
    own_line : EndsLine (in_group page area) (in_group page area_more) (Some line)
    own_line = subst (EndsLine (in_group page area) (in_group page area_more)) is b.own

    abbrev characters : List Spot
    characters = own_line.0

    low_page : 2 ≤ page
    low_page = omega (arith, at, page_number_known old.state.attributes.page_just)

    high_page : page ≤ 4
    high_page = omega (arith, at, page_number_known old.state.attributes.page_just)

    narrow_more : IsNarrowArea area_more
    narrow_more = subst (λ l. IsNarrowArea (laid_area words sign l)) (items_with next) (narrow_of sign sound (items ++ item ∷ []) next.none words new of_more)

    line_narrow : IsNarrow characters
    line_narrow = narrow_front characters own_line.3.0 (subst IsNarrow own_line.3.1 (narrow_of sign sound items r.none words old r.of page low_page high_page).0)

    step_line : IsLineEnded words sign (items ++ item ∷ []) lines new line
    step_line =
        let just : (2 ≤ new.state.area.present) × (new.state.area.present ≤ 4) = (omega (arith, b.present, low_page), omega (arith, b.present, high_page)) in
        let closed = closed_below area_more new.state.area new_state.area (present_placing sign (laid_items (fill_of words) sign more more)) narrow_more new.state.area.present just.0 just.1 refl in
        let group = group_of_own area_more new.state.area new_state.area page (sym b.present) in
        let height : new.state.area.group.closed ≡ height_of (ended_lines (in_group page area_more)) = omega (arith, ap (λ (g : Group). g.closed) group, closed) in
        record {
          just = just;
          last = λ just later high. behind_empty area lines page (omega (arith, ap (λ (a : Area). a.present) (state_of words sign old here r.of).area, b.order)) low_page r.known just (omega (arith, b.present, later)) high;
          room = pushed_room page area area_more b.others (characters ++ own_line.1 ∷ []) lines low_page high_page own_line.5 r.known
              (subst (λ l. HasRoom (laid_area words sign l)) (items_with next) (room_of sign sound (items ++ item ∷ []) next.none words new of_more));
          narrow = (characters, own_line.2, line_narrow);
          closed = closed;
          ended = λ entry lines' made pushed. known_more lines'
              (known_pushed page area area_more b.others (characters ++ own_line.1 ∷ []) lines low_page high_page own_line.5 r.known entry lines'
              (made characters own_line.2 line_narrow ∙ ap (line_entry characters) height ∙ sym (entry_ended characters own_line.1 (height_of (ended_lines (in_group page area_more))) own_line.4))
              (subst (λ n. Pushed n entry lines lines') b.present pushed));
        }

-- so an item is judged
module _ {words : Bool} {sign : SignData} (sound : IsSound sign) {items : List Item} {old new : Pass} {lines : LineTable} {item : Item} {read : KnownItem} (r : IsReadOf words sign items (next_group old.state (meant_by read)) old lines)
    (next : IsNextRead sign items item read) {ended : Option Line} (judged : IsItemJudged words sign (map meaning items) (meant_by read) old (Ok ended) new) (plain : begins_area (meant_by read) ≡ false) where
  pub no_line_ended : ended ≡ None → IsReadOf words sign (items ++ item ∷ []) new.state.area.present new lines
  no_line_ended = step_stays sound r next (judged.3 plain)

  pub line_ended : (line : Line) → ended ≡ Some line → IsLineEnded words sign (items ++ item ∷ []) lines new line
  line_ended line is = step_line sound r next (judged.3 plain) (own_group (meant_by read) old.state judged.2 is) line is
