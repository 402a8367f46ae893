-- What is kept of the items of a string as they are laid out, after one more character.
use Rattle.multi_judge.proofs.Common.{nat_lt, ◌≡◌, ℕ, ◌+◌, Bool, false, List, [], ◌∷◌, ◌++◌, length, Option, Some, None, refl, sym, ap, subst, ◌∙◌, arith, append_assoc, append-nil, rules, not, ◌&&◌, ◌||◌, ◌==◌, zero, suc, after_last, list_any, All, eq-eqb, le-ltb, or_parts, list_any-append, LineFill, SignData, CellData, cell_numbered, font_numbered, Glyph, Standing, in_area, spots, standing, Spot, area_of, group_of, in_group, is_break, too_big, laid_items, Meaning, Shows, present_area, standing_behind, IsFilledOn, IsPlacing, cycle, ended_times, pages_of, are_laid, largest_laid, standing_push, each_after_push, push_ind, some_after_push, after_last_is, cut, largest_push, page_number, line_number, Words, area_fits, line_fits, clashes, conflicts, first_code, offence, offence_by, largest, CutAt, filled, open_line, open_line_is, Area, Limits, State, IsStateOf, attributes_of, area_sum, line_sum, Order, order_sum, laid, filled_on, same_width, too_big_laid, spots_more, character_cases, soft_break, broken_parts, parts, parts_off, IfSome, ◌≤◌, any_largest, cases_eq, cases_lt, ne_eqb, false≢true, lt-ltb, inl, inr, split_sum, parts_sum, cut_at_last, is_space, is_cut, option_map, common_steps, IsOrderedBy}
use Rattle.multi_judge.proofs.Sums.{cycle-stays, conflicts_kept, no_back, in_order, line_clashes}
use Rattle.std.proofs.Math.Bool.{or_comm}

-- the pages of items are counted by where they stand
pub pages_at : (sign : SignData) (xs ys : List Meaning) → (standing sign xs).page ≡ (standing sign ys).page → pages_of xs ≡ pages_of ys
unfolding standing
pages_at sign xs ys e = ap (λ n. n + 1) e

module _ (setting : LineFill) (sign : SignData) where
  -- the pages that are ended have the same times
  pub same_times : (all some more : List Meaning) → all ≡ some ++ more → ended_times sign (laid_items setting sign all some) ≡ ended_times sign some
  same_times all = push_ind (λ some. (more : List Meaning) → all ≡ some ++ more → ended_times sign (laid_items setting sign all some) ≡ ended_times sign some) (λ more is. refl) step
    where
      step : (some : List Meaning) (x : Meaning) → ((more : List Meaning) → all ≡ some ++ more → ended_times sign (laid_items setting sign all some) ≡ ended_times sign some)
          → (more : List Meaning) → all ≡ (some ++ x ∷ []) ++ more → ended_times sign (laid_items setting sign all (some ++ x ∷ [])) ≡ ended_times sign (some ++ x ∷ [])
      step some x ih more is = search (rules, append_assoc, are_laid, each_after_push, standing_push, some_after_push)

  -- the state of the laid items after one more character, from its area alone
  module _ (items : List Meaning) (number : ℕ) (cell : CellData) (found : cell_numbered (standing sign items).font number ≡ Some cell) where
    abbrev more : List Meaning
    more = items ++ Shows number ∷ []

    abbrev laid_before : List Meaning
    laid_before = laid_items setting sign items items

    abbrev laid_more : List Meaning
    laid_more = laid_items setting sign more more

    before : (standing sign laid_before ≡ standing sign items) × (spots sign laid_before ≡ laid setting (spots sign items) (spots sign items))
    before = are_laid setting sign items items [] (sym (append-nil items))

    behind : (standing sign laid_more ≡ standing sign more) × (spots sign laid_more ≡ laid setting (spots sign more) (spots sign more))
    behind = are_laid setting sign more more [] (sym (append-nil more))

    -- the present area of the laid items
    pub laid_area : present_area sign laid_before ≡ in_area (standing sign items).area (laid setting (spots sign items) (spots sign items))
    laid_area = ap (λ (s : Standing). in_area s.area (spots sign laid_before)) before.0 ∙ ap (in_area (standing sign items).area) before.1

    pub laid_area_more : present_area sign laid_more
        ≡ in_area (standing sign items).area (laid setting (spots sign items ++ record { at = standing sign items; put = Glyph cell } ∷ []) (spots sign items ++ record { at = standing sign items; put = Glyph cell } ∷ []))
    laid_area_more = search (rules, behind, spots_more, standing_push)

    pub filled_state : (state : State) (area : Area) (limits : Limits) → IsStateOf sign laid_before state → area ≡ area_sum (present_area sign laid_more)
        → IsStateOf sign laid_more (record state { area = area; limits = limits })
    filled_state state area limits st sum =
        let after : standing sign laid_more ≡ standing_behind sign (standing sign items) (Shows number) = behind.0 ∙ standing_push sign items (Shows number) in
        let page : (standing sign laid_more).page ≡ (standing sign laid_before).page = ap (λ (s : Standing). s.page) after ∙ omega (arith, ap (λ (s : Standing). s.page) before.0) in
        record {
          pages = st.pages ∙ pages_at sign laid_before laid_more (sym page);
          times = st.times ∙ ap cycle (same_times items items [] (sym (append-nil items))) ∙ sym (cycle-stays sign items (Shows number) refl) ∙ ap cycle (sym (same_times more more [] (sym (append-nil more))));
          attributes = st.attributes ∙ ap attributes_of before.0 ∙ sym (ap attributes_of after);
          area = sum;
          font = subst (λ (s : Standing). font_numbered sign s.font.number ≡ Some s.font) (before.0 ∙ unchanged ∙ sym after) st.font;
          short = st.short;
          small = st.small;
        }
      where
        unchanged : standing sign items ≡ standing_behind sign (standing sign items) (Shows number)
        unchanged = search rules

module _ (sign : SignData) (items : List Meaning) (number : ℕ) (cell : CellData) (found : cell_numbered (standing sign items).font number ≡ Some cell) where
  abbrev with_glyph : List Meaning
  with_glyph = items ++ Shows number ∷ []

  -- the character
  abbrev pub shown : Spot
  shown = record { at = standing sign items; put = Glyph cell }

  -- the area in which it stands, as it is laid out with it
  abbrev pub area_with : List Spot
  area_with = present_area sign (laid_items Words sign with_glyph with_glyph)

  -- its line doesn't fit, or its area
  abbrev pub doesn't_fit : Bool
  doesn't_fit = not (line_fits shown.at.rectangle.width (after_last is_break (in_group (page_number shown.at.page_just) area_with))) || not (area_fits shown.at.rectangle.height area_with)

  too_big_is : too_big Words (spots sign items) shown ≡ doesn't_fit
  too_big_is =
      too_big_laid Words shown.at.rectangle.width (spots sign items) shown (eq-eqb shown.at.area shown.at.area refl) (same_width sign items (Glyph cell))
      ∙ ap (λ l. not (line_fits shown.at.rectangle.width (after_last is_break (in_group (page_number shown.at.page_just) l))) || not (area_fits shown.at.rectangle.height l)) (sym (laid_area_more Words sign items number cell found))

  pub present_is : (state : State) → IsStateOf sign (laid_items Words sign items items) state → state.area.present ≡ largest (λ t. page_number t.at.page_just) (area_of shown (spots sign items))
  present_is state st =
      let all = spots sign items in
      ap (λ (a : Area). a.present) st.area ∙ ap (largest (λ t. page_number t.at.page_just)) (laid_area Words sign items number cell found)
      ∙ largest_laid Words shown.at.rectangle.width shown.at.area all all [] (sym (append-nil all))

  -- it conflicts by the group that is present among the laid spots, and by the characters since the hard break
  pub conflicts_by : (state : State) → IsStateOf sign (laid_items Words sign items items) state → (clash : Bool)
      → clash ≡ list_any (clashes shown) (after_last is_break (in_group state.area.present (area_of shown (spots sign items))))
      → (nat_lt (page_number shown.at.page_just) state.area.present || ((page_number shown.at.page_just == state.area.present) && clash)) ≡ conflicts (spots sign items) shown
  conflicts_by state st clash e = first_of (search (rules, conflicts_kept, present_is), grind (arith, conflicts_kept, present_is))

  -- where it doesn't conflict, its group grows by it, and the others stay
  pub goes_behind : conflicts (spots sign items) shown ≡ false
      → IsFilledOn (page_number shown.at.page_just) shown.at.rectangle.width (group_of shown (spots sign items)) shown (present_area sign (laid_items Words sign items items)) area_with
  goes_behind apart =
      let all = spots sign items in
      let width = shown.at.rectangle.width in
      let order = no_back all shown (page_number shown.at.page_just) (largest (λ t. page_number t.at.page_just) (area_of shown all)) refl refl apart in
      let on = filled_on Words width all shown refl (same_width sign items (Glyph cell)) order in
      search (rules, area_with, laid_area, laid_area_more)

  pub offends_by : offence Words sign items (Shows number) ≡ first_code ((conflicts (spots sign items) shown, 11) ∷ (doesn't_fit, 5) ∷ [])
  unfolding offence_by
  offends_by = first_of (search (rules, too_big_is), grind (arith, too_big_is))

-- a character without a cell
pub offends_without : (sign : SignData) (items : List Meaning) (number : ℕ) → cell_numbered (standing sign items).font number ≡ None → offence Words sign items (Shows number) ≡ Some 7
unfolding offence_by
offends_without sign items number none = ap (λ o. first_code (character_cases (too_big Words) sign items o)) none

-- what holds of no item of a list holds of none of its end
none_later_on : (p : Spot → Bool) (xs ys : List Spot) → list_any p (xs ++ ys) ≡ false → list_any p ys ≡ false
none_later_on p xs ys e = (or_parts _ _ (sym (list_any-append p xs ys) ∙ e)).1

module _ (width : ℕ) where
  -- the open line of characters is their end
  end_if : (n : ℕ) (cs : List Spot) (o : Option (CutAt Spot)) → soft_break width cs ≡ o → ((cs : List Spot) → (front : List Spot) × (cs ≡ front ++ (parts width n cs).open'))
      → (front : List Spot) × (cs ≡ front ++ (parts_off width (parts width n) cs o).open')
  end_if n cs None e ih = ([], refl)
  end_if n cs (Some c) e ih =
      let (front, is) = ih c.behind in
      (c.before ++ c.item ∷ front, broken_parts width cs c e ∙ ap (λ l. c.before ++ c.item ∷ l) is ∙ sym (append_assoc c.before (c.item ∷ front) (parts width n c.behind).open'))

  end_of : (n : ℕ) (cs : List Spot) → (front : List Spot) × (cs ≡ front ++ (parts width n cs).open')
  end_of zero cs = ([], refl)
  end_of (suc n) cs = end_if n cs (soft_break width cs) refl (end_of n)

  -- a character that clashes with none since the hard break clashes with none on the open line
  pub no_clash_filled : (g : List Spot) (s : Spot) → All IsPlacing g → list_any (clashes s) (after_last is_break g) ≡ false → list_any (clashes s) (after_last is_break (filled (Some width) g)) ≡ false
  no_clash_filled g s placing apart =
      let (front, is) = end_of (length ((cut is_break g).open')) ((cut is_break g).open') in
      grind (arith, open_line_is width g placing, none_later_on (clashes s) front (open_line width g) (ap (list_any (clashes s)) (sym is ∙ sym (after_last_is is_break g)) ∙ apart))

-- the justifications at the end of a line are among those of the line
end_ordered : (front line : List Spot) → IsOrderedBy (order_sum (front ++ line)) (line_sum line)
end_ordered front line =
    let f : Spot → ℕ = λ t. line_number t.at.line_just in
    let most = largest f (front ++ line) in
    let parts : Spot → Bool = λ t. nat_lt (f t) 5 in
    let least : largest f line ≤ most = elim (cases_lt most (largest f line)) [
      | inl less ↦ absurd (false≢true (sym (none_later_on (λ t. nat_lt most (f t)) front line (any_largest f most (front ++ line) ∙ le-ltb most most (omega arith))) ∙ any_largest f most line ∙ lt-ltb most (largest f line) less))
      | inr low ↦ low
    ] in
    (least, λ some. grind (arith, list_any-append parts front line, some))

-- and so are those after its last space
behind_ordered : (front line : List Spot) (o : Option (CutAt Spot)) → cut_at_last is_space line ≡ o → IfSome (option_map parts_sum o) (λ s. IsOrderedBy (order_sum (front ++ line)) s.behind)
behind_ordered front line None found = tt
behind_ordered front line (Some c) found =
    let whole : front ++ line ≡ (front ++ c.before ++ c.item ∷ []) ++ c.behind = grind (arith, (is_cut is_space line c found).parts, append_assoc) in
    rw whole (end_ordered (front ++ c.before ++ c.item ∷ []) c.behind)

-- those of an open line are among those since the hard break
pub open_ordered : (width : ℕ) (g : List Spot) → All IsPlacing g →
    let line = after_last is_break (filled (Some width) g) in
    let order = order_sum (after_last is_break g) in
    IsOrderedBy order (line_sum line) × IfSome (split_sum line) (λ s. IsOrderedBy order s.behind)
open_ordered width g placing =
    let (front, is) = end_of width (length ((cut is_break g).open')) ((cut is_break g).open') in
    let line = open_line width g in
    let whole : after_last is_break g ≡ front ++ line = after_last_is is_break g ∙ is in
    rw (open_line_is width g placing, whole) (end_ordered front line, behind_ordered front line (cut_at_last is_space line) refl)

-- the order with one more character, which isn't before the others
pub order_more : (line : List Spot) (s : Spot) (just : ℕ) (parts : Bool) → line_number s.at.line_just ≡ just → list_any (clashes s) line ≡ false → parts ≡ list_any (λ (t : Spot). nat_lt (line_number t.at.line_just) 5) line
    → ◌≡◌ {A = Order} (record { largest = just; has_parts = nat_lt just 5 || parts }) (order_sum (line ++ s ∷ []))
order_more line s just parts is apart e =
    let most : largest (λ (t : Spot). line_number t.at.line_just) (line ++ s ∷ []) ≡ just =
    let least = in_order line s (line_sum line) refl apart in
    omega (arith, least, is, largest_push (λ (t : Spot). line_number t.at.line_just) line s) in
    search (rules, list_any-append, or_comm)

-- a character with the justification of the last one clashes with none
pub order_apart : (line : List Spot) (s : Spot) (order : Order) → order ≡ order_sum line → order.largest ≡ line_number s.at.line_just → order.has_parts ≡ nat_lt (line_number s.at.line_just) 5 → list_any (clashes s) line ≡ false
order_apart line s order e largest_is parts = search (rules, cases_eq, le-ltb, line_clashes, ne_eqb, parts)

-- and leaves it as it is
pub order_stays : (line : List Spot) (s : Spot) (order : Order) → order ≡ order_sum line → order.largest ≡ line_number s.at.line_just → order.has_parts ≡ nat_lt (line_number s.at.line_just) 5 → order ≡ order_sum (line ++ s ∷ [])
order_stays line s order e largest_is parts = grind (arith, common_steps, order_apart, order_more)
