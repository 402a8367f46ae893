-- What a placing item makes of the state, from what the sums of the present area answer.
use Rattle.multi_judge.proofs.Common.{largest_push, ◌≡◌, ℕ, ◌≤◌, inl, inr, Bool, true, false, cond, not, List, [], ◌∷◌, ◌++◌, Option, Some, None, refl, sym, ap, ◌∙◌, arith, append-nil, rules, subst, All, after_last, list_any, unwrap_or, false≢true, none_more, NewLine, NewPage, Back, Rect, page_number, Off, too_big, SizedCell, CellData, SignData, cell_in, cell_numbered, Break, Glyph, Spot, area_of, in_group, is_break, is_glyph, spots, standing, Cover, Meaning, Shows, Does, clashes, conflicts, never_big, offence, offence_by, unsized_offence, present_area, IsPlacing, ended_lines, area_placing, in_group_other, own_group, ended_break, ended_glyph, offence-break, offence-character, offence-undefined, present_area-placing, no_conflict, present_area-nothing, present_area-cover, Tag, unsized_if, Area, Attributes, Character, State, IsStateOf, IsLimited, IsUnfilledOf, IsBreak, IsCharacter, area_sum, line_sum, Line, EndsLine, Pass, cases_Option, Put, has_place, begins_area, laid_plain, IsItemPassed, common_steps, ends_line}
use Rattle.multi_judge.proofs.Sums.{no_back, no_clash, cell_found, state-same_page}

-- an item with a place: a character with its cell, or the end of a line with the gap that it gives
pub data Placed : Type 0 where
  shown : ℕ → CellData → Placed
  line_end : Option ℕ → Placed

abbrev pub item_of : Placed → Meaning
item_of (shown number cell) = Shows number
item_of (line_end gap) = Does (NewLine gap)

abbrev pub put_of : Placed → Put
put_of (shown number cell) = Glyph cell
put_of (line_end gap) = Break gap

module _ (sign : SignData) (items : List Meaning) where
  -- its cell is that of the font in force
  abbrev pub IsFound : Placed → Type 0
  IsFound (shown number cell) = cell_numbered (standing sign items).font number ≡ Some cell
  IsFound (line_end gap) = Unit {0}

  abbrev pub spot_of : Placed → Spot
  spot_of p = record { at = standing sign items; put = put_of p }

  pub present_placing : All IsPlacing (present_area sign items)
  present_placing = area_placing (spots sign items) (spot_of (line_end None))

  -- it offends by a conflict, or else by its size
  offence_is : (big : List Spot → Spot → Bool) (p : Placed) → IsFound p
      → offence_by big sign items (item_of p) ≡ cond (conflicts (spots sign items) (spot_of p)) (Some 11) (cond (big (spots sign items) (spot_of p)) (Some 5) None)
  offence_is big p found = search (rules, offence-break, offence-character)

  pub placed_conflict : (p : Placed) → IsFound p → conflicts (spots sign items) (spot_of p) ≡ true → offence Off sign items (item_of p) ≡ Some 11
  placed_conflict p found is = offence_is (too_big Off) p found ∙ rw is refl

  pub placed_size : (p : Placed) → IsFound p → conflicts (spots sign items) (spot_of p) ≡ false → (fits : Bool) → fits ≡ not (too_big Off (spots sign items) (spot_of p))
      → offence Off sign items (item_of p) ≡ cond fits None (Some 5)
  placed_size p found apart fits is =
      let either : (b : Bool) → ◌≡◌ {A = Option ℕ} (cond b (Some 5) None) (cond (not b) None (Some 5)) = λ b. search rules in
      offence_is (too_big Off) p found ∙ rw (apart, is) (either (too_big Off (spots sign items) (spot_of p)))

  -- one that doesn't offend doesn't conflict
  pub placed_free : (p : Placed) → IsFound p → unsized_offence sign items (item_of p) ≡ None → conflicts (spots sign items) (spot_of p) ≡ false
  placed_free p found fine = no_conflict (conflicts (spots sign items) (spot_of p)) false (sym (offence_is never_big p found) ∙ fine)

  -- the present area with it
  pub placed_area : (p : Placed) → IsFound p → present_area sign (items ++ item_of p ∷ []) ≡ present_area sign items ++ spot_of p ∷ []
  placed_area p found = search (rules, present_area-placing)

  -- an item that has a place and doesn't offend is one
  pub placed_of : (x : Meaning) → unsized_offence sign items x ≡ None → has_place x ≡ true → (p : Placed) × (item_of p ≡ x) × IsFound p
  placed_of (Shows number) fine place = elim (cases_Option (cell_numbered (standing sign items).font number)) [
    | inl none ↦ let wrong : ◌≡◌ {A = Option ℕ} (Some 7) None = sym (offence-undefined never_big sign items number none) ∙ fine in absurd cc
    | inr some ↦ (shown number some.0, refl, some.1)
  ]
  placed_of (Does (NewLine gap)) fine place = (line_end gap, refl, tt)
  placed_of x fine place = absurd (false≢true place)

module _ (sign : SignData) (items : List Meaning) (state : State) (st : IsStateOf sign items state) where
  pub page_here : (standing sign items).page_just ≡ state.attributes.page_just
  page_here = sym (ap (λ (a : Attributes). a.page_just) st.attributes)

  pub line_here : (standing sign items).line_just ≡ state.attributes.line_just
  line_here = sym (ap (λ (a : Attributes). a.line_just) st.attributes)

  pub placed_order : (p : Placed) → conflicts (spots sign items) (spot_of sign items p) ≡ false → state.area.present ≤ page_number state.attributes.page_just
  placed_order p apart =
      no_back (spots sign items) (spot_of sign items p) (page_number state.attributes.page_just) state.area.present (ap page_number page_here) (ap (λ (a : Area). a.present) st.area) apart

  pub state-placed : (p : Placed) → IsFound sign items p → (area : Area) → area ≡ area_sum (present_area sign items ++ spot_of sign items p ∷ [])
      → IsStateOf sign (items ++ item_of p ∷ []) (record state { area = area })
  state-placed (shown number cell) found area sum =
      state-same_page sign items state (record state { area = area }) (Shows number) st refl refl refl st.attributes (sum ∙ ap area_sum (sym (placed_area sign items (shown number cell) found))) st.font st.small
  state-placed (line_end gap) found area sum =
      state-same_page sign items state (record state { area = area }) (Does (NewLine gap)) st refl refl refl st.attributes (sum ∙ ap area_sum (sym (placed_area sign items (line_end gap) found))) st.font st.small

  -- a character that doesn't conflict, whose sums are these with it
  pub character-grown : (number : ℕ) (c : SizedCell) (cell : CellData) → c.width ≡ cell.width → conflicts (spots sign items) (spot_of sign items (shown number cell)) ≡ false
      → (character : Character) → character.just ≡ state.attributes.line_just → character.spacing ≡ state.attributes.spacing → character.width ≡ c.width → character.font ≡ state.attributes.font
      → (area : Area)
      → ((xs : List Spot) (s : Spot) → All IsPlacing xs → state.area ≡ area_sum xs → IsCharacter s character → s.at.page_just ≡ state.attributes.page_just → state.area.present ≤ page_number state.attributes.page_just
      → list_any (clashes s) (after_last is_break (in_group (page_number state.attributes.page_just) xs)) ≡ false → area ≡ area_sum (xs ++ s ∷ []))
      → area ≡ area_sum (present_area sign items ++ spot_of sign items (shown number cell) ∷ [])
  character-grown number c cell width apart character just spacing wide font area sum =
      let is : IsCharacter (spot_of sign items (shown number cell)) character = record {
        glyph = refl;
        just = just ∙ sym line_here;
        spacing = spacing ∙ ap (λ (a : Attributes). a.spacing) st.attributes;
        width = wide ∙ width;
        font = font ∙ ap (λ (a : Attributes). a.font) st.attributes;
      } in
      search (rules, no_clash, page_here, placed_order, present_placing)

  -- a character that doesn't offend
  pub character-accepted : (number : ℕ) (c : SizedCell) → cell_in sign state.attributes.font.number number ≡ Some c
      → (character : Character) → character.just ≡ state.attributes.line_just → character.spacing ≡ state.attributes.spacing → character.width ≡ c.width → character.font ≡ state.attributes.font
      → (area : Area)
      → ((xs : List Spot) (s : Spot) → All IsPlacing xs → state.area ≡ area_sum xs → IsCharacter s character → s.at.page_just ≡ state.attributes.page_just → state.area.present ≤ page_number state.attributes.page_just
      → list_any (clashes s) (after_last is_break (in_group (page_number state.attributes.page_just) xs)) ≡ false → area ≡ area_sum (xs ++ s ∷ []))
      → unsized_offence sign items (Shows number) ≡ None → IsStateOf sign (items ++ Shows number ∷ []) (record state { area = area })
  character-accepted number c some character just spacing wide font area sum fine =
      let (cell, found, width) = cell_found sign items state st number c some in
      state-placed (shown number cell) found area (character-grown number c cell width (placed_free sign items (shown number cell) found fine) character just spacing wide font area sum)

  -- it doesn't conflict then
  pub character-free : (number : ℕ) (c : SizedCell) → cell_in sign state.attributes.font.number number ≡ Some c → (r : Bool)
      → ((before : List Spot) (s : Spot) → state.area ≡ area_sum (area_of s before) → is_glyph s ≡ true → s.at.page_just ≡ state.attributes.page_just → s.at.line_just ≡ state.attributes.line_just → r ≡ conflicts before s)
      → unsized_offence sign items (Shows number) ≡ None → r ≡ false
  character-free number c some r answer fine =
      let (cell, found, width) = cell_found sign items state st number c some in
      answer (spots sign items) (spot_of sign items (shown number cell)) st.area refl page_here line_here ∙ placed_free sign items (shown number cell) found fine

  -- an `nl` that doesn't conflict, and its sums
  pub break-grown : (gap : Option ℕ) → conflicts (spots sign items) (spot_of sign items (line_end gap)) ≡ false → (area : Area)
      → ((xs : List Spot) (s : Spot) → All IsPlacing xs → state.area ≡ area_sum xs → IsBreak s gap state.attributes.font → s.at.page_just ≡ state.attributes.page_just → state.area.present ≤ page_number state.attributes.page_just → area ≡ area_sum (xs ++ s ∷ []))
      → area ≡ area_sum (present_area sign items ++ spot_of sign items (line_end gap) ∷ [])
  break-grown gap apart area sum =
      sum (present_area sign items) (spot_of sign items (line_end gap)) (present_placing sign items) st.area
      (record { put = refl; font = ap (λ (a : Attributes). a.font) st.attributes }) page_here (placed_order (line_end gap) apart)

  -- an `nl` that doesn't offend
  pub break-accepted : (gap : Option ℕ) (area : Area)
      → ((xs : List Spot) (s : Spot) → All IsPlacing xs → state.area ≡ area_sum xs → IsBreak s gap state.attributes.font → s.at.page_just ≡ state.attributes.page_just → state.area.present ≤ page_number state.attributes.page_just → area ≡ area_sum (xs ++ s ∷ []))
      → unsized_offence sign items (Does (NewLine gap)) ≡ None → IsStateOf sign (items ++ Does (NewLine gap) ∷ []) (record state { area = area })
  break-accepted gap area sum fine = state-placed (line_end gap) tt area (break-grown gap (placed_free sign items (line_end gap) tt fine) area sum)

  -- it doesn't conflict then
  pub break-free : (gap : Option ℕ) (r : Bool)
      → ((before : List Spot) (s : Spot) → state.area ≡ area_sum (area_of s before) → is_glyph s ≡ false → s.at.page_just ≡ state.attributes.page_just → r ≡ conflicts before s)
      → unsized_offence sign items (Does (NewLine gap)) ≡ None → r ≡ false
  break-free gap r answer fine = answer (spots sign items) (spot_of sign items (line_end gap)) st.area refl page_here ∙ placed_free sign items (line_end gap) tt fine

pub ends_placed : (x : Meaning) → ends_line x ≡ true → has_place x ≡ true
ends_placed x e = search (rules, false≢true)

-- each tag but `nl` ends none
pub ends_not : (tag : Tag) → ((gap : Option ℕ) → tag ≡ NewLine gap → ⊥) → ends_line (Does tag) ≡ false
ends_not tag other = search rules

module _ (sign : SignData) (items : List Meaning) (state : State) (st : IsStateOf sign items state) where
  -- an item with a place that doesn't offend isn't before the present group
  pub order : (x : Meaning) → unsized_offence sign items x ≡ None → has_place x ≡ true → state.area.present ≤ page_number state.attributes.page_just
  order x fine place = first_of (search (rules, placed_free, placed_of, placed_order), grind (arith, placed_free, placed_of, placed_order))

  -- so one more joins the group in force, which is then the present one, and ends this line, or none, and the others stay
  abbrev Joins : Meaning → State → Option Line → Type 0
  Joins x after ended =
      let page = page_number state.attributes.page_just in
      let old = present_area sign items in
      let new = present_area sign (items ++ x ∷ []) in
      (after.area.present ≡ page) × (state.area.present ≤ page) × ((just : ℕ) → (just ≡ page → ⊥) → in_group just new ≡ in_group just old) × EndsLine (in_group page old) (in_group page new) ended

  joins : (p : Placed) → IsFound sign items p → state.area.present ≤ page_number state.attributes.page_just → (after : State) → IsStateOf sign (items ++ item_of p ∷ []) after → (ended : Option Line)
      → (in_group (page_number state.attributes.page_just) (present_area sign (items ++ item_of p ∷ [])) ≡ in_group (page_number state.attributes.page_just) (present_area sign items) ++ spot_of sign items p ∷ []
      → EndsLine (in_group (page_number state.attributes.page_just) (present_area sign items)) (in_group (page_number state.attributes.page_just) (present_area sign (items ++ item_of p ∷ []))) ended)
      → Joins (item_of p) after ended
  joins p found on after st' ended ends = grind (arith, common_steps, in_group_other, own_group, page_here, placed_area, largest_push)

  -- a character ends none
  pub glyph_joins : (number : ℕ) → unsized_offence sign items (Shows number) ≡ None → (after : State) → IsStateOf sign (items ++ Shows number ∷ []) after → Joins (Shows number) after None
  glyph_joins number fine after st' = elim (cases_Option (cell_numbered (standing sign items).font number)) [
    | inl none ↦ let wrong : ◌≡◌ {A = Option ℕ} (Some 7) None = sym (offence-undefined never_big sign items number none) ∙ fine in absurd cc
    | inr some ↦
        let p = shown number some.0 in
        joins p some.1 (order (Shows number) fine refl) after st' None
        (λ own. ap ended_lines own ∙ ended_glyph (in_group (page_number state.attributes.page_just) (present_area sign items)) (spot_of sign items p) refl)
  ]

  -- an `nl` ends the open line
  pub break_joins : (x : Meaning) → ends_line x ≡ true → unsized_offence sign items x ≡ None → (after : State) → IsStateOf sign (items ++ x ∷ []) after
      → (line : Line) → line ≡ line_sum (after_last is_break (in_group (page_number state.attributes.page_just) (present_area sign items))) → Joins x after (Some line)
  break_joins (Does (NewLine gap)) ends fine after st' line is =
      let group = in_group (page_number state.attributes.page_just) (present_area sign items) in
      let spot = spot_of sign items (line_end gap) in
      joins (line_end gap) tt (order (Does (NewLine gap)) fine refl) after st' (Some line)
      (λ own. (after_last is_break group, spot, is, ([], sym (append-nil (after_last is_break group))), refl, ap ended_lines own ∙ ended_break group spot refl))
  break_joins x ends fine after st' line is = absurd (false≢true ends)

  -- a tag that begins no area and ends no line leaves the area
  pub area_stays : (tag : Tag) → begins_area (Does tag) ≡ false → ends_line (Does tag) ≡ false → (has_place (Does tag) ≡ false) × (present_area sign (items ++ Does tag ∷ []) ≡ present_area sign items)
  area_stays NewPage stays open' = absurd (false≢true (sym stays))
  area_stays (NewLine gap) stays open' = absurd (false≢true (sym open'))
  area_stays (Rect x y w h) stays open' = absurd (false≢true (sym stays))
  area_stays (Back colour) stays open' = (refl, present_area-cover sign items (Does (Back colour)) (Cover (standing sign items).page (unwrap_or colour sign.defaults.back)) refl refl refl)
  area_stays tag stays open' = (refl, present_area-nothing sign items (Does tag) refl refl)

-- a character joins the group in force where lines aren't filled
pub plain_passed : (sign : SignData) (items : List Meaning) (old new : Pass) → IsUnfilledOf sign old.state items → (number : ℕ) → offence sign.line_fill sign items (Shows number) ≡ None
    → IsStateOf sign (items ++ Shows number ∷ []) new.state → IsLimited new.state → IsItemPassed false sign items (Shows number) (page_number old.state.attributes.page_just) old new None
plain_passed sign items old new of number fine st limited =
    let fine' = subst (λ setting. offence setting sign items (Shows number) ≡ None) of.off fine in
    let (present, order, others, own) = glyph_joins sign items old.state of.state_is number (unsized_if Off sign items (Shows number) fine' true refl) new.state st in
    let same = laid_plain sign items in
    let same' = laid_plain sign (items ++ Shows number ∷ []) in
    record {
      of = record { off = of.off; fine = none_more (offence Off sign) items (Shows number) of.fine fine'; state_is = st; limited = limited };
      present = present;
      order = order;
      others = λ just other. ap (λ l. in_group just (present_area sign l)) same' ∙ others just other ∙ ap (λ l. in_group just (present_area sign l)) (sym same);
      own = ap (λ l. ended_lines (in_group (page_number old.state.attributes.page_just) (present_area sign l))) same' ∙ own ∙ ap (λ l. ended_lines (in_group (page_number old.state.attributes.page_just) (present_area sign l))) (sym same);
    }
