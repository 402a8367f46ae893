-- What a character of an accepted string is laid out as: itself, or the end of its line, by the table of its area's lines.
use Rattle.multi_layout.proofs.Common.{cases_Option, empty_area, largest_laid, common_steps, NextItem, Tag, Char, IsItemRead, IsRead, Off, meant_by, Cursor, ◌≡◌, ℕ, ◌≤◌, Bool, true, false, cond, ◌||◌, inl, inr, ◌⊎◌, List, [], ◌∷◌, ◌++◌, map, Option, Some, None, refl, sym, ap, subst, ◌∙◌, append-nil, rules, arith, All, after_last, option_map, map-append, NewLine, page_number, LineFill, SignData, CellData, cell_numbered, IsSound, Break, Glyph, Put, Spot, in_area, in_group, is_break, is_glyph, lines_of, put_at, spots, standing, Standing, too_big, laid_item, laid_items, glyph_width, Does, Meaning, begins_area, Shows, has_place, meaning, Faulty, EndsArea, unsized_offence, offence, present_area, IsPlacing, IsNarrowArea, offends_as_laid, are_laid, laid_tag, present_area-placing, offence-faulty, standing_push, last_fine, area_ends, push_ind, page_number_known, Attributes, LineTable, TellsEnd, group_lines, table_of, Item, Words, offences, Pass, IsFilledOf, pages_at, same_times, State, IsStateOf, HasCounted, whole_area, HasRoom, IsBetween, LaidItem, items_of, meant, All-weaker, never_big, laid_as, HasWidth, groups_laid, area_wide, rectangle_width_within, rectangle_within, narrow_of, fits_first, fits_next, room_of, offence-undefined, spots_with, same_rectangle, spots_append, All-split, order, orderly_items, area_with, offends_by, offends_without}
use Rattle.multi_meaning.specs.Words.{largest}
use Rattle.multi_layout.proofs.PieceLemmas.{read_tag, read_unfilled}
use Rattle.multi_judge.specs.declared.item.KnownItem.TheVariants as known
use Rattle.multi_meaning.specs.internal.Places.{laid}
use Rattle.multi_meaning.specs.Filling.{filled}
use Rattle.multi_meaning.specs.internal.Fits.{area_fits}
use Rattle.multi_meaning.specs.Fit.{line_fits}
use Rattle.multi_layout.proofs.DrawLemmas.{group_with}
use Rattle.multi_layout.proofs.WalkLemmas.{map_split, meanings_split, laid_here, never_offends, state_moved}

-- a character is laid out as itself, or as an `nl` without a number
laid_character : (setting : LineFill) (sign : SignData) (all some more : List Meaning) (number : ℕ) → all ≡ some ++ Shows number ∷ more
    → (laid_item setting sign all some (Shows number) ≡ Shows number) ⊎ (laid_item setting sign all some (Shows number) ≡ Does (NewLine None))
laid_character setting sign all some more number is = elim (cases_Option (cell_numbered (standing sign some).font number)) [
  | inl none ↦ grind (arith, none)
  | inr (cell, e) ↦
      let s : Spot = record { at = standing sign some; put = Glyph cell } in
      grind (arith, e, laid_as setting (spots sign all) (spots sign some) _ s (ap (spots sign) is ∙ spots_with sign some (Shows number) more (Glyph cell) (ap (option_map Glyph) e)))
]

module _ {sign : SignData} {octets : List ℕ} {before rest : List LaidItem} {piece : LaidItem} {cursor : Cursor} (b : IsBetween sign octets before (piece ∷ rest) cursor) where
  abbrev ms : List Meaning
  ms = map meant before

  pub as_character : (number : ℕ) → meaning piece.item ≡ Shows number → (meant piece ≡ Shows number) ⊎ (meant piece ≡ Does (NewLine None))
  as_character number shows =
      let all = map meaning (items_of (before ++ piece ∷ rest)) in
      let some = map meaning (items_of before) in
      let split : all ≡ some ++ Shows number ∷ map meaning (items_of rest) = meanings_split before (piece ∷ rest) ∙ ap (λ m. some ++ m ∷ map meaning (items_of rest)) shows in
      let is = laid_here sign before rest piece b.laid ∙ ap (laid_item sign.line_fill sign all some) shows in
      subst (λ m. (m ≡ Shows number) ⊎ (m ≡ Does (NewLine None))) (sym is) (laid_character sign.line_fill sign all some (map meaning (items_of rest)) number split)

  -- a piece that puts this
  module _ (sound : IsSound sign) (lines : LineTable) (counted : HasCounted (whole_area sign before (piece ∷ rest)) lines) (r : Bool) (full : TellsEnd cursor.state.attributes cursor.state.area (group_lines (page_number cursor.state.attributes.page_just) lines) r) (x : Meaning) (is : meant piece ≡ x) (put : Put)
      (puts : put_at sign.defaults (standing sign (map meant before)) x ≡ Some put) (place : has_place x ≡ true) where
    abbrev y : Spot
    y = record { at = standing sign ms; put = put }

    pub full_put : (is_glyph y || is_break y) ≡ true → begins_area x ≡ false → IsPlacing y → r ≡ is_break y
    full_put placing plain kind =
        let st = b.state_is in
        let just = page_number cursor.state.attributes.page_just in
        let known = page_number_known cursor.state.attributes.page_just in
        let page : page_number (standing sign ms).page_just ≡ just = sym (ap (λ (a : Attributes). page_number a.page_just) st.attributes) in
        let fine = ap (unsized_offence sign ms) (sym is) ∙ never_offends sign octets before rest piece cursor b in
        let on = order sign ms cursor.state st x fine place in
        let (more, group) = group_with sign ms x (map meant rest) put puts placing just (sym page) in
        let all = ap (λ l. in_group just (in_area (standing sign ms).area (spots sign l))) (map_split before rest piece x is) ∙ group in
        let grown = present_area-placing sign ms x put plain puts placing in
        let wide = (All-split (λ (s : Spot). is_glyph s ≡ true → 1 ≤ glyph_width s) (present_area sign ms) y (subst (All (λ (s : Spot). is_glyph s ≡ true → 1 ≤ glyph_width s)) grown (area_wide sign sound sound.font (ms ++ x ∷ [])))).1 in
        full (in_group just (present_area sign ms)) more (present_area sign ms) y st.area on refl
        (counted just known.0 known.1 ∙ ap (λ g. table_of (lines_of g)) all) kind
        (λ glyph. (sym (ap (λ (a : Attributes). a.line_just) st.attributes), wide glyph))

  module _ (sound : IsSound sign) (lines : LineTable) (counted : HasCounted (whole_area sign before (piece ∷ rest)) lines) (r : Bool) (full : TellsEnd cursor.state.attributes cursor.state.area (group_lines (page_number cursor.state.attributes.page_just) lines) r) (number : ℕ) (shows : meaning piece.item ≡ Shows number) where
    stands_if : meant piece ≡ Shows number → (o : Option CellData) → cell_numbered (standing sign (map meant before)).font number ≡ o → r ≡ false
    stands_if is None e =
        let fine = ap (unsized_offence sign ms) (sym is) ∙ never_offends sign octets before rest piece cursor b in
        let wrong : ◌≡◌ {A = Option ℕ} (Some 7) None = sym (offence-undefined never_big sign ms number e) ∙ fine in absurd cc
    stands_if is (Some cell) e = full_put sound lines counted r full (Shows number) is (Glyph cell) (ap (option_map Glyph) e) refl refl refl (inl refl)

    -- where the line is full it is its end, and else it stands
    pub laid_so : meant piece ≡ cond r (Does (NewLine None)) (Shows number)
    laid_so = of (as_character number shows)
      where
        of : (meant piece ≡ Shows number) ⊎ (meant piece ≡ Does (NewLine None)) → meant piece ≡ cond r (Does (NewLine None)) (Shows number)
        of (inl is) = rw (stands_if is (cell_numbered (standing sign ms).font number) refl) is
        of (inr is) = rw (full_put sound lines counted r full (Does (NewLine None)) is (Break None) refl refl refl refl (inr refl)) is

-- whether the next item is a character that is dropped, since its line is full (own)
abbrev pub TellsDropped : SignData → Cursor → LineTable → NextItem → Bool → Type 0
TellsDropped sign cursor lines raw full =
    ((number : ℕ) × (raw.item ≡ Char number) × TellsEnd cursor.state.attributes cursor.state.area (group_lines (page_number cursor.state.attributes.page_just) lines) full)
    ⊎ ((full ≡ false) × ((sign.line_fill ≡ Off) ⊎ ((tag : Tag) × (raw.item ≡ known.Tag tag))))

-- then it is the end of its line
abbrev pub laid_as_end : Bool → NextItem → NextItem
laid_as_end full raw = record { item = cond full (known.Tag (NewLine None)) raw.item; len = raw.len }

-- so the next item, of which this is read, is laid out as that (own)
abbrev pub LaysNext : SignData → Cursor → LineTable → NextItem → NextItem → Type 0
LaysNext sign cursor lines raw next =
    (octets : List ℕ) (before rest : List LaidItem) (item : LaidItem) → IsBetween sign octets before (item ∷ rest) cursor → HasCounted (whole_area sign before (item ∷ rest)) lines → IsItemRead item.item raw → IsRead item next

pub lays_next : {sign : SignData} → IsSound sign → {cursor : Cursor} (lines : LineTable) {raw next : NextItem} (full : Bool) → TellsDropped sign cursor lines raw full → next ≡ laid_as_end full raw → LaysNext sign cursor lines raw next
lays_next {sign} sound {cursor} lines {raw} full tells is = subst (LaysNext sign cursor lines raw) (sym is) (of full tells)
  where
    of : (k : Bool) → TellsDropped sign cursor lines raw k → LaysNext sign cursor lines raw (laid_as_end k raw)
    of true (inl (number, is, tells)) octets before rest item b counted read = record { meant = laid_so b sound lines counted true tells number (read.meant ∙ ap meant_by is); len = read.len }
    of false (inl (number, is, tells)) octets before rest item b counted read = record { meant = laid_so b sound lines counted false tells number (read.meant ∙ ap meant_by is) ∙ sym (ap meant_by is); len = read.len }
    of true (inr (none, other)) octets before rest item b counted read = absurd (cc)
    of false (inr (none, inl off)) octets before rest item b counted read = read_unfilled b off read
    of false (inr (none, inr (tag, is))) octets before rest item b counted read = read_tag b (λ number char. let wrong : known.Tag tag ≡ Char number = sym is ∙ char in absurd cc) read

-- THE WHOLE AREA

module _ (sign : SignData) (items rest : List Meaning) where
  abbrev here : Standing
  here = standing sign items

  -- the lines of the present area are filled to one width in the whole string
  widths : HasWidth Words here.rectangle.width here.area (spots sign (items ++ rest))
  widths = first_of (search (rules, All-weaker, same_rectangle), grind (arith, All-weaker, same_rectangle))

  -- its groups as they are laid out
  groups : (j : ℕ) → in_group j (in_area here.area (laid Words (spots sign (items ++ rest)) (spots sign (items ++ rest)))) ≡ filled (Some here.rectangle.width) (in_group j (in_area here.area (spots sign (items ++ rest))))
  groups = groups_laid Words here.rectangle.width here.area (spots sign (items ++ rest)) (record { at = here; put = Break None }) refl widths

-- the groups of the present area as it is laid out are its groups, filled
pub laid_group_is : (sign : SignData) (items : List Meaning) (j : ℕ) → in_group j (present_area sign (laid_items Words sign items items)) ≡ filled (Some (standing sign items).rectangle.width) (in_group j (present_area sign items))
laid_group_is sign items j = grind (arith, are_laid Words sign items items [] (sym (append-nil items)), groups sign items [] j, append-nil items)

-- the groups of the present area, laid out among the items so far, are those among all, where the area ends after them
same_groups : (sign : SignData) (items rest : List Meaning) → EndsArea rest → (j : ℕ)
    → in_group j (in_area (standing sign items).area (spots sign (laid_items Words sign (items ++ rest) (items ++ rest)))) ≡ in_group j (present_area sign (laid_items Words sign items items))
same_groups sign items rest ends j =
    let all = items ++ rest in
    grind (arith, are_laid Words sign items items [] (sym (append-nil items)), are_laid Words sign all all [] (sym (append-nil all)), groups sign items rest j, area_ends sign items rest ends, groups sign items [] j, append-nil items)

-- so a table that has its lines among the items so far has them among all
pub counted_whole : (sign : SignData) (items rest : List Meaning) → EndsArea rest → (table : LineTable) → HasCounted (present_area sign (laid_items Words sign items items)) table
    → HasCounted (in_area (standing sign items).area (spots sign (laid_items Words sign (items ++ rest) (items ++ rest)))) table
counted_whole sign items rest ends table counted = λ just low high. counted just low high ∙ ap (λ g. table_of (lines_of g)) (sym (same_groups sign items rest ends just))

-- ITS ROOM

module _ (sign : SignData) where
  abbrev pub as_laid : List Meaning → List Meaning
  as_laid items = laid_items Words sign items items

  -- the present area fits
  abbrev Fits : List Meaning → Type 0
  Fits items = area_fits (standing sign items).rectangle.height (present_area sign (as_laid items)) ≡ true

  standing_here : (items : List Meaning) → standing sign (as_laid items) ≡ standing sign items
  standing_here items = (are_laid Words sign items items [] (sym (append-nil items))).0

  pub laid_fits_next : (items : List Meaning) (x : Meaning) → offence Words sign items x ≡ None → Fits items → Fits (items ++ x ∷ [])
  laid_fits_next items (Shows number) fine fits = elim (cases_Option (cell_numbered (standing sign items).font number)) [
    | inl none ↦ grind (arith, offends_without sign items number none)
    | inr (cell, e) ↦ let new = area_with sign items number cell e in let offends = offends_by sign items number cell e in grind (arith, standing_push sign items (Shows number), new, offends)
  ]
  laid_fits_next items (Does tag) fine fits = first_of (search (rules, fits_next, laid_tag, offends_as_laid, standing_here), grind (arith, fits_next, laid_tag, offends_as_laid, standing_here))
  laid_fits_next items (Faulty code) fine fits = let wrong : ◌≡◌ {A = Option ℕ} (Some code) None = sym (offence-faulty (too_big Words) sign items code) ∙ fine in absurd cc

  -- after the items of an accepted string it does
  pub laid_fits_always : sign.line_fill ≡ Words → (items : List Item) → offences sign items ≡ [] → Fits (map meaning items)
  laid_fits_always words = push_ind (λ items. offences sign items ≡ [] → Fits (map meaning items)) (λ none. fits_first sign) (λ items item ih none.
      let (earlier, here) = last_fine sign items item none in
      rw map-append (laid_fits_next (map meaning items) (meaning item) (rw (sym words) here) (ih earlier)))

-- the lines of that area are few and narrow
module _ (sign : SignData) (sound : IsSound sign) (words : sign.line_fill ≡ Words) (items : List Item) (none : offences sign items ≡ []) where
  abbrev all_read : List Meaning
  all_read = map meaning items

  high : area_fits (standing sign (as_laid sign all_read)).rectangle.height (present_area sign (as_laid sign all_read)) ≡ true
  high = ap (λ (t : Standing). area_fits t.rectangle.height (present_area sign (as_laid sign all_read))) (standing_here sign all_read) ∙ laid_fits_always sign words items none

  down : (standing sign (as_laid sign all_read)).rectangle.height ≤ sign.height
  down = subst (λ (t : Standing). t.rectangle.height ≤ sign.height) (sym (standing_here sign all_read)) (rectangle_within sign never_big all_read (orderly_items sign items none))

  across : (standing sign (as_laid sign all_read)).rectangle.width ≤ sign.width
  across = subst (λ (t : Standing). t.rectangle.width ≤ sign.width) (sym (standing_here sign all_read)) (rectangle_width_within sign never_big all_read (orderly_items sign items none))

  pub laid_room : HasRoom (present_area sign (as_laid sign all_read))
  laid_room = room_of sign sound sound.font (as_laid sign all_read) high down

  pub laid_narrow : (kept : Pass) → IsFilledOf sign all_read kept → IsNarrowArea (present_area sign (as_laid sign all_read))
  laid_narrow kept of =
      let group : (j : ℕ) → in_group j (present_area sign (as_laid sign all_read)) ≡ filled (Some (standing sign all_read).rectangle.width) (in_group j (present_area sign all_read)) = laid_group_is sign all_read in
      narrow_of sign sound (as_laid sign all_read)
      (λ j. (λ i. line_fits (standing_here sign all_read i).rectangle.width (after_last is_break (group j i))) ∙ of.fits j) high across down

module _ (setting : LineFill) (sign : SignData) (items all more : List Meaning) (split : all ≡ items ++ more) where
  same_largest : largest (λ (t : Spot). page_number t.at.page_just) (present_area sign (laid_items setting sign all items)) ≡ largest (λ (t : Spot). page_number t.at.page_just) (present_area sign items)
  same_largest = grind (arith, are_laid setting sign all items more split, spots_append sign items more, largest_laid)

  -- the present area is empty if that of the laid items is
  pub area_empty : present_area sign (laid_items setting sign all items) ≡ [] → present_area sign items ≡ []
  area_empty none = empty_area (present_area sign items) (sym same_largest ∙ ap (largest (λ (t : Spot). page_number t.at.page_just)) none)

  -- and the other way round
  pub laid_empty : present_area sign items ≡ [] → present_area sign (laid_items setting sign all items) ≡ []
  laid_empty none = empty_area (present_area sign (laid_items setting sign all items)) (same_largest ∙ ap (largest (λ (t : Spot). page_number t.at.page_just)) none)

-- where an area begins, the state of the items laid out among these is that of them laid out among others
pub state_among : (setting : LineFill) (sign : SignData) (items all more all' more' : List Meaning) → all ≡ items ++ more → all' ≡ items ++ more' → present_area sign items ≡ [] → (state : State)
    → IsStateOf sign (laid_items setting sign all items) state → IsStateOf sign (laid_items setting sign all' items) state
state_among setting sign items all more all' more' split split' none state = grind (arith, common_steps, are_laid, state_moved, same_times, pages_at, laid_empty)
