-- A character stands beside the one before it, where both have the same attributes.
use Rattle.multi_layout.proofs.Common.{Full, not-false, ◌*◌, ◌⊎◌, inl, inr, state-limits, area_of, IfSome, not, spelling_some, IsBeside, CountedLine, meant_by, Option, ◌≡◌, ℕ, ◌+◌, ◌-◌, ◌^◌, ◌<◌, ◌≤◌, Bool, true, false, cond, ◌==◌, List, [], ◌∷◌, ◌++◌, length, take, map, Some, None, refl, sym, ap, subst, ◌∙◌, arith, append_assoc, rules, if◌then◌else◌, count_by, option_map, unwrap_or, eq-eqb, line_number, page_number, BitPlane, SignData, CellData, cell_in, cell_numbered, Place, Glyph, Put, Spot, Standing, group_of, in_area, in_group, is_break, is_glyph, lines_of, segment, spots, standing, glyph_width, height_of, width_of, Meaning, Shows, unsized_offence, place_of, standing_push, Attributes, Cursor, NextItem, Layer, State, AreaLines, HasCounted, IsAreaDrawn, IsNextDrawn, IsRunDrawn, StandsAt, IsBetween, meant, IsBehindCharacter, lengthened_by, IsStateOf, PlacesCharacter, attributes_of, area_sum, group_lines, unsized-undefined, state_beside, conflicts, behind_added, character-accepted, character-free, slice_index_or, sum_by_push, line_before, glyph_put, own_group, filter_yes, width_push, spots_more, last_or_push, DrawsCharacter, NextStandsAt, behind_stays, average_same}
use Rattle.multi_judge.specs.internal.Adding.{AddsCharacter, character_of}
use Rattle.multi_tag.specs.declared.just.LineJust.{LineJust}
use Rattle.sign_font.specs.Cell.{SizedCell}
use Rattle.multi_meaning.specs.Place.{spread, start}
use Rattle.multi_judge.specs.declared.item.KnownItem.TheVariants as known
use Rattle.multi_layout.proofs.AreaDrawLemmas.{area_more}
use Rattle.multi_layout.proofs.DrawLemmas.{glyph_found, stands_at}
use Rattle.multi_judge.proofs.LineSumLemmas.{present_push}
use Rattle.multi_layout.proofs.WalkLemmas.{between_more, map_split, never_offends}

not_five : (just : LineJust) → (just ≡ Full → ⊥) → (line_number just == 5) ≡ false
not_five just other = grind (arith)

-- TWO CHARACTERS WITH THE SAME VALUES IN FORCE

module _ (at : Standing) (before all : List Spot) (p q : Put) (first : is_glyph (record { at = at; put = p }) ≡ true) (apart : (line_number at.line_just == 5) ≡ false) where
  abbrev s : Spot
  s = record { at = at; put = p }

  abbrev t : Spot
  t = record { at = at; put = q }

  area_is : in_area at.area (before ++ s ∷ []) ≡ in_area at.area before ++ s ∷ []
  area_is = first_of (search (rules, eq-eqb, filter_yes), grind (arith, eq-eqb, filter_yes))

  group_is : group_of t (before ++ s ∷ []) ≡ group_of t before ++ s ∷ []
  group_is = ap (in_group (page_number at.page_just)) area_is ∙ own_group (page_number at.page_just) (in_area at.area before) s refl

  count_is : count_by is_break (group_of t (before ++ s ∷ [])) ≡ count_by is_break (group_of t before)
  count_is = first_of (search (rules, glyph_put, group_is, sum_by_push), grind (arith, glyph_put, group_is, sum_by_push))

  abbrev part : List Spot
  part = segment (line_number at.line_just) (line_before before t)

  part_is : segment (line_number at.line_just) (line_before (before ++ s ∷ []) t) ≡ part ++ s ∷ []
  part_is = first_of (search (rules, eq-eqb, filter_yes, group_is, present_push), grind (arith, eq-eqb, filter_yes, group_is, present_push))

  width_is : width_of ((part ++ s ∷ []) ++ t ∷ []) ≡ width_of (part ++ s ∷ []) + unwrap_or at.spacing at.font.char_spacing + glyph_width t
  width_is = first_of (search (rules, average_same, last_or_push, width_push), grind (arith, average_same, last_or_push, width_push))

  abbrev lines : List (List Spot)
  lines = lines_of (group_of t all)

  -- a place, by the ended lines and the segment before it
  abbrev place_behind : ℕ → List Spot → Spot → Place
  place_behind k before spot =
      let own = segment (line_number at.line_just) (slice_index_or lines k []) in
      record {
        column = at.rectangle.left + start (line_number at.line_just) at.rectangle.width (width_of own)
            + (width_of (before ++ spot ∷ []) - glyph_width spot)
            + (if line_number at.line_just == 5 then spread (length before) (length own) (at.rectangle.width - width_of own) else 0);
        row = at.rectangle.top + start (page_number at.page_just) at.rectangle.height (height_of lines) + (height_of (take (k + 1) lines) - at.font.height);
      }

  place_first : place_of before all s ≡ place_behind (count_by is_break (group_of t before)) part s
  unfolding place_of
  place_first = refl

  place_second : place_of (before ++ s ∷ []) all t ≡ place_behind (count_by is_break (group_of t before)) (part ++ s ∷ []) t
  unfolding place_of
  place_second = λ i. place_behind (count_is i) (part_is i) t

  -- the second is beside the first
  pub beside : place_of (before ++ s ∷ []) all t ≡ record {
    column = (place_of before all s).column + (glyph_width s + unwrap_or at.spacing at.font.char_spacing);
    row = (place_of before all s).row;
  }
  beside =
      let k = count_by is_break (group_of t before) in
      let own = segment (line_number at.line_just) (slice_index_or lines k []) in
      let x = place_behind k part s in
      let y = place_behind k (part ++ s ∷ []) t in
      let one = ap (λ b. cond b (spread (length part) (length own) (at.rectangle.width - width_of own)) 0) apart in
      let two = ap (λ b. cond b (spread (length (part ++ s ∷ [])) (length own) (at.rectangle.width - width_of own)) 0) apart in
      let column : y.column ≡ x.column + (glyph_width s + unwrap_or at.spacing at.font.char_spacing) = omega (arith, width_is, width_push part s, one, two) in
      place_second
      ∙ (λ i. let p : Place = record { column = column i; row = x.row } in p)
      ∙ (λ i. let p : Place = record { column = (sym place_first i).column + (glyph_width s + unwrap_or at.spacing at.font.char_spacing); row = (sym place_first i).row } in p)

-- BEHIND A CHARACTER OF A STRING

-- a character leaves what is in force
pub same_standing : (sign : SignData) (before : List Meaning) (number : ℕ) → standing sign (before ++ Shows number ∷ []) ≡ standing sign before
same_standing sign before number = first_of (search (rules, standing_push), grind (arith, standing_push))

-- where the next character stands beside this one
pub next_stands : (sign : SignData) (before : List Meaning) (number : ℕ) (cell : CellData) (all : List Meaning) (place : Place) (gap : ℕ) → cell_numbered (standing sign before).font number ≡ Some cell
    → ((standing sign before).line_just ≡ Full → ⊥) → place ≡ place_of (spots sign before) (spots sign all) (record { at = standing sign before; put = Glyph cell })
    → gap ≡ unwrap_or (standing sign before).spacing (standing sign before).font.char_spacing
    → NextStandsAt sign (before ++ Shows number ∷ []) all (record { column = place.column + (cell.width + gap); row = place.row })
next_stands sign before number cell all place gap found apart stands gap_is = λ spot glyph at.
    let here = standing sign before in
    let s : Spot = record { at = here; put = Glyph cell } in
    let same : spot.at ≡ here = at ∙ same_standing sign before number in
    ap (λ l. place_of l (spots sign all) spot) (spots_more sign before (Shows number) (Glyph cell) (ap (option_map Glyph) found))
    ∙ ap (λ a. place_of (spots sign before ++ s ∷ []) (spots sign all) (record { at = a; put = spot.put })) same
    ∙ beside here (spots sign before) (spots sign all) (Glyph cell) spot.put refl (not_five here.line_just apart)
    ∙ (λ i. let p : Place = record { column = (sym stands i).column + (cell.width + sym gap_is i); row = (sym stands i).row } in p)

-- the same, from what is kept
pub beside_stands : (sign : SignData) (items : List Meaning) (state : State) → IsStateOf sign items state → (number : ℕ) (cell : SizedCell) → cell_in sign state.attributes.font.number number ≡ Some cell
    → (all : List Meaning) (place : Place) (gap : ℕ) → (state.attributes.line_just ≡ Full → ⊥) → gap ≡ unwrap_or state.attributes.spacing state.attributes.font.char_spacing
    → ((c : CellData) → cell_numbered (standing sign items).font number ≡ Some c → place ≡ place_of (spots sign items) (spots sign all) (record { at = standing sign items; put = Glyph c }))
    → NextStandsAt sign (items ++ Shows number ∷ []) all (record { column = place.column + (cell.width + gap); row = place.row })
beside_stands sign items state st number cell found all place gap apart gap_is stands =
    let (c, numbered, is) = glyph_found sign items state st number cell found in
    let width : c.width ≡ cell.width = ap (λ (z : SizedCell). z.width) is in
    let just : state.attributes.line_just ≡ (standing sign items).line_just = ap (λ (a : Attributes). a.line_just) st.attributes in
    let between = gap_is ∙ ap (λ (a : Attributes). unwrap_or a.spacing a.font.char_spacing) st.attributes in
    subst (λ n. NextStandsAt sign (items ++ Shows number ∷ []) all (record { column = place.column + (n + gap); row = place.row })) width
    (next_stands sign items number c all place gap numbered (λ e. apart (just ∙ e)) (stands c numbered) between)

-- ONE MORE CHARACTER

module _ {sign : SignData} {octets : List ℕ} {layer : Layer} {page : ℕ} {read : AreaLines} {next : NextItem} {beside : Option Place} {cursor : Cursor} {plane : BitPlane}
    (n : IsNextDrawn sign octets layer page read next beside cursor plane) {number : ℕ} (char : next.item ≡ known.Char number) where
  abbrev items : List Meaning
  items = map meant n.before

  pub shows : meant n.item ≡ Shows number
  shows = n.read_is.meant ∙ ap meant_by char

  with : map meant (n.before ++ n.item ∷ []) ≡ items ++ Shows number ∷ []
  with = map_split n.before [] n.item (Shows number) shows

  fine : unsized_offence sign items (Shows number) ≡ None
  fine = ap (unsized_offence sign items) (sym shows) ∙ never_offends sign octets n.before n.rest n.item cursor n.up_to.between

  -- it has a cell
  pub has_cell : cell_in sign cursor.state.attributes.font.number number ≡ None → ⊥
  has_cell none = first_of (search (rules, unsized-undefined, fine), grind (arith, unsized-undefined, fine))

  -- where this is its cell, and how far the next one stands from it
  module _ {cell : SizedCell} (found : cell_in sign cursor.state.attributes.font.number number ≡ Some cell) (small : cell.width ≤ 64) {gap : ℕ} (gap_is : gap ≡ unwrap_or cursor.state.attributes.spacing cursor.state.attributes.font.char_spacing) (narrow : gap ≤ 255)
      {advance : ℕ} (advance_is : advance ≡ cell.width + gap) where
    -- it is put as a new one
    pub record IsAdded (new : State) : Type 0 where
      pub width : ℕ
      pub wide : width ≡ cell.width
      pub free : Bool
      pub clash : (before : List Spot) (s : Spot) → cursor.state.area ≡ area_sum (area_of s before) → is_glyph s ≡ true → s.at.page_just ≡ cursor.state.attributes.page_just → s.at.line_just ≡ cursor.state.attributes.line_just → not free ≡ conflicts before s
      pub added : free ≡ true → AddsCharacter cursor.state width new

    -- it stands at this place, and this is the state after it
    pub record IsPut (place : Place) (new : State) : Type 0 where
      pub state_is : IsStateOf sign (items ++ Shows number ∷ []) new
      pub character : IsBehindCharacter new
      pub stands : StandsAt sign items number (map meant n.rest) place
      pub low : place.column < 2 ^ 33 + 510 * cursor.at

    module _ {new : State} (a : IsAdded new) where
      adds : AddsCharacter cursor.state a.width new
      adds = a.added (not-false a.free (character-free sign items cursor.state n.up_to.between.state_is number cell found (not a.free) a.clash fine))

      state_added : IsStateOf sign (items ++ Shows number ∷ []) new
      state_added =
          let accepted = character-accepted sign items cursor.state n.up_to.between.state_is number cell found (character_of cursor.state.attributes a.width) refl refl a.wide refl new.area adds.sum fine in
          state-limits sign (items ++ Shows number ∷ []) cursor.state new adds.same accepted

      added_put : {lines : List CountedLine} → lines ≡ group_lines (page_number new.attributes.page_just) read.lines → {place : Place} → PlacesCharacter new.attributes new.area lines a.width place → place.column < 2 ^ 33 → IsPut place new
      added_put {lines} lines_is {place} placed low =
          let counted = subst (λ (ms : List Meaning). HasCounted (in_area (standing sign items).area (spots sign ms)) read.lines) (map_split n.before n.rest n.item (Shows number) shows) n.left.counted in
          let same : new.attributes ≡ cursor.state.attributes = ap (λ (s : State). s.attributes) adds.same in
          record {
            state_is = state_added;
            character = behind_added cursor.state new a.width adds;
            stands = stands_at sign items cursor.state n.up_to.between.state_is number cell found (map meant n.rest) read.lines counted place new.area state_added.area
                (subst (λ (x : Attributes × ℕ). PlacesCharacter x.0 new.area (group_lines (page_number x.0.page_just) read.lines) x.1 place) (λ i. (same i, a.wide i)) (subst (λ l. PlacesCharacter new.attributes new.area l a.width place) lines_is placed)) fine;
            low = omega (arith, low);
          }

    -- beside the one before it, or by the lines of its area
    abbrev pub IsPutSo : Place → State → Type 0
    IsPutSo place new =
        ((beside ≡ Some place) × (new ≡ lengthened_by advance 1 cursor.state))
        ⊎ ((a : IsAdded new) × (lines : List CountedLine) × (lines ≡ group_lines (page_number new.attributes.page_just) read.lines) × PlacesCharacter new.attributes new.area lines a.width place × (place.column < 2 ^ 33))

    is_put : {place : Place} {new : State} → IsPutSo place new → IsPut place new
    is_put {place} {new} (inl (given, is)) =
        let b : IsBeside sign n.before (n.item ∷ n.rest) cursor place = subst (λ o. IfSome o (IsBeside sign n.before (n.item ∷ n.rest) cursor)) given n.stands in
        let longer : gap + cell.width ≡ advance = omega (arith, advance_is) in
        subst (IsPut place) (sym is) (record {
          state_is = subst (λ k. IsStateOf sign (items ++ Shows number ∷ []) (lengthened_by k 1 cursor.state)) longer
              (state_beside cursor.state b.character gap gap_is cell sign items n.up_to.between.state_is number found fine);
          character = behind_stays cursor.state _ _ b.character;
          stands = λ c numbered. sym (subst (λ ms. NextStandsAt sign items ms place) (map_split n.before n.rest n.item (Shows number) shows) b.stands (record { at = standing sign items; put = Glyph c }) refl refl);
          low = b.low;
        })
    is_put (inr (a, counted, lines_is, placed, low)) = added_put a lines_is placed low

    -- so it is drawn
    module _ (place : Place) (new : State) (so : IsPutSo place new) where
      pub is : IsPut place new
      is = is_put so

      abbrev cursor' : Cursor
      cursor' = record { at = cursor.at + next.len; state = new }

      pub between : IsBetween sign octets (n.before ++ n.item ∷ []) n.rest cursor'
      between = between_more sign octets n.before n.rest n.item cursor n.up_to.between cursor' (ap (λ k. cursor.at + k) n.read_is.len) (subst (λ (m : Meaning). IsStateOf sign (items ++ m ∷ []) new) (sym shows) is.state_is)

      pub same : new.attributes ≡ cursor.state.attributes
      same = is.state_is.attributes ∙ ap attributes_of (same_standing sign items number) ∙ sym n.up_to.between.state_is.attributes

      module _ {plane' : BitPlane} (put : DrawsCharacter sign layer new.attributes cell place plane plane') where
        abbrev character_drawn : IsAreaDrawn sign octets layer page read cursor' plane'
        character_drawn = area_more n (Shows number) shows refl cursor' plane' between refl
            (subst (λ a. DrawsCharacter sign layer a cell place plane plane') same put items (map meant n.rest) cursor.state number n.up_to.between.state_is refl found is.stands)

        -- and the next stands beside it where the line isn't full
        pub run_drawn : (beside' : Option Place) → (beside' ≡ None) ⊎ ((beside' ≡ Some (record { column = place.column + advance; row = place.row })) × (new.attributes.line_just ≡ Full → ⊥)) → IsRunDrawn sign octets layer page read beside' cursor' plane'
        run_drawn beside' (inl none) = rw none (record { so = character_drawn; stands = tt })
        run_drawn beside' (inr (beside_is, apart)) =
            let all : map meant ((n.before ++ n.item ∷ []) ++ n.rest) ≡ items ++ Shows number ∷ map meant n.rest = ap (map meant) (append_assoc n.before (n.item ∷ []) n.rest) ∙ map_split n.before n.rest n.item (Shows number) shows in
            let there = beside_stands sign items cursor.state n.up_to.between.state_is number cell found (items ++ Shows number ∷ map meant n.rest) place gap (λ full. apart (ap (λ (a : Attributes). a.line_just) same ∙ full)) gap_is is.stands in
            rw beside_is (record {
              so = character_drawn;
              stands = record {
                stands = subst (λ (x : List Meaning × List Meaning × ℕ). NextStandsAt sign x.0 x.1 (record { column = place.column + x.2; row = place.row })) (λ i. (sym with i, sym all i, sym advance_is i)) there;
                character = is.character;
                apart = apart;
                low = omega (arith, is.low, narrow, small, advance_is, n.read_is.len, spelling_some n.item.item);
              };
            })
