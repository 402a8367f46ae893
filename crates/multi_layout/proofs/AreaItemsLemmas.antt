-- The first reading of an area: what is kept of its items so far, one more of them, and its end.
use Rattle.multi_layout.proofs.Common.{same_area, IsItemAt, ◌≡◌, ℕ, Bool, true, ◌+◌, false, inl, slice_get, None, length, map, List, [], ◌∷◌, ◌++◌, Some, refl, sym, ap, subst, ◌∙◌, arith, append_assoc, append-nil, rules, map-append, Item, Words, SignData, IsSound, in_area, spots, standing, laid_items, EndsArea, Meaning, begins_area, meaning, present_area, fault_at, offences, are_laid, laid_plain, area_ends, left_nil, some_after-append, Area, NextItem, Pass, State, LineTable, laid_area, IsFilledOf, meant_by, IsPassOf, fill_of, IsStateOf, group_lines, at_end, Cursor, AreaLines, IsNextRead, IsReadOf, BeginsNoArea, HasCounted, IsInArea, IsBetween, IsFirst, IsPlaced, items_of, laid_meanings, meant, LaidItem, spell_of, length-append, All-nil, All-push, limited_none, group_known, EndsGroup}
use Rattle.multi_layout.proofs.AreaReadLemmas.{narrow_of, present_placing, read_state}
use Rattle.multi_layout.proofs.FilledLemmas.{state_among, area_empty, laid_empty, counted_whole}
use Rattle.multi_layout.proofs.KnownLinesLemmas.{counted_at_end, known_none}
use Rattle.multi_layout.proofs.PieceLemmas.{FirstPiece, ends_laid, first_piece, plain_laid}
use Rattle.multi_layout.proofs.WalkLemmas.{laid_parts, meanings_split, item_is, fine_items, none_at_end, placed_more, spell_of-append, within}

-- the reading so far: the pieces read and left, none of which begins an area, and what is kept of the items up to there
pub record SoFar (words : Bool) (sign : SignData) (octets : List ℕ) (before behind : List LaidItem) (at : ℕ) (kept : Pass) (lines : LineTable) : Type 0 where
  pub pieces : List LaidItem
  pub left : List LaidItem
  pub split : behind ≡ pieces ++ left
  pub plain : BeginsNoArea pieces
  pub same_area : (standing sign (map meaning (items_of (before ++ pieces)))).area ≡ (standing sign (map meant before)).area
  pub laid : map meant ((before ++ pieces) ++ left) ≡ laid_meanings sign (items_of ((before ++ pieces) ++ left))
  pub placed : IsPlaced sign octets (items_of (before ++ pieces)) (items_of left) at
  pub read : IsReadOf words sign (items_of (before ++ pieces)) kept.state.area.present kept lines

-- where an area begins after pieces
module _ (words : Bool) (sign : SignData) (kind : sign.line_fill ≡ fill_of words) (before behind : List LaidItem) (laid : map meant (before ++ behind) ≡ laid_meanings sign (items_of (before ++ behind)))
    (begins : present_area sign (map meant before) ≡ []) where
  abbrev ms : List Meaning
  ms = map meaning (items_of before)

  abbrev rest : List Meaning
  rest = map meaning (items_of behind)

  front : map meant before ≡ laid_items (fill_of words) sign (ms ++ rest) ms
  front = (laid_parts sign kind before behind laid).0

  no_items : present_area sign ms ≡ []
  no_items = area_empty (fill_of words) sign ms (ms ++ rest) rest refl (ap (present_area sign) (sym front) ∙ begins)

  -- the state laid out among all items is that laid out among those so far
  pub state_laid : (state : State) → IsStateOf sign (laid_items (fill_of words) sign ms ms) state → IsStateOf sign (map meant before) state
  state_laid state st = subst (λ l. IsStateOf sign l state) (sym front) (state_among (fill_of words) sign ms ms [] (ms ++ rest) rest (sym (append-nil ms)) refl no_items state st)

  -- and the other way round
  state_so_far : (state : State) → IsStateOf sign (map meant before) state → IsStateOf sign (laid_items (fill_of words) sign ms ms) state
  state_so_far state st = state_among (fill_of words) sign ms (ms ++ rest) rest ms [] refl (sym (append-nil ms)) no_items state (subst (λ l. IsStateOf sign l state) front st)

  no_laid : present_area sign (laid_items (fill_of words) sign ms ms) ≡ []
  no_laid = laid_empty (fill_of words) sign ms ms [] (sym (append-nil ms)) no_items

  -- before the first item
  module _ {octets : List ℕ} {cursor : Cursor} (b : IsBetween sign octets before behind cursor) where
    made_of : (kept : Pass) → kept.state ≡ cursor.state → (IsStateOf sign (laid_items Words sign ms ms) cursor.state → present_area sign ms ≡ [] → IsFilledOf sign ms kept) → offences sign (items_of before) ≡ []
        → (by : Bool) → sign.line_fill ≡ fill_of by → IsStateOf sign (laid_items (fill_of by) sign ms ms) cursor.state → IsPassOf by sign kept ms
    made_of kept same made fine by is st = grind (arith, no_items, laid_plain, fine_items, limited_none)

    pub nothing_read : (kept : Pass) → kept.state ≡ cursor.state
        → ((sign : SignData) (items : List Meaning) → IsStateOf sign (laid_items Words sign items items) cursor.state → present_area sign items ≡ [] → IsFilledOf sign items kept)
        → (lines : LineTable) → ((just : ℕ) → group_lines just lines ≡ []) → SoFar words sign octets before behind cursor.at kept lines
    nothing_read kept same made lines empty =
        let fine = left_nil (offences sign (items_of before)) _ (sym (some_after-append (fault_at sign) (items_of before) (items_of behind)) ∙ b.placed.accepted.none) in
        let all : before ++ [] ≡ before = append-nil before in
        grind (arith, are_laid (fill_of words) sign (ms ++ rest) ms rest refl, made_of kept same (made sign ms) fine words kind (state_so_far cursor.state b.state_is), All-nil, front, no_laid, known_none)

-- a table that has the lines of an area among the items so far has them among all
counted_among : (words : Bool) (sign : SignData) (items rest : List Meaning) → EndsArea rest → (table : LineTable) → HasCounted (laid_area words sign items) table
    → HasCounted (in_area (standing sign items).area (spots sign (laid_items (fill_of words) sign (items ++ rest) (items ++ rest)))) table
counted_among words sign items rest ends table counted = grind (arith, counted_whole, laid_plain, area_ends)

-- one more item
module _ {words : Bool} {sign : SignData} {octets : List ℕ} {before behind : List LaidItem} {at : ℕ} {kept : Pass} {lines : LineTable} (so : SoFar words sign octets before behind at kept lines) where
  abbrev done : List LaidItem
  done = before ++ so.pieces

  -- an item is read, in the same octets
  pub so_read : {octets' : List ℕ} → octets' ≡ octets → (next : NextItem) → IsItemAt octets' at next.len (meant_by next.item) → FirstPiece so.left next
  so_read same next is = first_piece so.left next (item_is sign octets (items_of done) (items_of so.left) at so.placed same next is)

  module _ (next : NextItem) (n : FirstPiece so.left next) where
    placed_then : (new : ℕ) → new ≡ at + next.len → IsPlaced sign octets (items_of done ++ n.0.item ∷ []) (items_of n.1) new
    placed_then new to = placed_more sign octets (items_of done) (items_of n.1) n.0.item at (subst (λ l. IsPlaced sign octets (items_of done) (items_of l) at) n.2 so.placed) new (omega (arith, to, n.3.len))

    -- it doesn't offend
    pub so_next : IsNextRead sign (items_of done) n.0.item next.item
    so_next = first_of (search (rules, left_nil, placed_then, some_after-append), grind (arith, left_nil, placed_then, some_after-append))

    pub read_on : (new : ℕ) → new ≡ at + next.len → begins_area (meant_by next.item) ≡ false → (kept' : Pass) (lines' : LineTable)
        → IsReadOf words sign (items_of done ++ n.0.item ∷ []) kept'.state.area.present kept' lines' → SoFar words sign octets before behind new kept' lines'
    read_on new to plain kept' lines' read =
        let again : done ++ n.0 ∷ [] ≡ before ++ (so.pieces ++ n.0 ∷ []) = append_assoc before so.pieces (n.0 ∷ []) in
        let items : items_of done ++ n.0.item ∷ [] ≡ items_of (before ++ (so.pieces ++ n.0 ∷ [])) = sym (map-append (λ (p : LaidItem). p.item) done (n.0 ∷ [])) ∙ ap items_of again in
        let ms = map meaning (items_of done) in
        let m = meaning n.0.item in
        let plain' : begins_area m ≡ false = ap begins_area n.3.meant ∙ plain in
        let here : map meaning (items_of (before ++ (so.pieces ++ n.0 ∷ []))) ≡ ms ++ m ∷ [] = ap (map meaning) (sym items) ∙ map-append meaning (items_of done) (n.0.item ∷ []) in
        let laid : map meant (done ++ n.0 ∷ n.1) ≡ laid_meanings sign (items_of (done ++ n.0 ∷ n.1)) = subst (λ l. map meant (done ++ l) ≡ laid_meanings sign (items_of (done ++ l))) n.2 so.laid in
        let all : done ++ n.0 ∷ n.1 ≡ (before ++ (so.pieces ++ n.0 ∷ [])) ++ n.1 = sym (append_assoc done (n.0 ∷ []) n.1) ∙ ap (λ l. l ++ n.1) again in
        record {
          pieces = so.pieces ++ n.0 ∷ [];
          left = n.1;
          split = so.split ∙ ap (λ l. so.pieces ++ l) n.2 ∙ sym (append_assoc so.pieces (n.0 ∷ []) n.1);
          plain = All-push (λ item. begins_area (meant item) ≡ false) so.pieces n.0 so.plain (plain_laid sign done n.1 n.0 laid plain');
          same_area = ap (λ l. (standing sign l).area) here ∙ same_area sign ms m plain' ∙ so.same_area;
          laid = subst (λ l. map meant l ≡ laid_meanings sign (items_of l)) all laid;
          placed = subst (λ l. IsPlaced sign octets l (items_of n.1) new) items (placed_then new to);
          read = subst (λ l. IsReadOf words sign l kept'.state.area.present kept' lines') items read;
        }

  -- at the end of the string no item is left
  pub no_more : slice_get octets at ≡ None → items_of so.left ≡ []
  no_more none = first_of (search (rules, at_end, none, none_at_end, within), grind (arith, at_end, none, none_at_end, within))

  pub none_ends : items_of so.left ≡ [] → EndsArea (map meaning (items_of so.left))
  none_ends none = subst (λ (l : List Item). EndsArea (map meaning l)) (sym none) (inl refl)

  -- an item that begins an area ends this one
  pub area_ended : (next : NextItem) → IsFirst (items_of so.left) (Some next) → begins_area (meant_by next.item) ≡ true → EndsArea (map meaning (items_of so.left))
  area_ended next first begins = grind (arith)

  -- the table has all lines after the last one
  pub all_counted : IsSound sign → (lines' : LineTable) → EndsGroup kept.state.area lines lines' → HasCounted (laid_area words sign (map meaning (items_of done))) lines'
  all_counted sound lines' known =
      let ms = map meaning (items_of done) in
      let laid = laid_items (fill_of words) sign ms ms in
      let st = read_state sound so.read in
      let present = kept.state.area.present in
      let is = ap (λ (a : Area). a.present) st.area in
      counted_at_end (present_area sign laid) lines' (present + 1) (omega (arith, is)) (omega (arith, is, group_known (present_area sign laid) kept.state.area st.area))
      (known (present + 1) (omega arith) (present_area sign laid) (present_placing sign laid) (narrow_of sign sound (items_of done) so.read.none words kept so.read.of) st.area so.read.known)

  -- the end of the area
  pub area_read : sign.line_fill ≡ fill_of words → (start : Cursor) (read : AreaLines) → start.at ≡ length (spell_of before) → EndsArea (map meaning (items_of so.left))
      → HasCounted (laid_area words sign (map meaning (items_of done))) read.lines → read.end ≡ at → IsFirst (items_of so.left) read.next → IsInArea sign read before behind start
  area_read kind start read place ends counted end first = grind (arith, spell_of-append before so.pieces, length-append (spell_of before) (spell_of so.pieces), append_assoc before so.pieces so.left, meanings_split done so.left, ends_laid sign done so.left so.laid ends, counted_among words sign (map meaning (items_of done)) (map meaning (items_of so.left)) ends read.lines counted)
