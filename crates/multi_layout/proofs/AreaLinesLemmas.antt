-- The first reading of an area from a cursor on, which goes past the settings before the first other item; and its runs.
use Rattle.multi_layout.proofs.Common.{IsDrawnUpTo, is_setting, IsItemAt, ◌≡◌, ℕ, Bool, true, ◌+◌, ◌-◌, ◌<◌, ◌≤◌, false, ◌⊎◌, inl, inr, slice_get, None, length, map, List, [], ◌∷◌, ◌++◌, Some, Option, refl, sym, ap, subst, ◌∙◌, arith, append-nil, ◌^◌, map-append, unwrap_or, IsPlain, spelling_some, SignData, cell_in, IsSound, standing, laid_items, EndsArea, begins_area, meaning, Shows, present_area, NextItem, Pass, State, LineTable, meant_by, fill_of, IsStateOf, width_in, unsized_if, IsBehindCharacter, lengthened_by, behind_stays, state_beside, cell_of_width, Cursor, AreaLines, IsReadOf, IsFirst, IsPlaced, items_of, laid_meanings, meant, LaidItem, spell_of, Layer, BitPlane, IsPageDrawn, IsAreaDrawn, spelling, length-append, All-nil, present_area-nothing, same_area, IsRunPassed, front_taken, lengthened_more, lengthened_none, plain_passed, EndsGroup, ReadsOn}
use Rattle.multi_layout.proofs.AreaReadLemmas.{next_fine, read_state, step_stays}
use Rattle.multi_layout.proofs.PieceLemmas.{read_unplaced, first_piece}
use Rattle.multi_layout.proofs.DrawLemmas.{same_drawn}
use Rattle.multi_layout.proofs.AreaDrawLemmas.{drawn_more, setting_is}
use Rattle.multi_layout.proofs.WalkLemmas.{between_more, item_is, map_split, spell_of-append, within, octet_item}
use Rattle.multi_judge.specs.declared.item.KnownItem.TheVariants as known
use Rattle.multi_layout.proofs.AreaItemsLemmas.{SoFar, all_counted, area_ended, area_read, no_more, none_ends, read_on, so_next, so_read, state_laid}

-- pieces that are spelled as the first of them are that one
one_piece : (pieces left rest : List LaidItem) (item : LaidItem) → pieces ++ left ≡ item ∷ rest → length (spell_of pieces) ≡ length (spelling item.item) → (pieces ≡ item ∷ []) × (left ≡ rest)
one_piece [] left rest item split long = absurd (omega (arith, long, spelling_some item.item))
one_piece (p ∷ []) left rest item split long = (cc, cc)
one_piece (p ∷ q ∷ pieces) left rest item split long =
    let first : p ≡ item = cc in
    absurd (omega (arith, long, ap (λ (x : LaidItem). length (spelling x.item)) first, spelling_some q.item, length-append (spelling p.item) (spell_of (q ∷ pieces)), length-append (spelling q.item) (spell_of pieces)))

-- the area that begins at a cursor is read so far, of a page that is drawn as far as there
pub record IsReadFrom (words : Bool) (sign : SignData) (octets : List ℕ) (layer : Layer) (page : ℕ) (plane : BitPlane) (cursor : Cursor) (at : ℕ) (kept : Pass) (lines : LineTable) : Type 0 where
  pub drawn : IsPageDrawn sign octets layer page cursor plane
  pub so : SoFar words sign octets drawn.before drawn.behind at kept lines

-- after a setting before which nothing else was read the cursor stands after it, and else where it was (own)
abbrev pub GoesOn : Cursor → ℕ → NextItem → State → Cursor → Type 0
GoesOn cursor at next state cursor' =
    ((cursor.at ≡ at) × (is_setting (meant_by next.item) ≡ true) × (cursor' ≡ record { at = cursor.at + next.len; state = state })) ⊎ (cursor' ≡ cursor)

-- it isn't after what was read
pub goes_within : {cursor cursor' : Cursor} {at : ℕ} (next : NextItem) {state : State} → GoesOn cursor at next state cursor' → cursor.at ≤ at → (cursor.at ≤ cursor'.at) × (cursor'.at ≤ at + next.len)
goes_within next goes on = grind (arith)

-- an item is passed that begins no area
module _ {words : Bool} {sign : SignData} {octets : List ℕ} {layer : Layer} {page : ℕ} {plane : BitPlane} {cursor : Cursor} {at : ℕ} {kept : Pass} {lines : LineTable} (r : IsReadFrom words sign octets layer page plane cursor at kept lines)
    {octets' : List ℕ} (same : octets' ≡ octets) (next : NextItem) (is : IsItemAt octets' at next.len (meant_by next.item)) (plain : begins_area (meant_by next.item) ≡ false) (kept' : Pass) (lines' : LineTable)
    (reads : ReadsOn words sign kept.state.area.present next.item kept lines kept' lines') where
  pub so_then : SoFar words sign octets r.drawn.before r.drawn.behind (at + next.len) kept' lines'
  so_then = let n = so_read r.so same next is in read_on r.so next n (at + next.len) refl plain kept' lines' (reads (items_of (r.drawn.before ++ r.so.pieces)) n.0.item r.so.read (so_next r.so next n))

  -- with a setting, where nothing else was read, the cursor goes past it
  pub set_before : IsSound sign → sign.line_fill ≡ fill_of words → cursor.at ≡ at → is_setting (meant_by next.item) ≡ true
      → IsReadFrom words sign octets layer page plane (record { at = cursor.at + next.len; state = kept'.state }) (at + next.len) kept' lines'
  set_before sound kind here setting =
      let new : Cursor = record { at = cursor.at + next.len; state = kept'.state } in
      let u = r.drawn.up_to in
      let (item, rest, split, raw) = first_piece r.drawn.behind next (item_is sign octets (items_of r.drawn.before) (items_of r.drawn.behind) cursor.at u.between.placed same next (subst (λ at. IsItemAt octets' at next.len (meant_by next.item)) (sym here) is)) in
      let here' = subst (λ l. IsDrawnUpTo sign octets layer page r.drawn.before l cursor plane) split u in
      let (placed, turns, puts) = setting_is (meant_by next.item) setting in
      let read = read_unplaced here'.between placed raw in
      let to = ap (λ n. cursor.at + n) read.len in
      let so = so_then in
      let front = r.drawn.before ++ item ∷ [] in
      let long : length (spell_of so.pieces) ≡ length (spelling item.item) = omega (arith, so.placed.place, here, u.between.placed.place, read.len, ap length (spell_of-append r.drawn.before so.pieces), length-append (spell_of r.drawn.before) (spell_of so.pieces)) in
      let (one, left) = one_piece so.pieces so.left rest item (sym so.split ∙ split) long in
      let all : r.drawn.before ++ so.pieces ≡ front ++ [] = ap (λ l. r.drawn.before ++ l) one ∙ sym (append-nil front) in
      let with = map_split r.drawn.before [] item (meant_by next.item) read.meant in
      let begins = ap (present_area sign) with ∙ present_area-nothing sign (map meant r.drawn.before) (meant_by next.item) plain (puts sign.defaults (standing sign (map meant r.drawn.before))) ∙ r.drawn.begins in
      let (laid, placed', now) = subst (λ (x : List LaidItem × List LaidItem). (map meant (x.0 ++ x.1) ≡ laid_meanings sign (items_of (x.0 ++ x.1))) × IsPlaced sign octets (items_of x.0) (items_of x.1) (at + next.len) × IsReadOf words sign (items_of x.0) kept'.state.area.present kept' lines')
      (λ i. (all i, left i)) (so.laid, so.placed, so.read) in
      let st : IsStateOf sign (map meant front) kept'.state = state_laid words sign kind front rest (subst (λ l. map meant (l ++ rest) ≡ laid_meanings sign (items_of (l ++ rest))) (append-nil front) laid) begins kept'.state
      (subst (λ l. IsStateOf sign (laid_items (fill_of words) sign (map meaning (items_of l)) (map meaning (items_of l))) kept'.state) (append-nil front) (read_state sound now)) in
      let between = between_more sign octets r.drawn.before rest item cursor here'.between new to (subst (λ l. IsStateOf sign l kept'.state) (map-append meant r.drawn.before (item ∷ [])) st) in
      record {
        drawn = record {
          before = front;
          behind = rest;
          up_to = drawn_more here' (meant_by next.item) read.meant turns new plane between (same_drawn sign layer (map meant r.drawn.before) (map meant rest) (meant_by next.item) plane turns (inl (puts sign.defaults (standing sign (map meant r.drawn.before)))));
          begins = begins;
        };
        so = record {
          pieces = [];
          left = rest;
          split = refl;
          plain = All-nil (λ item. begins_area (meant item) ≡ false);
          same_area = ap (λ l. (standing sign (map meaning (items_of l))).area) (sym all) ∙ so.same_area
              ∙ sym (ap (λ l. (standing sign l).area) (map-append meant r.drawn.before (item ∷ [])) ∙ same_area sign (map meant r.drawn.before) (meant item) (ap begins_area read.meant ∙ plain));
          laid = laid;
          placed = placed';
          read = now;
        };
      }

  pub passed : IsSound sign → sign.line_fill ≡ fill_of words → (cursor' : Cursor) → GoesOn cursor at next kept'.state cursor' → IsReadFrom words sign octets layer page plane cursor' (at + next.len) kept' lines'
  passed sound kind cursor' (inl (here, setting, is)) = subst (λ c. IsReadFrom words sign octets layer page plane c (at + next.len) kept' lines') (sym is) (set_before sound kind here setting)
  passed sound kind cursor' (inr is) = subst (λ c. IsReadFrom words sign octets layer page plane c (at + next.len) kept' lines') (sym is) (record { drawn = r.drawn; so = so_then })

-- what was read is not past the end
pub read_within : {words : Bool} {sign : SignData} {octets : List ℕ} {layer : Layer} {page : ℕ} {plane : BitPlane} {cursor : Cursor} {at : ℕ} {kept : Pass} {lines : LineTable} → IsReadFrom words sign octets layer page plane cursor at kept lines
    → (at ≤ length octets) × (length octets < 2 ^ 32)
read_within {sign = sign} {octets} {at = at} r = (within sign octets _ _ at r.so.placed, r.so.placed.accepted.short)

-- the reading of an area is over, and this was read of the item that ends it
pub record IsReadTo (words : Bool) (sign : SignData) (octets : List ℕ) (layer : Layer) (page : ℕ) (plane : BitPlane) (cursor : Cursor) (at : ℕ) (kept : Pass) (lines : LineTable) (next : Option NextItem) : Type 0 where
  pub from : IsReadFrom words sign octets layer page plane cursor at kept lines
  pub first : IsFirst (items_of from.so.left) next
  pub ends : EndsArea (map meaning (items_of from.so.left))

module _ {words : Bool} {sign : SignData} {octets : List ℕ} {layer : Layer} {page : ℕ} {plane : BitPlane} {cursor : Cursor} {at : ℕ} {kept : Pass} {lines : LineTable} (r : IsReadFrom words sign octets layer page plane cursor at kept lines) where
  pub ends_string : slice_get octets at ≡ None → IsReadTo words sign octets layer page plane cursor at kept lines None
  ends_string none = let left = no_more r.so none in record { from = r; first = left; ends = none_ends r.so left }

  pub ends_at : {octets' : List ℕ} → octets' ≡ octets → (next : NextItem) → IsItemAt octets' at next.len (meant_by next.item) → begins_area (meant_by next.item) ≡ true
      → IsReadTo words sign octets layer page plane cursor at kept lines (Some next)
  ends_at {octets'} same next is begins =
      let first = item_is sign octets (items_of (r.drawn.before ++ r.so.pieces)) (items_of r.so.left) at r.so.placed same next is in
      record { from = r; first = first; ends = area_ended r.so next first begins }

-- and its items are drawn on from there
pub area_begins : {words : Bool} {sign : SignData} {octets : List ℕ} {layer : Layer} {page : ℕ} {plane : BitPlane} {cursor : Cursor} {at : ℕ} {kept : Pass} {lines : LineTable} (read : AreaLines)
    → IsReadTo words sign octets layer page plane cursor at kept lines read.next → IsSound sign → sign.line_fill ≡ fill_of words → EndsGroup kept.state.area lines read.lines → read.end ≡ at → IsAreaDrawn sign octets layer page read cursor plane
area_begins {cursor = cursor} read r sound kind known end =
    let d = r.from.drawn in
    let so = r.from.so in
    record {
      before = d.before;
      behind = d.behind;
      up_to = d.up_to;
      left = area_read so kind cursor read d.up_to.between.placed.place r.ends (all_counted so sound read.lines known) end r.first;
    }

-- what is kept with another state
abbrev pub in_state : Pass → State → Pass
in_state kept state = record kept { state = state }

-- what is kept with its segment lengthened
abbrev longer : Pass → ℕ → ℕ → Pass
longer kept pixels count = in_state kept (lengthened_by pixels count kept.state)

module _ {sign : SignData} (sound : IsSound sign) {octets : List ℕ} (short : length octets < 2 ^ 63) {before behind : List LaidItem} (kept : Pass) (lines : LineTable) (b : IsBehindCharacter kept.state)
    (gap : ℕ) (gap_is : gap ≡ unwrap_or kept.state.attributes.spacing kept.state.attributes.font.char_spacing) where
  -- one more octet
  octet_passed : (at pixels count octet w : ℕ) → SoFar false sign octets before behind at (longer kept pixels count) lines → slice_get octets at ≡ Some octet → IsPlain octet
      → Some w ≡ width_in sign kept.state.attributes.font.number octet → SoFar false sign octets before behind (at + 1) (longer kept (pixels + (gap + w)) (count + 1)) lines
  octet_passed at pixels count octet w so here plain w_is =
      let next : NextItem = record { item = known.Char octet; len = 1 } in
      let n = so_read so refl next (octet_item octets at octet short here plain) in
      let it = so_next so next n in
      let items = map meaning (items_of (before ++ so.pieces)) in
      let of = so.read.of in
      let (cell, found, is) = cell_of_width (cell_in sign kept.state.attributes.font.number octet) w w_is in
      let fine = next_fine it in
      let state = lengthened_by pixels count kept.state in
      let st = subst (IsStateOf sign (items ++ Shows octet ∷ [])) (lengthened_more kept.state pixels count (gap + cell.width) 1)
      (state_beside state (behind_stays kept.state _ _ b) gap gap_is cell sign items of.state_is octet found (unsized_if sign.line_fill sign items (Shows octet) fine _ refl)) in
      let wide = ap (λ n. lengthened_by (pixels + (gap + n)) (count + 1) kept.state) (sym is) in
      let new = longer kept (pixels + (gap + cell.width)) (count + 1) in
      let passed = plain_passed sign items (longer kept pixels count) new of octet fine st (record { width = of.limited.width; height = of.limited.height }) in
      let r = subst (λ p. IsReadOf false sign (items_of (before ++ so.pieces)) p (longer kept pixels count) lines) b.group so.read in
      let read = step_stays sound r it passed refl in
      subst (λ s. SoFar false sign octets before behind (at + 1) (in_state kept s) lines) wide (read_on so next n (at + 1) refl refl new lines read)

-- the characters of a run are read
pub run_read : {sign : SignData} → IsSound sign → {octets : List ℕ} → length octets < 2 ^ 63 → {before behind : List LaidItem} (at at' pixels : ℕ) (kept : Pass) (state' : State) (lines : LineTable) → IsBehindCharacter kept.state
    → SoFar false sign octets before behind at kept lines → IsRunPassed sign octets at pixels kept.state at' state' → SoFar false sign octets before behind at' (in_state kept state') lines
run_read {sign} sound {octets} short {before} {behind} at at' pixels kept state' lines b so p =
    let start = subst (λ s. SoFar false sign octets before behind at (in_state kept s) lines) (sym (lengthened_none (present_area sign (map meaning (items_of (before ++ so.pieces)))) kept.state so.read.of.state_is.area)) so in
    let all = front_taken octets p.gap pixels (width_in sign kept.state.attributes.font.number) IsPlain (λ at pixels count. SoFar false sign octets before behind at (longer kept pixels count) lines)
    (λ at pixels count octet wide so here plain is within fits. octet_passed sound short kept lines b p.gap p.gap_is at pixels count octet wide so here plain is)
    at (at' - at) pixels start (omega (arith, p.forward, p.within)) p.plain p.width (omega arith) in
    let to : at + (at' - at) ≡ at' = omega (arith, p.forward) in
    subst (λ (x : ℕ × State). SoFar false sign octets before behind x.0 (in_state kept x.1) lines) (λ i. (to i, sym p.is i)) all

-- lines aren't filled then
pub run_gone : {words : Bool} {sign : SignData} → words ≡ false → IsSound sign → {octets : List ℕ} → length octets < 2 ^ 63 → {before behind : List LaidItem} (at at' pixels : ℕ) (kept : Pass) (state' : State) (lines : LineTable)
    → IsBehindCharacter kept.state → SoFar words sign octets before behind at kept lines → IsRunPassed sign octets at pixels kept.state at' state' → SoFar words sign octets before behind at' (in_state kept state') lines
run_gone {words} {sign} off sound {octets} short {before} {behind} at at' pixels kept state' lines b so run =
    subst (λ w. SoFar w sign octets before behind at' (in_state kept state') lines) (sym off) (run_read sound short at at' pixels kept state' lines b (subst (λ w. SoFar w sign octets before behind at kept lines) off so) run)
