-- The next item of an accepted string.
use Rattle.multi_layout.proofs.Common.{◌⊎◌, nat_tests, common_steps, none_more, last_fine, ◌≡◌, ℕ, IsRead, true, false, ◌+◌, ◌^◌, ◌<◌, ◌≤◌, inl, inr, List, [], ◌∷◌, ◌++◌, length, drop, map, slice_get, Some, None, refl, sym, ap, subst, ◌∙◌, arith, append_assoc, append-nil, rules, not, All, length-append, map-append, All-head, All-tail, filter-append, Counted, RisesBetween, charged, Token, IsPlain, Item, spelling, spell, item_of, single_token, spelling_some, rises_then, Off, SignData, each_after, laid_item, Faulty, Meaning, meaning, BeginsPage, Does, has_place, is_new_page, offence, unsized_offence, offence_by, offences, pages_of, IsFaultAt, IsItemAt, offence-faulty, standing_push, present_area-new, length-meanings, each_after-append, each_after_length, push_ind, some_after-append, NextItem, IsReady, IsStateOf, meant_by, ready, pages_of-push, NewPage, LineFill, Standing, spots, standing, present_area, ended_times, State, Shows, Cursor, IsBetween, IsFirst, IsPlaced, LaidItem, items_of, laid_meanings, meant, spell_of, IsItemRead, IsPassing, unplaced, PassesTag, font_numbered, is_bracket, IsItem, HasNoItem, IsTokenOf, one_item_begins, charged-zero, IsFine, none_front, none_last, none_mapped, none_of, right_nil, ended_times-push, standing_behind}
use Rattle.std.proofs.Math.Seq.{drop-append_seam, take-append_seam}
use Rattle.std.proofs.lemmas.List.Concat.{flat_map-append}

All-right : (P : Item → Type 0) (xs ys : List Item) → All P (xs ++ ys) → All P ys
All-right P [] ys h = h
All-right P (x ∷ xs) ys h = All-right P xs ys (All-tail P x (xs ++ ys) h)

pub spell-append : (xs ys : List Item) → spell (xs ++ ys) ≡ spell xs ++ spell ys
spell-append xs ys = flat_map-append spelling xs ys

module _ (sign : SignData) (octets : List ℕ) (before behind : List Item) (at : ℕ) (p : IsPlaced sign octets before behind at) where
  -- what stands from the offset on
  pub ahead : drop at octets ≡ spell behind
  ahead = first_of (search (rules, drop-append_seam, spell-append), grind (arith, drop-append_seam, spell-append))

  pub total : length octets ≡ length (spell before) + length (spell behind)
  total = ap length (p.accepted.spelled ∙ spell-append before behind) ∙ length-append (spell before) (spell behind)

  pub within : at ≤ length octets
  within = omega (arith, p.place, total)

  -- at the end there is no item
  pub none_at_end : at ≡ length octets → behind ≡ []
  none_at_end end = none behind (omega (arith, total, p.place))
    where
      none : (items : List Item) → length (spell items) ≤ 0 → items ≡ []
      none [] h = refl
      none (x ∷ items) h = absurd (omega (arith, h, spelling_some x, length-append (spelling x) (spell items)))

  -- before the end an item stands
  pub never_broken : at < length octets → HasNoItem (drop at octets) → ⊥
  never_broken before_end none = broken behind (All-right IsItem before behind p.accepted.each) ahead (omega (arith, total, p.place))
    where
      broken : (items : List Item) → All IsItem items → drop at octets ≡ spell items → 1 ≤ length (spell items) → ⊥
      broken [] each e h = absurd (omega (arith, h))
      broken (x ∷ items) each e h = none x (spell items) (All-head IsItem x items each, e)

  -- a token that stands here is the first item
  pub first_is : (t : Token) → t.at ≡ at → IsTokenOf octets t → (rest : List Item) × (behind ≡ item_of octets t ∷ rest)
  first_is t here stands = first behind (All-right IsItem before behind p.accepted.each) (sym ahead ∙ ap (λ n. drop n octets) (sym here) ∙ stands.begins.1)
    where
      first : (items : List Item) → All IsItem items → spell items ≡ spelling (item_of octets t) ++ drop (t.at + t.len) octets → (rest : List Item) × (items ≡ item_of octets t ∷ rest)
      first [] each e = absurd (omega (arith, ap length e, spelling_some (item_of octets t), length-append (spelling (item_of octets t)) (drop (t.at + t.len) octets)))
      first (x ∷ items) each e =
          let same = one_item_begins x (item_of octets t) (spell items) (drop (t.at + t.len) octets) (All-head IsItem x items each) stands.begins.0 e in
          (items, ap (λ y. y ∷ items) same.0)

  -- an item that stands here is the first, of which this is read
  pub item_is : {octets' : List ℕ} → octets' ≡ octets → (next : NextItem) → IsItemAt octets' at next.len (meant_by next.item) → IsFirst behind (Some next)
  item_is same next is = let (t, here, long, stands, means) = subst (λ o. IsItemAt o at next.len (meant_by next.item)) same is in grind (arith, first_is)

-- an octet that is no bracket stands for itself
pub no_bracket : (octet : ℕ) → is_bracket octet ≡ false → IsPlain octet
no_bracket octet none = grind (arith)

-- any other is one of the two
pub a_bracket : (octet : ℕ) → is_bracket octet ≡ true → (octet ≡ 91) ⊎ (octet ≡ 93)
a_bracket octet is = grind (arith, nat_tests)

-- and is an item
pub octet_item : (octets : List ℕ) (at octet : ℕ) → length octets < 2 ^ 63 → slice_get octets at ≡ Some octet → IsPlain octet → IsItemAt octets at 1 (Shows octet)
octet_item octets at octet room here plain = grind (arith, single_token octets at octet room here plain)

-- reading leaves the octets
pub same_octets : {source : Counted} {octets : List ℕ} {steps : ℕ} → source ≡ record { octets = octets; steps = steps } → source.octets ≡ octets
same_octets same = ap (λ (x : Counted). x.octets) same

-- the steps of one call, and then those of another
pub steps_then : (a : Counted) {b d : Counted} {low high low' high' : ℕ} → RisesBetween a b low high → RisesBetween b d low' high' → RisesBetween a d (low + low') (high + high')
steps_then a r s = rises_then a _ _ _ _ _ _ r s

pub steps_within : (a : Counted) {b : Counted} {low high least most : ℕ} → RisesBetween a b low high → least ≤ low → high ≤ most → RisesBetween a b least most
steps_within a (k, least, most, is) less more = (k, omega (arith, least, less), omega (arith, most, more), is)

-- as many steps as were counted
pub steps_of : (a : Counted) {b : Counted} {k : ℕ} → b ≡ charged a k → RisesBetween a b k k
steps_of a {b} {k} is = (k, omega arith, omega arith, is)

pub no_steps : (a : Counted) {most : ℕ} → RisesBetween a a 0 most
no_steps a = (0, omega arith, omega arith, sym (charged-zero a))

-- the font in force is one of the sign's
pub font_known : {sign : SignData} {items : List Meaning} {state : State} → IsStateOf sign items state → font_numbered sign state.attributes.font.number ≡ None → ⊥
font_known {sign} st none = search (rules, st)

-- the next item of an accepted string
module _ (sign : SignData) (octets : List ℕ) (before rest : List Item) (item : Item) (at : ℕ) (p : IsPlaced sign octets before (item ∷ rest) at) where
  -- it doesn't offend
  pub none_offends : offence sign.line_fill sign (map meaning before) (meaning item) ≡ None
  none_offends = first_of (search (rules, append-nil, none_mapped, none_of, right_nil, some_after-append), grind (arith, append-nil, none_mapped, none_of, right_nil, some_after-append))

  -- and so it is no tag with an error
  pub never_faulty : (code : ℕ) → meaning item ≡ Faulty code → ⊥
  never_faulty code e = first_of (search (rules, none_offends, offence-faulty), grind (arith, none_offends, offence-faulty))

  -- after it the rest stands
  pub placed_more : (new : ℕ) → new ≡ at + length (spelling item) → IsPlaced sign octets (before ++ item ∷ []) rest new
  placed_more new to = first_of (search (rules, append-nil, append_assoc, length-append, spell-append), grind (arith, append-nil, append_assoc, length-append, spell-append))

  pub room : at + length (spelling item) ≤ length octets
  room = omega (arith, p.place, ap length (p.accepted.spelled ∙ spell-append before (item ∷ rest)), length-append (spell before) (spell (item ∷ rest)), length-append (spelling item) (spell rest))

-- no error stands between the items of an accepted string
pub no_fault : (sign : SignData) (octets : List ℕ) (before behind : List Item) (at code : ℕ) → IsPlaced sign octets before behind at → at < length octets → IsFaultAt octets at code → ⊥
no_fault sign octets before behind at code p before_end (inl (none, is)) = never_broken sign octets before behind at p before_end none
no_fault sign octets before behind at code p before_end (inr (len, (t, here, long, stands, means))) =
    let (rest, is) = first_is sign octets before behind at p t here stands in
    never_faulty sign octets before rest (item_of octets t) at (subst (λ (l : List Item). IsPlaced sign octets before l at) is p) code means

-- the items of an accepted string don't offend where lines aren't filled
pub fine_items : (sign : SignData) → sign.line_fill ≡ Off → (items : List Item) → offences sign items ≡ [] → IsFine sign (map meaning items)
fine_items sign off = push_ind (λ items. offences sign items ≡ [] → IsFine sign (map meaning items)) (λ none. refl) (λ items item ih none.
    let none_more' = none_more (offence Off sign) (map meaning items) (meaning item) in
    grind (arith, last_fine sign items item none, map-append, none_more', ih, off))

-- PIECES

pub spell_of-append : (xs ys : List LaidItem) → spell_of (xs ++ ys) ≡ spell_of xs ++ spell_of ys
spell_of-append xs ys = ap spell (map-append (λ (p : LaidItem). p.item) xs ys) ∙ spell-append (items_of xs) (items_of ys)

-- the items of a string, as they mean
pub map_split : (before rest : List LaidItem) (item : LaidItem) (m : Meaning) → meant item ≡ m → map meant (before ++ item ∷ rest) ≡ map meant before ++ m ∷ map meant rest
map_split before rest item m e = map-append meant before (item ∷ rest) ∙ ap (λ x. map meant before ++ x ∷ map meant rest) e

pub few_pieces : (pieces : List LaidItem) → length (map meant pieces) ≡ length (items_of pieces)
few_pieces pieces = grind (arith, common_steps)

module _ (sign : SignData) (octets : List ℕ) (before behind : List LaidItem) (cursor : Cursor) (b : IsBetween sign octets before behind cursor) where
  -- the times are within their bound
  pub ready_between : IsReady cursor.state
  ready_between = ready sign (map meant before) cursor.state b.state_is

  pub within_between : cursor.at ≤ length octets
  within_between = within sign octets (items_of before) (items_of behind) cursor.at b.placed

-- the next item
module _ (sign : SignData) (octets : List ℕ) (before rest : List LaidItem) (item : LaidItem) (cursor : Cursor) (b : IsBetween sign octets before (item ∷ rest) cursor) where
  -- it doesn't offend by more than its size
  pub never_offends : unsized_offence sign (map meant before) (meant item) ≡ None
  never_offends = grind (arith, none_front sign (unsized_offence sign) (map meant before ++ meant item ∷ []) (map meant rest), map-append meant before (item ∷ rest), append_assoc (map meant before) (meant item ∷ []) (map meant rest), none_last)

  -- after it the cursor stands before the rest
  pub between_more : (new : Cursor) → new.at ≡ cursor.at + length (spelling item.item) → IsStateOf sign (map meant before ++ meant item ∷ []) new.state
      → IsBetween sign octets (before ++ item ∷ []) rest new
  between_more new at st = search (rules, sym (append_assoc before (item ∷ []) rest), append_assoc, map-append, placed_more)

-- the next item, of which this is read
module _ {sign : SignData} {octets : List ℕ} {before rest : List LaidItem} {item : LaidItem} {cursor : Cursor} (b : IsBetween sign octets before (item ∷ rest) cursor) {next : NextItem} (read : IsRead item next) where
  pub item_fits : cursor.at + next.len < 2 ^ 32
  item_fits = omega (arith, room sign octets (items_of before) (items_of rest) item.item cursor.at b.placed, read.len, b.placed.accepted.short)

  pub item_fine : unsized_offence sign (map meant before) (meant_by next.item) ≡ None
  item_fine = ap (unsized_offence sign (map meant before)) (sym read.meant) ∙ never_offends sign octets before rest item cursor b

  pub tag_passed : (new : Cursor) → new.at ≡ cursor.at + next.len → PassesTag sign (meant_by next.item) cursor.state new.state → IsBetween sign octets (before ++ item ∷ []) rest new
  tag_passed new at passes =
      between_more sign octets before rest item cursor b new (at ∙ ap (λ n. cursor.at + n) read.len)
      (subst (λ (m : Meaning). IsStateOf sign (map meant before ++ m ∷ []) new.state) (sym read.meant) (passes (map meant before) b.state_is item_fine))

-- AS THEY ARE LAID OUT

-- two lists are the same up to one place, and from there on
pub same_parts : {X : Type 0} (xs ys as' bs : List X) → length xs ≡ length ys → xs ++ as' ≡ ys ++ bs → (xs ≡ ys) × (as' ≡ bs)
same_parts xs ys as' bs n e = grind (arith, take-append_seam xs as', take-append_seam ys bs, drop-append_seam xs as', drop-append_seam ys bs)

-- the items of pieces, as they mean
pub meanings_split : (before behind : List LaidItem) → map meaning (items_of (before ++ behind)) ≡ map meaning (items_of before) ++ map meaning (items_of behind)
meanings_split before behind = ap (map meaning) (map-append (λ (p : LaidItem). p.item) before behind) ∙ map-append meaning (items_of before) (items_of behind)

-- pieces are their items, as these are laid out among all
pub laid_parts : (sign : SignData) {setting : LineFill} → sign.line_fill ≡ setting → (before behind : List LaidItem) → map meant (before ++ behind) ≡ laid_meanings sign (items_of (before ++ behind))
    → let ms = map meaning (items_of before) in let rest = map meaning (items_of behind) in let f = laid_item setting sign (ms ++ rest) in
    (map meant before ≡ each_after f ms) × (map meant behind ≡ each_after (λ more. f (ms ++ more)) rest)
laid_parts sign {setting} kind before behind laid =
    let ms = map meaning (items_of before) in
    let f = laid_item setting sign (ms ++ map meaning (items_of behind)) in
    grind (arith, meanings_split before behind, few_pieces before, length-meanings (items_of before), each_after_length f ms, map-append meant before behind, each_after-append f ms (map meaning (items_of behind)), same_parts)

-- what an item is laid out as, by its place among all
pub laid_here : (sign : SignData) (before rest : List LaidItem) (piece : LaidItem) → map meant (before ++ piece ∷ rest) ≡ laid_meanings sign (items_of (before ++ piece ∷ rest))
    → meant piece ≡ laid_item sign.line_fill sign (map meaning (items_of (before ++ piece ∷ rest))) (map meaning (items_of before)) (meaning piece.item)
laid_here sign before rest piece laid = cc ((laid_parts sign refl before (piece ∷ rest) laid).1, meanings_split before (piece ∷ rest), append-nil (map meaning (items_of before)))

-- where the present area is empty, the state is that of all items with these pages, times and values in force
pub state_moved : (sign : SignData) (one other : List Meaning) (state : State) → standing sign one ≡ standing sign other → ended_times sign one ≡ ended_times sign other → pages_of one ≡ pages_of other
    → present_area sign one ≡ [] → present_area sign other ≡ [] → IsStateOf sign one state → IsStateOf sign other state
state_moved sign one other state here times pages none none' st = first_of (search (rules), grind (arith))

-- ONE MORE ITEM

-- an item that is placed leaves them
pub unplaced_stays : (ms : List Meaning) (x : Meaning) → has_place x ≡ true → unplaced (ms ++ x ∷ []) ≡ unplaced ms
unplaced_stays ms x e = grind (arith, filter-append (λ x. not (has_place x)) ms (x ∷ []), append-nil)

-- another joins them
pub unplaced_grows : (ms : List Meaning) (x : Meaning) → has_place x ≡ false → unplaced (ms ++ x ∷ []) ≡ unplaced ms ++ x ∷ []
unplaced_grows ms x e = grind (arith, filter-append (λ x. not (has_place x)) ms (x ∷ []))

-- what is placed begins no page, and leaves all that is in force
pub placed_behind : (sign : SignData) (at : Standing) (x : Meaning) → has_place x ≡ true → (standing_behind sign at x ≡ at) × (is_new_page x ≡ false)
placed_behind sign at x e = grind (arith)

module _ (sign : SignData) where
  -- the same is in force, at the same times, on the same page
  abbrev Same : List Meaning → Type 0
  Same ms = (standing sign (unplaced ms) ≡ standing sign ms) × (ended_times sign (unplaced ms) ≡ ended_times sign ms) × (pages_of (unplaced ms) ≡ pages_of ms)

  pub same_unplaced : (ms : List Meaning) → Same ms
  same_unplaced = push_ind Same (refl, refl, refl) (λ ms x same. grind (arith, placed_behind, unplaced_stays ms x, standing_push, ended_times-push, append-nil, pages_of-push, unplaced_grows ms x))

  -- an item that places nothing offends after them just where it does after all
  pub offends_unplaced : (setting : LineFill) (ms : List Meaning) (x : Meaning) → has_place x ≡ false → unsized_offence sign (unplaced ms) x ≡ offence setting sign ms x
  unfolding offence_by
  offends_unplaced setting ms (Does NewPage) e = grind (arith, same_unplaced ms)
  offends_unplaced setting ms x e = grind (arith)

  -- where a page begins, the state is that of all
  empty : (ms : List Meaning) → BeginsPage ms → (present_area sign ms ≡ []) × BeginsPage (unplaced ms)
  unfolding spots
  empty ms begins = grind (arith, present_area-new, unplaced_grows)

  pub settled_at : (ms laid : List Meaning) (state : State) → standing sign laid ≡ standing sign ms → ended_times sign laid ≡ ended_times sign ms → pages_of laid ≡ pages_of ms
      → BeginsPage ms → BeginsPage laid → IsStateOf sign (unplaced ms) state → IsStateOf sign laid state
  settled_at ms laid state here' times' pages' begins begins' = grind (arith, same_unplaced ms, empty (unplaced ms) (empty ms begins).1, empty laid begins', empty ms begins, state_moved)

-- THE WAY

module _ {sign : SignData} {octets : List ℕ} {before rest : List Item} {item : Item} {cursor : Cursor} (p : IsPassing sign octets before (item ∷ rest) cursor) {next : NextItem} (read : IsItemRead item next) where
  pub fine_passing : has_place (meant_by next.item) ≡ false → unsized_offence sign (unplaced (map meaning before)) (meant_by next.item) ≡ None
  fine_passing e = grind (arith, offends_unplaced sign sign.line_fill (map meaning before) (meant_by next.item) e, none_offends sign octets before rest item cursor.at p.placed)

  passing_with : (new : Cursor) → new.at ≡ cursor.at + next.len → IsStateOf sign (unplaced (map meaning before ++ meaning item ∷ [])) new.state → IsPassing sign octets (before ++ item ∷ []) rest new
  passing_with new at st = record {
    placed = placed_more sign octets before rest item cursor.at p.placed new.at (omega (arith, at, read.len));
    state_is = subst (λ ms. IsStateOf sign (unplaced ms) new.state) (sym (map-append meaning before (item ∷ []))) st;
  }

  -- after an item that is placed the state stays
  pub passing_placed : (new : Cursor) → has_place (meant_by next.item) ≡ true → new.at ≡ cursor.at + next.len → new.state ≡ cursor.state → IsPassing sign octets (before ++ item ∷ []) rest new
  passing_placed new e at same = grind (arith, common_steps, passing_with, unplaced_stays)

  -- after another it is that with it
  pub passing_tag : (new : Cursor) → has_place (meant_by next.item) ≡ false → new.at ≡ cursor.at + next.len
      → IsStateOf sign (unplaced (map meaning before) ++ meant_by next.item ∷ []) new.state → IsPassing sign octets (before ++ item ∷ []) rest new
  passing_tag new e at st =
      passing_with new at
      (subst (λ ms. IsStateOf sign ms new.state)
      (ap (λ m. unplaced (map meaning before) ++ m ∷ []) (sym read.meant) ∙ sym (unplaced_grows (map meaning before) (meaning item) (ap has_place read.meant ∙ e))) st)
