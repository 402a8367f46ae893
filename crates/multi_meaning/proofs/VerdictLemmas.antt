-- Each string has one verdict, and a refusal for an item stands however the string goes on.
use Rattle.multi_meaning.proofs.Common.{◌≡◌, ℕ, List, [], ◌∷◌, ◌++◌, map, length, Option, Some, refl, ap, append_assoc, option_map, arith, Bool, false, cond, ◌||◌, None, sym, append-nil, ◌^◌, ◌<◌, All, cons_option, after_last, list_any, or_parts, map-append, list_any-append, Item, reading, SignData, LineFill, meaning, Meaning, has_place, meanings, offence, conflicts, offence_by, unsized_offence, Refused, verdict, verdict_on, fault_at, offences, pages_of, Accepted, IsVerdict, IsCycle, Break, Put, Spot, is_break, put_at, spots, standing, laid, laid_spot, laid_item, laid_items, cycle, page_times, ◌≢◌, drop, drop-append_seam, Char, HasNoItem, IsItem, IsReading, spell, BrokenBracketStands, OneVerdict, RefusalStands, of_first, broken, laid_out, IsOrderly, IsAccepted}
use Rattle.multi_token.specs.Broken.{IsOpen, StaysBroken}
use Rattle.multi_token.proofs.BrokenLemmas.{open_or_broken}
use Rattle.multi_token.proofs.SpellingLemmas.{reading_begins, one_reading}
use Rattle.multi_token.proofs.ReadingLemmas.{each_string_has_a_reading}
use Rattle.multi_meaning.proofs.WordLemmas.{some_after-append, some_after_push, after_last_push, group_goes_back, cases_Option, each_after_push, front_ind, none_more, push_ind, left_nil, right_nil}
use Rattle.multi_meaning.proofs.LaidItemLemmas.{largest_laid, is_member, laid_as, members, members_push, same_member, are_laid}
use Rattle.multi_meaning.proofs.RoomLemmas.{none_front, none_last}
use Rattle.multi_meaning.proofs.StandingLemmas.{offence-break, offence-undefined, unplaced_item, no_conflict, last_fine, spots_with}

pub one_verdict : OneVerdict
unfolding verdict
one_verdict sign octets v = (
  (λ (items, rest, read, is).
      grind (arith, is, one_reading octets items (reading octets).items rest (reading octets).rest read (each_string_has_a_reading octets))),
  (λ is. ((reading octets).items, (reading octets).rest, each_string_has_a_reading octets, is)),
)

-- the offences after one more item
pub offences_push : (sign : SignData) (items : List Item) (item : Item) (o : Option ℕ) → offences sign items ≡ [] → offence sign.line_fill sign (map meaning items) (meaning item) ≡ o
    → offences sign (items ++ item ∷ []) ≡ cons_option (option_map (λ code. (code, length (spell items))) o) []
offences_push sign items item o none is = grind (arith, some_after_push (fault_at sign) items item)

-- the first fault of these items is that of every string that goes on after them
first_stands : (sign : SignData) (items : List Item) (more : List ℕ) (fault : ℕ × ℕ) (faults : List (ℕ × ℕ)) → All IsItem items → offences sign items ≡ fault ∷ faults → verdict sign (spell items ++ more) ≡ Refused fault.0 fault.1
unfolding verdict verdict_on
first_stands sign items more fault faults each first = grind (arith, each_string_has_a_reading (spell items ++ more), reading_begins, some_after-append)

-- a refusal for an item stands for every string with the same octets up to the end of that item
pub item_refused : (sign : SignData) (before : List Item) (item : Item) (code : ℕ) (rest : List ℕ)
    → All IsItem (before ++ item ∷ []) → offences sign before ≡ [] → offence sign.line_fill sign (map meaning before) (meaning item) ≡ Some code
    → verdict sign (spell (before ++ item ∷ []) ++ rest) ≡ Refused code (length (spell before))
item_refused sign before item code rest each none offends =
    first_stands sign (before ++ item ∷ []) rest (code, length (spell before)) [] each (offences_push sign before item (Some code) none offends)

-- what stays broken has an octet
broken_some : (bracket more : List ℕ) → StaysBroken bracket → bracket ++ more ≢ []
broken_some [] more stays e = absurd (stays (65 ∷ []) (Char 65) [] (tt, refl))
broken_some (octet ∷ bracket) more stays e = cc

pub broken_bracket_stands : BrokenBracketStands
unfolding verdict verdict_on
broken_bracket_stands sign before bracket more each none stays =
    let octets = spell before ++ (bracket ++ more) in
    let read : IsReading octets before (bracket ++ more) = record { each = each; spelled = refl; ends = stays more } in
    grind (arith, one_reading octets (reading octets).items before (reading octets).rest (bracket ++ more) (each_string_has_a_reading octets) read, broken_some bracket more stays, none)

-- a string of these items and this rest is refused
stands_by : (sign : SignData) (items : List Item) (rest : List ℕ) (faults : List (ℕ × ℕ)) (code at : ℕ) → All IsItem items → HasNoItem rest → offences sign items ≡ faults
    → of_first (pages_of (map meaning items)) (faults ++ broken items rest) ≡ Refused code at → ¬ (IsOpen (drop at (spell items ++ rest)))
    → (more : List ℕ) → verdict sign ((spell items ++ rest) ++ more) ≡ Refused code at
stands_by sign items rest (fault ∷ faults) code at each ends first e closed more = grind (arith, first_stands, append_assoc)
stands_by sign items [] [] code at each ends none e closed more = absurd cc
stands_by sign items (octet ∷ rest) [] code at each ends none e closed more =
    let cases = open_or_broken (octet ∷ rest) (λ e. cc) ends in
    grind (arith, broken_bracket_stands sign items (octet ∷ rest) more each none, cases, drop-append_seam (spell items) (octet ∷ rest), append_assoc, closed)

pub refusal_stands : RefusalStands
unfolding verdict verdict_on
refusal_stands sign octets code at e closed more =
    let stands_by' = stands_by sign (reading octets).items (reading octets).rest (offences sign (reading octets).items) code at in
    grind (arith, each_string_has_a_reading octets, stands_by', e, closed, more)

-- as many are meant as are read
pub length-meanings : (items : List Item) → length (map meaning items) ≡ length items
length-meanings [] = refl
length-meanings (x ∷ items) = ap (λ n. Prim.Native.Nat.suc n) (length-meanings items)

-- what is no character on the line of a group isn't one on its laid line, which is an end of it
module _ (setting : LineFill) (all : List Spot) (a j : ℕ) (p : Spot → Bool) where
  abbrev line : List Spot → List Spot
  line spots = after_last is_break (members a j spots)

  abbrev None_of : List Spot → Type 0
  None_of spots = list_any p (line spots) ≡ false → list_any p (line (laid setting all spots)) ≡ false

  any_push : (xs : List Spot) (x : Spot) → list_any p (line (xs ++ x ∷ []))
      ≡ cond (is_member a j x) (cond (is_break x) false (list_any p (line xs) || (p x || false))) (list_any p (line xs))
  any_push xs x = grind (arith, members_push a j xs x (is_member a j x) refl, after_last_push, list_any-append, append-nil)

  none_laid : (some more : List Spot) → all ≡ some ++ more → None_of some
  none_laid = front_ind all None_of (λ none. none) (λ some more x is ih none.
      let any_push' = any_push (laid setting all some) (laid_spot setting all some x) in
      let same_member' = same_member a j x (laid_spot setting all some x) in
      grind (arith, laid_as setting all some more x is, each_after_push (laid_spot setting all) some x, same_member', any_push', any_push some x, ih, none))

module _ (setting : LineFill) (sign : SignData) (all : List Meaning) where
  abbrev before : List Meaning → List Meaning
  before some = laid_items setting sign all some

  module _ (some more : List Meaning) (x : Meaning) (is : all ≡ some ++ x ∷ more) where
    are : (standing sign (before some) ≡ standing sign some) × (spots sign (before some) ≡ laid setting (spots sign all) (spots sign some))
    are = are_laid setting sign all some (x ∷ more) is

    -- a placing item that conflicts with nothing conflicts with nothing that is laid out, and nor does the end of a line in its place
    apart : (put : Put) → put_at sign.defaults (standing sign some) x ≡ Some put
        → conflicts (spots sign some) (record { at = standing sign some; put = put }) ≡ false
        → (conflicts (spots sign (before some)) (record { at = standing sign (before some); put = put }) ≡ false)
        × (conflicts (spots sign (before some)) (record { at = standing sign (before some); put = Break None }) ≡ false)
    apart put puts none = grind (arith, spots_with sign some x more put puts, group_goes_back, largest_laid setting 0, are, none_laid, or_parts)

  laid_fine : (some more : List Meaning) (x : Meaning) → all ≡ some ++ x ∷ more → unsized_offence sign some x ≡ None → unsized_offence sign (before some) (laid_item setting sign all some x) ≡ None
  unfolding offence_by standing
  laid_fine some more x is fine = grind (arith, cases_Option, offence-undefined, no_conflict, apart, laid_as, spots_with, are, offence-break, unplaced_item)

-- what doesn't offend doesn't by more than its size
pub unsized_if : (setting : LineFill) (sign : SignData) (ms : List Meaning) (x : Meaning) → offence setting sign ms x ≡ None → (b : Bool) → has_place x ≡ b → unsized_offence sign ms x ≡ None
unfolding offence_by
unsized_if setting sign ms x fine b e = grind arith

pub orderly_items : (sign : SignData) (items : List Item) → offences sign items ≡ [] → IsOrderly sign (map meaning items)
orderly_items sign = push_ind (λ items. offences sign items ≡ [] → IsOrderly sign (map meaning items)) (λ none. refl) (λ items item ih none.
    let none_more' = none_more (unsized_offence sign) (map meaning items) (meaning item) in
    grind (arith, last_fine sign items item none, map-append, none_more', ih, unsized_if sign.line_fill sign (map meaning items) (meaning item)))

-- the items of an accepted string, as they are laid out, don't offend by more than their size
pub orderly_out : (sign : SignData) (items : List Item) → offences sign items ≡ [] → IsOrderly sign (laid_out sign (map meaning items))
orderly_out sign items none =
    let all = map meaning items in
    let f = unsized_offence sign in
    let fine = λ (some more : List Meaning) (x : Meaning) (is : all ≡ some ++ x ∷ more). none_last sign f some x (none_front sign f (some ++ x ∷ []) more (grind (arith, is, append_assoc some (x ∷ []) more, orderly_items sign items none))) in
    front_ind all (λ some. IsOrderly sign (laid_items sign.line_fill sign all some)) refl (λ some more x is ih.
    let none_more'' = none_more f (laid_items sign.line_fill sign all some) (laid_item sign.line_fill sign all some x) ih in
    let laid_fine' = laid_fine sign.line_fill sign all some more x is (fine some more x is) in
    grind (arith, each_after_push (laid_item sign.line_fill sign all) some x, none_more'', laid_fine')) all [] (sym (append-nil all))

-- the items of an accepted string are those of its reading, and it has so many pages
pub accepted_is : (sign : SignData) (octets : List ℕ) (pages : ℕ) → IsVerdict sign octets (Accepted pages) → length octets < 2 ^ 32
    → IsAccepted sign octets (reading octets).items × (pages ≡ pages_of (meanings octets))
unfolding verdict_on
accepted_is sign octets pages (items, rest, read, is) short =
    let one_reading' = one_reading octets items (reading octets).items rest (reading octets).rest read in
    grind (arith, each_string_has_a_reading octets, one_reading', is, left_nil, right_nil, append-nil)

-- the cycle of a string is that of its reading
pub cycle_is : (sign : SignData) (octets : List ℕ) (tenths : ℕ) → IsCycle sign octets tenths → tenths ≡ cycle (page_times sign (meanings octets))
cycle_is sign octets tenths (items, rest, read, is) =
    grind (arith, one_reading octets items (reading octets).items rest (reading octets).rest read (each_string_has_a_reading octets), each_string_has_a_reading octets)

-- none of its items offends, as they are laid out
pub accepted_orderly : (sign : SignData) (octets : List ℕ) → IsAccepted sign octets (reading octets).items → IsOrderly sign (laid_out sign (meanings octets))
accepted_orderly sign octets a = orderly_out sign (reading octets).items a.none
