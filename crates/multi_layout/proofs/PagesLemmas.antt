-- What is shown at a time of the cycle, from page to page.
use Rattle.multi_layout.proofs.Common.{◌≡◌, ℕ, has_place, unsized_offence, ◌+◌, ◌-◌, ◌<◌, ◌≤◌, true, false, cond, List, [], ◌∷◌, ◌++◌, length, map, slice_get, Some, None, refl, sym, ap, subst, ◌∙◌, inl, arith, append-nil, rules, ◌*◌, ◌/◌, ◌^◌, Bool, map-append, All, ne_eqb, cases_eq, eq-eqb, All-head, All-tail, mul-add, Item, spelling_some, NewPage, SignData, FontData, largest, tallest, standing, laid_out, Meaning, Does, is_new_page, meaning, meanings, cycle, ended_times, pages_of, IsAccepted, IsOrderly, accepted_is, reading, standing_push, NextItem, State, meant_by, attributes_of, pages_of-push, at_end, Counted, RisesBetween, charged, BitPlane, IsSound, Cursor, IsFirst, IsPageStart, IsFilledFew, IsPagePassed, IsAtPage, IsPageSkipped, IsPassing, unplaced, IsItemAt, plane_octets, reading_limit, IsSized, page_count, ◌==◌, Page, page_times, shown_within, accepted_orderly, cycle_push, ended_count, shown_off, shown_on, times_are, times_are_all, cycle-grows, cycle-stays, rises_more, IsSoundFont, Told, IsToldOf, IsReadTwice, PassesTag, IsAtStart, drawing_limit, plane_limit, IsDrawnFew, IsReadFew, IsUnderWay, PagesState, TurnsPage}
use Rattle.std.proofs.lemmas.Nat.{mul-le}
use Rattle.multi_meaning.specs.declared.times.Shown.TheVariants.{Off}
use Rattle.multi_layout.proofs.PageDrawLemmas.{new_page_is, same_meanings}
use Rattle.multi_layout.proofs.PieceLemmas.{page_between}
use Rattle.multi_layout.proofs.WalkLemmas.{item_is, fine_passing, passing_placed, passing_tag, placed_behind, same_unplaced, none_at_end, within, steps_then, steps_within, within_between}
use Rattle.multi_layout.specs.declared.checked.NextPage.{NextPage}
use Rattle.multi_layout.specs.NextPage.{IsNextPage, IsReadOn}
use Rattle.multi_layout.specs.CheckedData.{CheckedData}

-- ---- what is kept where the cursor stands

-- the state has the pages and times of these items, and the values in force after them
pub record IsClockOf (sign : SignData) (items : List Meaning) (state : State) : Type 0 where
  pub pages : state.pages ≡ pages_of items
  pub times : state.cycle ≡ cycle (ended_times sign items)
  pub attributes : state.attributes ≡ attributes_of (standing sign items)

pub clock_of : {sign : SignData} {octets : List ℕ} {before behind : List Item} {cursor : Cursor} → IsPassing sign octets before behind cursor → IsClockOf sign (map meaning before) cursor.state
clock_of {sign} {before = before} p = grind (arith, same_unplaced sign (map meaning before))

-- the items of the string, as they are meant
all_meant : {sign : SignData} {octets : List ℕ} {before behind : List Item} {cursor : Cursor} → IsPassing sign octets before behind cursor → map meaning before ++ map meaning behind ≡ meanings octets
all_meant {sign} {octets} {before} {behind} p = sym (map-append meaning before behind) ∙ same_meanings sign octets (before ++ behind) p.placed.accepted

-- it is at least the first
pub at_least : {sign : SignData} {octets : List ℕ} {cursor : Cursor} → IsAtPage sign octets cursor → 1 ≤ cursor.state.pages
at_least p = omega (arith, (clock_of p.between).pages)

-- where a page begins the cursor stands between pieces
pub page_starts : {sign : SignData} {octets : List ℕ} {cursor : Cursor} → IsAtPage sign octets cursor → IsOrderly sign (laid_out sign (meanings octets)) → IsPageStart sign octets cursor
page_starts {sign} {octets} {cursor} p all =
    page_between sign octets p.before p.behind cursor p.between p.begins (rw (same_meanings sign octets (p.before ++ p.behind) p.between.placed.accepted) all)

-- ---- what is told of a string

pub accepted_of : {sign : SignData} {octets : List ℕ} {told : Told} → IsToldOf sign octets told
    → IsAccepted sign octets (reading octets).items × (told.pages ≡ pages_of (meanings octets)) × IsOrderly sign (laid_out sign (meanings octets))
accepted_of {sign} {octets} {told} t = grind (arith, accepted_is sign octets told.pages, accepted_orderly sign octets)

-- its first page begins at its start
pub at_start : {sign : SignData} {octets : List ℕ} {told : Told} {cursor : Cursor} → IsToldOf sign octets told → IsAtStart sign cursor → IsAtPage sign octets cursor × (cursor.state.pages ≡ 1)
at_start {sign} {octets} t start = (
  record {
    before = [];
    behind = (reading octets).items;
    between = record { placed = record { accepted = (accepted_of t).0; place = start.at }; state_is = start.state_is };
    begins = inl refl;
  },
  start.state_is.pages,
)

pub first_starts : {sign : SignData} {octets : List ℕ} {told : Told} {cursor : Cursor} → IsToldOf sign octets told → IsAtStart sign cursor → IsPageStart sign octets cursor
first_starts t start = page_starts (at_start t start).0 (accepted_of t).2

-- ---- the present page

-- the cursor stands in the page that began at the old one
pub record IsInPage (sign : SignData) (octets : List ℕ) (old cursor : Cursor) : Type 0 where
  pub before : List Item
  pub behind : List Item
  pub between : IsPassing sign octets before behind cursor
  pub same : cursor.state.pages ≡ old.state.pages
  pub began : cursor.state.cycle ≡ old.state.cycle

module _ {sign : SignData} {octets : List ℕ} {old cursor : Cursor} (s : IsInPage sign octets old cursor) where
  abbrev passed : List Meaning
  passed = map meaning s.before

  -- at the end the page is passed, the last
  pub passed_last : slice_get octets cursor.at ≡ None → IsPageSkipped sign octets old cursor
  passed_last end = grind (arith, clock_of s.between, within sign octets s.before s.behind cursor.at s.between.placed, none_at_end sign octets s.before s.behind cursor.at s.between.placed, at_end octets cursor.at, all_meant s.between, times_are_all sign passed, ended_count sign passed, append-nil)

  -- an item stands after the cursor, of which this was read
  module _ {next : NextItem} (first : IsFirst s.behind (Some next)) where
    pub stands : IsPassing sign octets s.before (first.0 ∷ first.1) cursor
    stands = subst (λ (l : List Item). IsPassing sign octets s.before l cursor) first.2 s.between

    module _ {new : Cursor} (b : IsPassing sign octets (s.before ++ first.0 ∷ []) first.1 new) where
      with : map meaning (s.before ++ first.0 ∷ []) ≡ passed ++ meant_by next.item ∷ []
      with = map-append meaning s.before (first.0 ∷ []) ∙ ap (λ x. passed ++ x ∷ []) first.3.meant

      counted : new.state.pages ≡ old.state.pages + cond (is_new_page (meant_by next.item)) 1 0
      counted = omega (arith, (clock_of b).pages, (clock_of s.between).pages, s.same, ap pages_of with, pages_of-push passed (meant_by next.item))

      -- after another item than an `np`
      pub in_page_more : is_new_page (meant_by next.item) ≡ false → IsInPage sign octets old new
      in_page_more none = grind (arith, counted, clock_of b, clock_of s.between, with, cycle-stays sign passed (meant_by next.item))

      -- after an `np` the page is passed
      pub passed_page : is_new_page (meant_by next.item) ≡ true → old.at ≤ cursor.at → new.at ≡ cursor.at + next.len → IsPageSkipped sign octets old new
      passed_page page on at = grind (arith, new_page_is (meant_by next.item), with, clock_of b, clock_of s.between, standing_push sign passed (Does NewPage), times_are sign passed (map meaning first.1), all_meant stands, within sign octets (s.before ++ first.0 ∷ []) first.1 new.at b.placed, ended_count sign passed, counted, spelling_some first.0, cycle-grows sign passed (Does NewPage))

  -- an item is passed that was read
  module _ (next : NextItem) {octets' : List ℕ} (same : octets' ≡ octets) (is : IsItemAt octets' cursor.at next.len (meant_by next.item)) where
    first : IsFirst s.behind (Some next)
    first = item_is sign octets s.before s.behind cursor.at s.between.placed same next is

    -- one that has a place
    pub placed_passed : has_place (meant_by next.item) ≡ true → IsInPage sign octets old (record { at = cursor.at + next.len; state = cursor.state })
    placed_passed place =
        in_page_more first (passing_placed (stands first) first.3 (record { at = cursor.at + next.len; state = cursor.state }) place refl refl) (placed_behind sign (standing sign []) (meant_by next.item) place).1

    -- a tag that has none
    module _ (free : has_place (meant_by next.item) ≡ false) where
      pub free_fine : unsized_offence sign (unplaced passed) (meant_by next.item) ≡ None
      free_fine = fine_passing (stands first) first.3 free

      module _ {new : Cursor} (at : new.at ≡ cursor.at + next.len) (passes : PassesTag sign (meant_by next.item) cursor.state new.state) where
        behind_tag : IsPassing sign octets (s.before ++ first.0 ∷ []) first.1 new
        behind_tag = passing_tag (stands first) first.3 new free at (passes (unplaced passed) s.between.state_is free_fine)

        pub page_more : is_new_page (meant_by next.item) ≡ false → IsInPage sign octets old new
        page_more none = in_page_more first behind_tag none

        pub page_over : is_new_page (meant_by next.item) ≡ true → old.at ≤ cursor.at → IsPageSkipped sign octets old new
        page_over page on = passed_page first behind_tag page on at

-- ---- a page that is looked at

module _ {sign : SignData} {octets : List ℕ} {start behind : Cursor} (p : IsPageSkipped sign octets start behind) (time : ℕ) where
  -- in its on time the string shows it
  pub shown_here : start.state.cycle ≤ time → time - start.state.cycle < behind.state.attributes.on → Page (start.state.pages - 1) (time - start.state.cycle) ≡ shown_within (page_times sign (meanings octets)) time
  shown_here began on = grind (arith, shown_on (page_times sign (meanings octets)) p.earlier p.later (record { on = behind.state.attributes.on; off = behind.state.attributes.off }) p.times time)

  -- in its off time the string shows nothing
  pub off_here : start.state.cycle ≤ time → behind.state.attributes.on ≤ time - start.state.cycle → time - start.state.cycle < behind.state.attributes.on + behind.state.attributes.off → Off ≡ shown_within (page_times sign (meanings octets)) time
  off_here began over off = grind (arith, shown_off)

  -- where it is over another page begins after it, at the time or before
  pub page_behind : start.state.cycle ≤ time → behind.state.attributes.on + behind.state.attributes.off ≤ time - start.state.cycle → time < cycle (page_times sign (meanings octets))
      → (behind.state.pages ≡ start.state.pages + 1) × (start.at < behind.at) × (behind.at ≤ length octets) × (behind.state.cycle ≤ time) × IsAtPage sign octets behind
  page_behind began over below = first_of (search (rules, cycle_push), grind (arith, cycle_push))

-- before the last page another begins after it
pub page_follows : {sign : SignData} {octets : List ℕ} {start behind : Cursor} → IsPageSkipped sign octets start behind → start.state.pages < pages_of (meanings octets)
    → (behind.state.pages ≡ start.state.pages + 1) × (start.at < behind.at) × (behind.at ≤ length octets) × IsAtPage sign octets behind
page_follows p more = first_of (search (rules), grind (arith))

-- ---- a page that is passed

-- after it the one after it is next, of the same string with whatever count
pub turns_to : (old new : CheckedData) (next : NextPage) (cursor : Cursor) (page : ℕ) → IsNextPage old next page → IsPagePassed old.sign old.source.octets next.cursor cursor
    → new.sign ≡ old.sign → new.source.octets ≡ old.source.octets → IsNextPage new (record { cursor = cursor }) (page + 1)
turns_to old new next cursor page is passed sign octets = rw (sign, octets) (λ more. grind arith)

-- ---- bounds

-- the tallest of fonts that are within their limits
tallest_few : (fonts : List FontData) → All IsSoundFont fonts → largest (map (λ font. font.height) fonts) ≤ 64
tallest_few [] each = omega arith
tallest_few (font ∷ fonts) each = omega (arith, (All-head IsSoundFont font fonts each).height, tallest_few fonts (All-tail IsSoundFont font fonts each))

pub octets_few : (sign : SignData) → IsSound sign → plane_octets sign ≤ 16384
octets_few sign sound = omega (arith, mul-le ((sign.width + 7) / 8) sign.height 128 128 (omega (arith, sound.width)) (omega (arith, sound.height)))

-- a row of the tallest font for each octet, and a fill for each four and one more
pub plane_few : (sign : SignData) (n at fills : ℕ) → at ≤ n → 4 * fills ≤ at + 4 → tallest sign * at + plane_octets sign * fills ≤ plane_limit sign n
plane_few sign n at fills low few = grind (arith, mul-le (tallest sign) at (tallest sign) n, mul-le (plane_octets sign) fills (plane_octets sign) (n / 4 + 1))

-- all this is far from the largest number of 64 bits
pub drawing_few : (sign : SignData) (n : ℕ) → IsSound sign → n < 2 ^ 32 → drawing_limit sign n < 2 ^ 48
drawing_few sign n sound short = grind (arith, mul-le (tallest sign) n 64 (2 ^ 32), tallest_few sign.fonts sound.each, mul-le (plane_octets sign) (n / 4 + 1) 16384 (2 ^ 30), octets_few sign sound)

-- ---- a page that is drawn

-- what a test adds
pub at_most : (b : Bool) (n : ℕ) → cond b n 0 ≤ n
at_most b n = grind (arith)

pub if_next : (a b n : ℕ) → a ≡ b + 1 → cond (a == b) n 0 ≡ 0
if_next a b n next = ap (λ t. cond t n 0) (ne_eqb a b (λ e. omega (arith, e, next)))

-- the steps over the string to a page and to draw it
pub drawing_reads : (start : Counted) {source new : Counted} {way : ℕ} (old cursor : Cursor) (n : ℕ) → RisesBetween start source 0 way → way ≤ 18 * old.at → IsReadTwice source new old cursor → old.at ≤ cursor.at → cursor.at ≤ n
    → RisesBetween start new 0 (reading_limit n)
drawing_reads start old cursor n to less twice on few = grind (arith, steps_within, steps_then start to twice, at_most (cursor.state.pages == old.state.pages) 2)

-- the steps over the plane to draw a page
pub drawing_fills : (sign : SignData) (plane plane' : BitPlane) (old cursor : Cursor) (n : ℕ) → IsFilledFew sign plane plane' old cursor → cursor.at ≤ n → plane'.steps ≤ plane.steps + plane_limit sign n
drawing_fills sign plane plane' old cursor n f few = grind (arith, plane_few sign n (cursor.at - old.at) f.fills, at_most (cursor.state.pages == old.state.pages) 4)

-- PAGES IN TURN

-- at the start
pub under_way_first : (pages : PagesState) (cursor : Cursor) → IsSound pages.string.sign → length pages.string.source.octets < 2 ^ 32 → IsSized pages.plane pages.string.sign
    → pages.next ≡ 0 → pages.string_started ≡ pages.string.source.steps → pages.plane_started ≡ pages.plane.steps
    → IsPageStart pages.string.sign pages.string.source.octets cursor → cursor.state.pages ≡ 1 → IsUnderWay pages cursor
under_way_first pages cursor sound short size first read drawn begins one = grind (arith, within_between pages.string.sign pages.string.source.octets begins.0 begins.1 cursor begins.2)

module _ (old : PagesState) (start next : NextPage) (u : IsUnderWay old start.cursor) (more : old.next < page_count old.string) where
  none_yet : (n : ℕ) → cond (old.next == page_count old.string) n 0 ≡ 0
  none_yet n = ap (λ b. cond b n 0) (ne_eqb old.next (page_count old.string) (λ e. omega (arith, e, more)))

  -- after one more page
  module _ (string : CheckedData) (plane : BitPlane) (sign_kept : string.sign ≡ old.string.sign) (size_kept : (plane.width ≡ old.plane.width) × (plane.height ≡ old.plane.height))
      (on : IsReadOn old.string.source string.source start next) (f : IsFilledFew old.string.sign old.plane plane start.cursor next.cursor) (begins : IsNextPage string next (old.next + 1)) where
    abbrev pub moved : ℕ → PagesState
    moved k = record old { string = record { sign = old.string.sign; source = charged old.string.source k }; plane = plane; next = old.next + 1 }

    string_is : string ≡ (moved on.2.0).string
    string_is = λ i. record { sign = sign_kept i; source = on.2.3 i }

    begins_next : IsNextPage (moved on.2.0).string next (old.next + 1)
    begins_next = subst (λ s. IsNextPage s next (old.next + 1)) string_is begins

    -- only the last page of the string ends with no other
    extra : (n : ℕ) → cond (next.cursor.state.pages == start.cursor.state.pages) n 0 ≤ cond (old.next + 1 == page_count old.string) n 0
    extra n = first_of (search (rules, begins_next, cases_eq, eq-eqb, ne_eqb), grind (arith, begins_next, cases_eq, eq-eqb, ne_eqb))

    rows : tallest old.string.sign * next.cursor.at ≡ tallest old.string.sign * start.cursor.at + tallest old.string.sign * (next.cursor.at - start.cursor.at)
    rows = first_of (search (rules, mul-add), grind (arith, mul-add))

    still : IsUnderWay (moved on.2.0) next.cursor
    still = grind (arith, extra 2, none_yet 2, extra 4, none_yet 4, rows, mul-add (plane_octets old.string.sign) u.fills f.fills, begins_next)

    pub under_way_further : IsUnderWay (record (moved on.2.0) { string = string }) next.cursor
    under_way_further = subst (λ s. IsUnderWay (record (moved on.2.0) { string = s }) next.cursor) (sym string_is) still

    pub turns_page : TurnsPage old (record (moved on.2.0) { string = string })
    turns_page = grind (arith, rises_more old.string.source string.source, at_most (next.cursor.state.pages == start.cursor.state.pages) 2, drawing_fills old.string.sign old.plane plane start.cursor next.cursor (length old.string.source.octets) f on.1)

-- ---- the bounds of all pages

module _ (pages : PagesState) (cursor : Cursor) (u : IsUnderWay pages cursor) where
  pub all_read : IsReadFew pages
  all_read = (u.read_least, omega (arith, u.read_most, u.within, at_most (pages.next == page_count pages.string) 2))

  pub all_drawn : IsDrawnFew pages
  all_drawn = grind (arith, plane_few pages.string.sign (length pages.string.source.octets) cursor.at u.fills, at_most (pages.next == page_count pages.string) 4)

  pub all_few : drawing_limit pages.string.sign (length pages.string.source.octets) < 2 ^ 48
  all_few = drawing_few pages.string.sign (length pages.string.source.octets) u.sound u.short

  pub risen_few : (pages.string.source.steps - pages.string_started) + (pages.plane.steps - pages.plane_started) ≤ drawing_limit pages.string.sign (length pages.string.source.octets)
  risen_few = omega (arith, all_read, all_drawn)
