-- The sums of an area after one more placing item, and what is judged by them.
use Rattle.multi_judge.proofs.Common.{◌≡◌, ℕ, ◌<◌, ◌≤◌, Bool, true, false, not, ◌&&◌, ◌||◌, ◌==◌, List, [], ◌∷◌, ◌++◌, refl, sym, ap, ◌∙◌, arith, rules, Option, Some, None, nat_lt, list_any, after_last, or_parts, cases_eq, cases_lt, eq-eqb, le-ltb, lt-ltb, ne_eqb, cases_Bool, false≢true, le-leb, lt-leb, All-head, All-weaker, page_number, largest, Off, Spot, is_glyph, is_break, area_of, in_group, line_before, line_fits, area_fits, too_big, clashes, conflicts, page_number_known, largest_most, largest_push, push_ind, filter_none, own_group, in_group_other, filled, IsFilledOn, Area, Group, group_sum, area_sum, area_sum_in, line_sum, Split, split_sum, IsMost, group_room, ltb-false, leb-false, leb-true, goes_back, group_goes_back, break_put, ReachesGroup}
use Rattle.multi_judge.proofs.LineSumLemmas.{present_push}

-- no item of an area is in a group after the one with the largest justification
pub group_behind : (just : ℕ) (area : List Spot) → largest (λ (t : Spot). page_number t.at.page_just) area < just → in_group just area ≡ []
group_behind just area less = search (rules, All-weaker, filter_none, largest_most, ne_eqb)

-- an area in which no page justification is largest has no item
pub empty_area : (area : List Spot) → largest (λ (t : Spot). page_number t.at.page_just) area ≡ 0 → area ≡ []
empty_area [] e = refl
empty_area (s ∷ area) e =
    let f : Spot → ℕ = λ t. page_number t.at.page_just in
    absurd (omega (arith, e, All-head (λ t. f t ≤ largest f (s ∷ area)) s area (largest_most f (s ∷ area)), (page_number_known s.at.page_just).0))

-- an area that stays in its present group
pub area_stays : (area : List Spot) (just : ℕ) (a : Area) → a ≡ area_sum area → just ≤ a.present → a.present ≤ just → a ≡ area_sum_in just area
area_stays area just a e low high = first_of (search (rules), grind (arith))

-- an area after one more item of the present group
pub area_with : (area : List Spot) (s : Spot) (just : ℕ) → page_number s.at.page_just ≡ just → (a : Area) → a ≡ area_sum area → a.present ≤ just
    → (kept r : Area) → kept ≡ area_sum_in just area → r.present ≡ kept.present → r.top ≡ kept.top → r.middle ≡ kept.middle → r.group ≡ group_sum (in_group just (area ++ s ∷ []))
    → r ≡ area_sum (area ++ s ∷ [])
area_with area s just own a e order kept r is present top middle group = search (rules, cases_lt, in_group_other, largest_push, le-ltb)

-- the height of a group, by what is kept of the area
module _ (area : List Spot) (a : Area) (e : a ≡ area_sum area) where
  most_is : a.present ≡ largest (λ (t : Spot). page_number t.at.page_just) area
  most_is = ap (λ (a : Area). a.present) e

  pub none_of_later_group : (just : ℕ) → a.present < just → in_group just area ≡ []
  none_of_later_group just later = group_behind just area (omega (arith, most_is))

  -- the group of a justification that isn't before that of the present one
  pub group_of_later : (just : ℕ) → a.present < just → (group : Group) → group ≡ group_sum [] → group ≡ group_sum (in_group just area)
  group_of_later just later group is = is ∙ ap group_sum (sym (none_of_later_group just later))

  -- the present line
  pub own_line : a.group.line ≡ line_sum (after_last is_break (in_group a.present area))
  own_line = ap (λ (a : Area). a.group.line) e ∙ ap (λ n. line_sum (after_last is_break (in_group n area))) (sym most_is)

  pub group_of_own : (just : ℕ) → just ≡ a.present → a.group ≡ group_sum (in_group just area)
  group_of_own just own = ap (λ (a : Area). a.group) e ∙ ap (λ n. group_sum (in_group n area)) (sym (own ∙ most_is))

-- all page justifications are known
pages_known : (area : List Spot) → largest (λ (t : Spot). page_number t.at.page_just) area ≤ 4
pages_known = push_ind (λ area. largest (λ (t : Spot). page_number t.at.page_just) area ≤ 4) (omega arith) (λ area s known. omega (arith, known, (page_number_known s.at.page_just).1, largest_push (λ (t : Spot). page_number t.at.page_just) area s))

-- a character stands in a group with a known one
pub group_there : (area : List Spot) (a : Area) → a ≡ area_sum area → a.group.line.any ≡ true → 2 ≤ a.present
group_there [] a e any = absurd (false≢true (ap (λ (a : Area). a.group.line.any) (sym e) ∙ any))
group_there (s ∷ area) a e any =
    let f : Spot → ℕ = λ t. page_number t.at.page_just in
    omega (arith, ap (λ (a : Area). a.present) e, All-head (λ t. f t ≤ largest f (s ∷ area)) s area (largest_most f (s ∷ area)), (page_number_known s.at.page_just).0)

pub group_known : (area : List Spot) (a : Area) → a ≡ area_sum area → a.present ≤ 4
group_known area a e = omega (arith, ap (λ (a : Area). a.present) e, pages_known area)

-- CONFLICTS

back : (before : List Spot) (s : Spot) (page_just most : ℕ) → page_number s.at.page_just ≡ page_just → most ≡ largest (λ t. page_number t.at.page_just) (area_of s before) → nat_lt page_just most ≡ list_any (goes_back s) (area_of s before)
back before s page_just most page e = ap (λ n. nat_lt n most) (sym page) ∙ ap (nat_lt (page_number s.at.page_just)) e ∙ sym (group_goes_back s (area_of s before))

-- an item conflicts if its group is before the present one, or it is a character that clashes with one on the present line of its group
pub conflict_is : (before : List Spot) (s : Spot) (page_just present : ℕ) → page_number s.at.page_just ≡ page_just → present ≡ largest (λ t. page_number t.at.page_just) (area_of s before)
    → conflicts before s ≡ (nat_lt page_just present || (is_glyph s && list_any (clashes s) (after_last is_break (in_group page_just (area_of s before)))))
conflict_is before s page_just present page e = first_of (search (rules, back), grind (arith, back))

-- one that doesn't conflict isn't before the present group
pub no_back : (before : List Spot) (s : Spot) (page_just present : ℕ) → page_number s.at.page_just ≡ page_just → present ≡ largest (λ t. page_number t.at.page_just) (area_of s before) → conflicts before s ≡ false → present ≤ page_just
no_back before s page_just present page e none = ltb-false page_just present (or_parts _ _ (sym (conflict_is before s page_just present page e) ∙ none)).0

-- and clashes with none on the present line of its group, if it is a character
pub no_clash : (before : List Spot) (s : Spot) (page_just : ℕ) → is_glyph s ≡ true → page_number s.at.page_just ≡ page_just → conflicts before s ≡ false
    → list_any (clashes s) (after_last is_break (in_group page_just (area_of s before))) ≡ false
no_clash before s page_just g page none = first_of (search (rules, conflict_is, or_parts), grind (arith, conflict_is, or_parts))

pub conflicts_kept : (before : List Spot) (s : Spot) (page_just present : ℕ) (clash : Bool) → is_glyph s ≡ true → page_number s.at.page_just ≡ page_just → present ≡ largest (λ t. page_number t.at.page_just) (area_of s before)
    → clash ≡ list_any (clashes s) (after_last is_break (in_group present (area_of s before))) → (nat_lt page_just present || ((page_just == present) && clash)) ≡ conflicts before s
conflicts_kept before s page_just present clash g page e c = search (rules, back, cases_eq, cases_lt, conflict_is, eq-eqb, group_behind, lt-ltb, ne_eqb)

-- FIT

pub both_fit : (a b : Bool) → (a && b) ≡ not (not a || not b)
both_fit a b = search rules

-- the present line of a character's group is its line
pub present_line : (before : List Spot) (s : Spot) (page_just : ℕ) → is_glyph s ≡ true → page_number s.at.page_just ≡ page_just → after_last is_break (in_group page_just (area_of s before ++ s ∷ [])) ≡ line_before before s ++ s ∷ []
present_line before s page_just g page = search (rules, own_group, present_push)

pub fits_character : (before : List Spot) (s : Spot) (page_just width height : ℕ) (line area : Bool) → is_glyph s ≡ true → page_number s.at.page_just ≡ page_just → s.at.rectangle.width ≡ width → s.at.rectangle.height ≡ height
    → line ≡ line_fits width (after_last is_break (in_group page_just (area_of s before ++ s ∷ []))) → area ≡ area_fits height (area_of s before ++ s ∷ []) → (line && area) ≡ not (too_big Off before s)
fits_character before s page_just width height line area g page w h l a = search (rules)

pub fits_break : (before : List Spot) (s : Spot) (height : ℕ) (area : Bool) → is_break s ≡ true → s.at.rectangle.height ≡ height → area ≡ area_fits height (area_of s before ++ s ∷ []) → area ≡ not (too_big Off before s)
fits_break before s height area b h a = search (rules, break_put)

-- an area whose present group is filled with one more character
pub area_filled : (old new group : List Spot) (s : Spot) (just width : ℕ) → IsFilledOn just width group s old new
    → (kept r : Area) → kept ≡ area_sum_in just old → r.present ≡ kept.present → r.top ≡ kept.top → r.middle ≡ kept.middle → r.group ≡ group_sum (filled (Some width) (group ++ s ∷ []))
    → r ≡ area_sum new
area_filled old new group s just width on kept r is present top middle own = search (rules, cases_lt, le-ltb)

-- an area that goes on to the group with a page justification, or doesn't where that is before its present one
module _ {page height : ℕ} {old : Area} {most : ℕ} {reached : Bool} {new : Area} {most' : ℕ} (r : ReachesGroup page height old most reached new most') (page_known : (2 ≤ page) × (page ≤ 4)) where
  before : reached ≡ false → page < old.present
  before off = leb-false old.present page (sym r.order ∙ off)

  -- tells by it whether an item of that group conflicts
  pub reached_conflicts : (before : List Spot) (s : Spot) → old ≡ area_sum (area_of s before) → page_number s.at.page_just ≡ page
      → conflicts before s ≡ (not reached || (is_glyph s && list_any (clashes s) (after_last is_break (in_group page (area_of s before)))))
  reached_conflicts before s e own = search (rules, back, cases_lt, group_goes_back, le-leb, le-ltb, lt-leb, lt-ltb)

  -- the limits of its present group and of its present line are known where they were
  pub reached_group : (2 ≤ old.present → most ≡ group_room old height) → most' ≡ group_room new height
  reached_group is = search (rules, before, cases_Bool)

  pub reached_line : (width most : ℕ) → IsMost width old.group.line most → IsMost width new.group.line most
  reached_line width most is = search (rules, cases_Bool, cases_lt, false≢true, leb-true)

-- a group after the present one has no line yet
pub nothing_yet : (old group : List Spot) (just width : ℕ) → in_group just old ≡ filled (Some width) group → (a : Area) → a ≡ area_sum old → a.present < just
    → ◌≡◌ {A = Option Split} None (split_sum (after_last is_break (filled (Some width) group)))
nothing_yet old group just width before a e later = first_of (search (rules, before, group_behind), grind (arith, before, group_behind))
