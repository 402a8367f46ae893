-- The areas of a page, drawn one after the other.
use Rattle.multi_layout.proofs.Common.{IsSized, octet_count, ◌≡◌, ℕ, ◌+◌, ◌-◌, ◌*◌, ◌<◌, Counted, RisesBetween, next_steps, ◌≤◌, Bool, true, false, cond, ◌==◌, inl, inr, List, [], ◌∷◌, ◌++◌, map, None, Some, refl, sym, ap, subst, ◌∙◌, arith, append-nil, rules, count_by, mul-add, mul-le-mul_left, eq-eqb, map-append, sum_by-append, reading, Item, spell, NewPage, BitPlane, is_lit, Defaults, SignData, tallest, Standing, put_at, spots, standing, has_colour, laid_out, BeginsPage, Does, Meaning, begins_area, is_new_page, meaning, meanings, picture, shown_colour, IsAccepted, present_area, pages_of, covered_same, same_page_behind, present_area-new, NextItem, pages_of-push, Cursor, Layer, AreaLines, plane_octets, IsFilledFew, IsPagePassed, IsPageStart, IsAreaDrawn, IsDrawnUpTo, IsFilledBy, IsPageDrawn, IsBetween, IsFirst, IsRead, items_of, meant, LaidItem, IsReading, each_string_has_a_reading, none_found, one_reading, EndsPage, covered_begins, covered_ends}
use Rattle.step_count.specs.Count.{raised}
use Rattle.multi_meaning.specs.Picture as drawn
use Rattle.multi_layout.proofs.AreaDrawLemmas.{area_over, drawn_more, filled_then}
use Rattle.multi_layout.proofs.PieceLemmas.{first_begins, first_ended, laid_pages, no_piece}
use Rattle.multi_layout.proofs.WalkLemmas.{map_split, same_octets, steps_then, steps_within, within_between}

-- THE ITEMS OF A STRING

-- they are those of its reading
pub same_items : (sign : SignData) (octets : List ℕ) (items : List Item) → IsAccepted sign octets items → items ≡ (reading octets).items
same_items sign octets items a =
    let read : IsReading octets items [] = record { each = a.each; spelled = a.spelled ∙ sym (append-nil (spell items)); ends = none_found [] refl } in
    (one_reading octets items (reading octets).items [] (reading octets).rest read (each_string_has_a_reading octets)).0

-- and so is what they mean
pub same_meanings : (sign : SignData) (octets : List ℕ) (items : List Item) → IsAccepted sign octets items → map meaning items ≡ meanings octets
same_meanings sign octets items a = ap (map meaning) (same_items sign octets items a)

pub pages_of-append : (a b : List Meaning) → pages_of (a ++ b) ≡ pages_of a + count_by is_new_page b
pages_of-append a b = omega (arith, sum_by-append (λ x. cond (is_new_page x) 1 0) a b)

page_of : (sign : SignData) (items : List Meaning) → (standing sign items).page + 1 ≡ pages_of items
unfolding standing
page_of sign items = refl

module _ {sign : SignData} {octets : List ℕ} {before behind : List LaidItem} {cursor : Cursor} (b : IsBetween sign octets before behind cursor) where
  -- the pieces mean what the string is laid out as
  all_laid : map meant (before ++ behind) ≡ laid_out sign (meanings octets)
  all_laid = first_of (search (rules, map-append, same_meanings), grind (arith, map-append, same_meanings))

  -- and have its pages
  pub pages_left : cursor.state.pages + count_by is_new_page (map meant behind) ≡ pages_of (meanings octets)
  pages_left = grind (arith, pages_of-append (map meant before) (map meant behind), map-append meant before behind, all_laid, laid_pages sign (meanings octets))

-- AREAS OF A PAGE

-- where a page begins, no area has an item yet
nothing_placed : (sign : SignData) (before : List Meaning) → BeginsPage before → present_area sign before ≡ []
unfolding spots
nothing_placed sign before begins = first_of (search (rules, present_area-new), grind (arith, present_area-new))

-- the first of them begins with the page, which shows its background
pub page_begins : (sign : SignData) (octets : List ℕ) (layer : Layer) (cursor : Cursor) (plane : BitPlane) (on : Bool) → IsPageStart sign octets cursor → on ≡ (shown_colour sign cursor.state.attributes.back == layer.colour)
    → ((x y : ℕ) → x < plane.width → y < plane.height → is_lit plane x y ≡ on) → IsPageDrawn sign octets layer cursor.state.pages cursor plane
page_begins sign octets layer cursor plane on begins colour pixels = first_of (search (rules, covered_begins, nothing_placed), grind (arith, covered_begins, nothing_placed))

-- from the start of a page on its areas are passed, the last one read and drawn, with these steps over the string and from this plane on
pub record IsAreaPassed (sign : SignData) (layer : Layer) (page : ℕ) (read : AreaLines) (start new : Cursor) (source source' : Counted) (plane plane' : BitPlane) : Type 0 where
  pub drawn : IsAreaDrawn sign source.octets layer page read new plane'
  pub on : start.at ≤ new.at
  pub reached : read.end ≤ new.at
  pub same : source'.octets ≡ source.octets
  pub steps : RisesBetween source source' 0 (18 * (new.at - start.at) + 1 + next_steps read.next)
  pub fills : IsFilledBy sign plane plane' (new.at - start.at)

pub area_passed : {sign : SignData} {layer : Layer} {page : ℕ} {read : AreaLines} {start old new : Cursor} {source there source' : Counted} {filled plane plane' : BitPlane} → IsPageDrawn sign source.octets layer page old plane
    → start.at ≤ old.at → RisesBetween source there 0 (18 * (old.at - start.at)) → IsFilledBy sign filled plane (old.at - start.at) → (IsPageDrawn sign there.octets layer page old plane → IsAreaDrawn sign there.octets layer page read new plane')
    → (new.at ≡ read.end) × (old.at ≤ new.at) → RisesBetween there source' 0 (18 * (new.at - old.at) + 1 + next_steps read.next) → IsFilledBy sign plane plane' (new.at - old.at)
    → IsAreaPassed sign layer page read start new source source' filled plane'
area_passed {sign} {source = source} {filled = filled} {plane} {plane'} d on steps fills draws at steps' fills' = record {
  drawn = rw (← same_octets steps.3) (draws (rw (same_octets steps.3) d));
  on = omega (arith, at);
  reached = omega (arith, at);
  same = same_octets steps'.3 ∙ same_octets steps.3;
  steps = steps_within source (steps_then source steps steps') (omega arith) (omega (arith, at));
  fills = subst (IsFilledBy sign filled plane') (omega (arith, at)) (filled_then sign filled plane plane' _ _ fills fills');
}

-- an area is passed, and begins with this item: the one after it
pub record IsNextArea (sign : SignData) (octets : List ℕ) (layer : Layer) (page : ℕ) (next : NextItem) (cursor : Cursor) (plane : BitPlane) : Type 0 where
  pub before : List LaidItem
  pub rest : List LaidItem
  pub item : LaidItem
  pub up_to : IsDrawnUpTo sign octets layer page before (item ∷ rest) cursor plane
  pub read_is : IsRead item next
  pub begins : begins_area (meant item) ≡ true

pub next_area : {sign : SignData} {layer : Layer} {page : ℕ} {read : AreaLines} {next : NextItem} {start cursor : Cursor} {source source' : Counted} {plane plane' : BitPlane}
    → IsAreaPassed sign layer page read start cursor source source' plane plane' → read.next ≡ Some next → IsNextArea sign source.octets layer page next cursor plane'
next_area {sign} {layer} {page} {next = next} {cursor = cursor} {source} {plane' = plane'} e found =
    let d = e.drawn in
    let (ends, first) = area_over d e.reached in
    let (item, rest, split, read_is) = first_ended d.up_to.between ends next (subst (IsFirst (items_of d.behind)) found first) in
    grind (arith, d, ends, item, rest, split, read_is, first_begins)

-- the rest of the string covers nothing of the page where the page ends
page_shown : {sign : SignData} {octets : List ℕ} {layer : Layer} {page : ℕ} {before behind : List LaidItem} {cursor : Cursor} {plane : BitPlane} → IsDrawnUpTo sign octets layer page before behind cursor plane
    → EndsPage (map meant behind) → drawn.Lights plane (picture sign octets (page - 1) layer.phase layer.colour)
page_shown {sign} {octets} {layer} {page} {before} {behind} {cursor} {plane} u ends = λ column row across down.
    let done = map meant before in
    let all : map meant (before ++ behind) ≡ done ++ map meant behind = map-append meant before behind in
    let here : (standing sign done).page ≡ page - 1 = omega (arith, u.page_is, u.between.state_is.pages, page_of sign done) in
    grind (arith, covered_ends sign done (map meant behind) layer.phase layer.colour column row ends, all_laid u.between)

-- the end of the string
module _ {sign : SignData} {octets : List ℕ} {layer : Layer} {page : ℕ} {read : AreaLines} {cursor : Cursor} {plane : BitPlane} (d : IsAreaDrawn sign octets layer page read cursor plane) (reached : read.end ≤ cursor.at)
    (none : read.next ≡ None) where
  nothing : d.behind ≡ []
  nothing = no_piece d.behind (subst (IsFirst (items_of d.behind)) none (area_over d reached).1)

  pub last_shown : drawn.Lights plane (picture sign octets (page - 1) layer.phase layer.colour)
  last_shown = page_shown d.up_to (subst (λ l. EndsPage (map meant l)) (sym nothing) (inl refl))

  pub last_passed : (start : Cursor) → start.state.pages ≡ page → start.at ≤ cursor.at → IsPagePassed sign octets start cursor
  last_passed start same on = grind (arith, within_between sign octets d.before d.behind cursor d.up_to.between, pages_left d.up_to.between, nothing)

pub new_page_is : (m : Meaning) → is_new_page m ≡ true → m ≡ Does NewPage
new_page_is m is = grind (arith)

-- what begins an area and no page is a rectangle, which puts nothing
area_no_page : (defaults : Defaults) (at : Standing) (m : Meaning) → begins_area m ≡ true → is_new_page m ≡ false → put_at defaults at m ≡ None
area_no_page defaults at x area other = grind (arith)

module _ {sign : SignData} {octets : List ℕ} {layer : Layer} {page : ℕ} {next : NextItem} {cursor : Cursor} {plane : BitPlane} (n : IsNextArea sign octets layer page next cursor plane) where
  -- a new page
  module _ (turns : is_new_page (meant n.item) ≡ true) where
    abbrev is : meant n.item ≡ Does NewPage
    is = new_page_is (meant n.item) turns

    pub page_ends : drawn.Lights plane (picture sign octets (page - 1) layer.phase layer.colour)
    page_ends = page_shown n.up_to (inr (map meant n.rest, ap (λ m. m ∷ map meant n.rest) is))

    pub page_passed : (start new : Cursor) → start.state.pages ≡ page → IsBetween sign octets (n.before ++ n.item ∷ []) n.rest new → start.at ≤ new.at → IsPagePassed sign octets start new
    page_passed start new same between on = grind (arith, map_split n.before [] n.item (Does NewPage) is, within_between sign octets (n.before ++ n.item ∷ []) n.rest new between, pages_of-push (map meant n.before) (Does NewPage))

  -- a rectangle
  pub page_goes_on : is_new_page (meant n.item) ≡ false → (new : Cursor) → IsBetween sign octets (n.before ++ n.item ∷ []) n.rest new → IsPageDrawn sign octets layer page new plane
  page_goes_on other new between =
      let at = standing sign (map meant n.before) in
      let all = spots sign (map meant n.before ++ meant n.item ∷ map meant n.rest) in
      let puts = area_no_page sign.defaults at (meant n.item) n.begins other in
      record {
        before = n.before ++ n.item ∷ [];
        behind = n.rest;
        up_to = drawn_more n.up_to (meant n.item) refl other new plane between
            (λ drawn x y across down. drawn x y across down
            ∙ sym (covered_same sign layer.phase layer.colour all x y (map meant n.before) (meant n.item) at.page (inl puts))
            ∙ ap (λ p. has_colour sign p layer.phase layer.colour all (spots sign (map meant n.before ++ meant n.item ∷ [])) x y) (sym (same_page_behind sign (map meant n.before) (meant n.item) other)));
        begins = ap (present_area sign) (map_split n.before [] n.item (meant n.item) refl) ∙ present_area-new sign (map meant n.before) (meant n.item) n.begins;
      }

-- STEPS OVER THE PLANE

-- a bound that holds only where two numbers are one
pub if_same : (a b k : ℕ) → a ≡ b → cond (a == b) k 0 ≡ k
if_same a b k is = ap (λ t. cond t k 0) (eq-eqb a b is)

-- a fill takes one for each octet of the plane
pub fill_steps : (sign : SignData) (old new : BitPlane) → IsSized old sign → new.steps ≡ raised old.steps (octet_count old) → (old.steps ≤ new.steps) × (new.steps ≤ old.steps + plane_octets sign)
fill_steps sign old new size steps = let count : octet_count old ≡ plane_octets sign = cc in (omega arith, omega arith)

-- those of a page: the fill where it begins, and those of its areas
pub page_filled : (sign : SignData) (a b : BitPlane) {c : BitPlane} (old new : Cursor) {octets : ℕ} → IsSized a sign → b.steps ≡ raised a.steps (octet_count a) → IsFilledBy sign b c octets → octets ≤ new.at - old.at
    → octets + 4 ≤ (new.at - old.at) + cond (new.state.pages == old.state.pages) 4 0 → IsFilledFew sign a c old new
page_filled sign a b old new size steps x within four = grind (arith, fill_steps sign a b size steps, mul-le-mul_left (tallest sign) within, mul-add (plane_octets sign) x.fills 1)
