-- A cell that is put on a plane.
use Rattle.multi_meaning.proofs.Common.{◌≡◌, ℕ, ◌+◌, ◌-◌, ◌<◌, ◌≤◌, Bool, ◌&&◌, nat_le, nat_lt, min, List, length, take, arith, ◌^◌, Option, IfSome, cond, ◌==◌, [], ◌∷◌, Some, None, refl, false, ◌++◌, ap, ◌∙◌, append-nil, ◌⊎◌, inl, inr, unwrap_or, nat_tests, All-cons, All-head, All-tail, filter_map-append, filter_map, cons_option, All, option_map_or, NewPage, Back, SignData, CellData, cell_numbered, thing_at, things_among, things, in_plane, some_after, standing, Put, Glyph, Break, Cover, Spot, put_at, spots, place_of, has_colour, Meaning, Shows, Does, slice_index, get_or-take, length-take-le, get_or_default, All-take, AllByRecursion, eq-eqb, IsWithin, sized, Thing, shown_colour, is_lit_at, BeginsPage, EndsPage}
use Rattle.page_plane.specs.Put.{is_put, is_first_put, is_block_put}
use Rattle.multi_token.specs.Run.{IsRun, taken}
use Rattle.sign_font.specs.Advance.{AreAdvances}
use Rattle.sign_font.specs.Text.{HasWidth}
use Rattle.sign_font.proofs.AdvanceLemmas.{IsOctet, run_width}
use Rattle.multi_meaning.proofs.WordLemmas.{last_or-append, some_after_push, some_after-append, cases_Option}
use Rattle.multi_meaning.proofs.StandingLemmas.{spots_behind, spots_nothing, spots_more, spots_with, some_all, IsFrom, pages_behind, standing_push}
use Rattle.sign_font.specs.Cell as cells

-- the pixels of a cell with its upper left pixel at a column and a row
abbrev pub covers : cells.SizedCell → ℕ → ℕ → ℕ → ℕ → Bool
covers cell column row x y = nat_le column x && nat_le row y && nat_lt y (row + cell.height) && cells.is_lit cell (x - column) (y - row)

-- of the first rows of a cell, as many as are left of the plane, what comes to a pixel of the plane is what the cell has lit there
pub put_rows_of : (cell : cells.SizedCell) (rows : List ℕ) (column row wide high shown count x y : ℕ) → cell.width ≤ 64
    → length rows ≡ cell.height → ((r : ℕ) → r < cell.height → cells.IsRowOf cell r (slice_index rows r))
    → shown ≡ min cell.width wide → count ≡ min cell.height high → x < column + wide → y < row + high
    → is_block_put column row shown (take count rows) x y ≡ covers cell column row x y
unfolding is_first_put is_put
put_rows_of cell rows column row wide high shown count x y narrow all each shown_is count_is inside above =
    grind (arith, length-take-le, nat_tests, get_or-take)

module _ (width_of : ℕ → Option ℕ) (sound : (octet : ℕ) → IfSome (width_of octet) (IsWithin 1 64)) (table : List ℕ) (tables : AreAdvances width_of table)
    (gap room : ℕ) (octets : List ℕ) (len : ℕ) (run : IsRun table gap room octets len) (short : room < 32768) (each : (k : ℕ) → slice_index octets k < 2 ^ 8) where
  pub front_width : HasWidth width_of gap (take len octets) (taken table gap (take len octets))
  front_width = run_width width_of sound table tables gap (take len octets) (All-take IsOctet len octets (λ k d h.
      grind (arith, get_or_default, each k))) (omega (arith, run.fits, short))

-- what a thing gives a pixel of a page
abbrev pub pick : ℕ → ℕ → ℕ → Thing → Option ℕ
pick page column row thing = cond ((thing.page == page) && thing.covers column row) (Some thing.colour) None

-- what a thing gives it, if there is one
abbrev pub picked : ℕ → ℕ → ℕ → Option Thing → Option ℕ
picked page column row None = None
picked page column row (Some thing) = pick page column row thing

-- what items make, one after the other, gives a pixel the same where each gives it the same
pub all_same : {X : Type 0} (page column row : ℕ) (f g : List X → X → Option Thing) (Holds : X → Type 0)
    → ((before : List X) (x : X) → Holds x → picked page column row (f before x) ≡ picked page column row (g before x)) → (xs : List X) → AllByRecursion Holds xs
    → filter_map (pick page column row) (some_after f xs) ≡ filter_map (pick page column row) (some_after g xs)
all_same page column row f g Holds same [] hold = refl
all_same page column row f g Holds same (x ∷ xs) hold =
    grind (arith, all_same page column row (λ before. f (x ∷ before)) (λ before. g (x ∷ before)) Holds (λ before. same (x ∷ before)) xs hold.1)

-- a pixel has the colour of one more thing, if it covers the pixel, else the colour it had
abbrev covers_at : Thing → ℕ → ℕ → ℕ → Bool
covers_at t page column row = (t.page == page) && t.covers column row

-- a pixel after one more item that puts something: the colour of the thing, if it is one that covers the pixel, else as before
covered_put : (sign : SignData) (page phase colour : ℕ) (all : List Spot) (column row : ℕ) (before : List Meaning) (x : Meaning) (put : Put)
    → put_at sign.defaults (standing sign before) x ≡ Some put → let old = has_colour sign page phase colour all (spots sign before) column row in
    let s : Spot = record { at = standing sign before; put = put } in has_colour sign page phase colour all (spots sign (before ++ x ∷ [])) column row
    ≡ option_map_or (λ (t : Thing). cond (covers_at t page column row) (shown_colour sign t.colour == colour) old)
    (thing_at phase (place_of (spots sign before) all s) s put) old
unfolding has_colour things_among
covered_put sign page phase colour all column row before x put puts =
    let s : Spot = record { at = standing sign before; put = put } in
    let push = some_after_push (λ before spot. thing_at phase (place_of before all spot) spot spot.put) (spots sign before) s in
    let cases_Option' = cases_Option (thing_at phase (place_of (spots sign before) all s) s put) in
    grind (arith, spots_more sign before x put puts, push, filter_map-append, last_or-append, append-nil, cases_Option')

module _ (sign : SignData) (phase colour : ℕ) (all : List Spot) (column row : ℕ) where
  -- a pixel has the background in force after some items
  abbrev HasBackground : List Meaning → Type 0
  HasBackground items = has_colour sign (standing sign items).page phase colour all (spots sign items) column row ≡ (shown_colour sign (standing sign items).back == colour)

  begins_next : (earlier : List Meaning) → HasBackground (earlier ++ Does NewPage ∷ [])
  begins_next earlier =
      let standing_push' = standing_push sign earlier (Does NewPage) in
      grind (arith, standing_push', covered_put sign ((standing sign earlier).page + 1) phase colour all column row earlier (Does NewPage) _ refl, eq-eqb)

  -- where a page begins, every pixel has it
  pub covered_begins : (before : List Meaning) → BeginsPage before
      → has_colour sign (standing sign before).page phase colour all (spots sign before) column row ≡ (shown_colour sign (standing sign before).back == colour)
  unfolding has_colour things_among spots standing
  covered_begins before p1 = grind (arith, begins_next)

  -- a pixel after one more character: its colour if the character covers the pixel, else as before
  pub covered_glyph : (before : List Meaning) (number : ℕ) (cell : CellData) → cell_numbered (standing sign before).font number ≡ Some cell →
      let at = standing sign before in let spot : Spot = record { at = at; put = Glyph cell } in let place = place_of (spots sign before) all spot in
      has_colour sign at.page phase colour all (spots sign (before ++ Shows number ∷ [])) column row
      ≡ cond (is_lit_at phase at.flash && nat_le place.column column && nat_le place.row row && nat_lt row (place.row + at.font.height) && cells.is_lit (sized at.font cell) (column - place.column) (row - place.row))
      (shown_colour sign at.fore == colour) (has_colour sign at.page phase colour all (spots sign before) column row)
  covered_glyph before number cell found =
      grind (arith, covered_put sign (standing sign before).page phase colour all column row before (Shows number) (Glyph cell), found, eq-eqb)

  -- after a background every pixel of its page has it
  pub covered_cover : (before : List Meaning) (given : Option ℕ)
      → has_colour sign (standing sign before).page phase colour all (spots sign (before ++ Does (Back given) ∷ [])) column row ≡ (shown_colour sign (unwrap_or given sign.defaults.back) == colour)
  covered_cover before given = grind (arith, covered_put sign (standing sign before).page phase colour all column row before (Does (Back given)) _ refl)

  -- an item that puts nothing, or ends a line, leaves every pixel of every page
  pub covered_same : (before : List Meaning) (x : Meaning) (page : ℕ)
      → (put_at sign.defaults (standing sign before) x ≡ None) ⊎ ((gap : Option ℕ) × (put_at sign.defaults (standing sign before) x ≡ Some (Break gap)))
      → has_colour sign page phase colour all (spots sign (before ++ x ∷ [])) column row ≡ has_colour sign page phase colour all (spots sign before) column row
  covered_same before x page (inl none) = ap (λ l. has_colour sign page phase colour all l column row) (spots_nothing sign before x none)
  covered_same before x page (inr (gap, ends)) = covered_put sign page phase colour all column row before x (Break gap) ends

-- where h gives nothing of each item it gives none
maps_none : {X Y : Type 0} (h : X → Option Y) (xs : List X) → All (λ x. h x ≡ None) xs → filter_map h xs ≡ []
maps_none h [] none = refl
maps_none h (x ∷ xs) none = ap (λ o. cons_option o (filter_map h xs)) (All-head (λ x. h x ≡ None) x xs none) ∙ maps_none h xs (All-tail (λ x. h x ≡ None) x xs none)

-- a thing is of another page
abbrev IsBeside : ℕ → Thing → Type 0
IsBeside page t = (t.page == page) ≡ false

module _ (sign : SignData) (page phase colour : ℕ) (all : List Spot) (column row : ℕ) where
  -- spots of later pages leave every pixel of a page
  covered_later : (some more : List Spot) → All (IsFrom (page + 1)) more
      → has_colour sign page phase colour all (some ++ more) column row ≡ has_colour sign page phase colour all some column row
  unfolding has_colour things_among
  covered_later some more later =
      let f = λ (next : List Spot) (spot : Spot). thing_at phase (place_of (some ++ next) all spot) spot spot.put in
      let some_all' = some_all (IsFrom (page + 1)) (IsBeside page) f more later (λ next s h. grind (arith, h)) in
      grind (arith, some_after-append, filter_map-append, append-nil, maps_none (pick page column row) (some_after f more), some_all')

module _ (sign : SignData) (before : List Meaning) where
  -- after a new page all is of a later page
  later_behind : (rest : List Meaning) → (more : List Spot) × (spots sign (before ++ Does NewPage ∷ rest) ≡ spots sign before ++ more) × All (IsFrom ((standing sign before).page + 1)) more
  later_behind rest = (
    record { at = standing sign before; put = Cover ((standing sign before).page + 1) (standing sign before).back } ∷ spots_behind sign (before ++ Does NewPage ∷ []) rest,
    spots_with sign before (Does NewPage) rest _ refl,
    grind (arith, All-cons, standing_push sign before (Does NewPage), pages_behind sign (before ++ Does NewPage ∷ []) rest),
  )

  -- where a page ends, the rest of the string covers none of its pixels
  pub covered_ends : (behind : List Meaning) (phase colour column row : ℕ) → EndsPage behind
      → in_plane sign (before ++ behind) (standing sign before).page phase colour column row
      ≡ has_colour sign (standing sign before).page phase colour (spots sign (before ++ behind)) (spots sign before) column row
  unfolding in_plane things has_colour
  covered_ends behind phase colour column row (inl last) = grind (arith, last, append-nil)
  covered_ends behind phase colour column row (inr (rest, next)) = grind (arith, next, later_behind rest, covered_later)
