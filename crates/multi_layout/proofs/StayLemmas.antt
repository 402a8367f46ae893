-- What is shown of a text stays until its next change.
use Rattle.std.proofs.Common.{◌≡◌, ℕ, ◌+◌, ◌-◌, ◌%◌, ◌<◌, ◌≤◌, Bool, true, false, ◌==◌, ◌||◌, ◌&&◌, nat_le, nat_lt, cond, List, length, Some, None, refl, sym, ap, ◌∙◌, subst, inl, inr, arith, eqb-true}
use Rattle.std.proofs.Math.Nat.{mod-lt}
use Rattle.std.proofs.lemmas.Bool.{cases_Bool, cases_lt, eq-eqb, or_right, true≢false}
use Rattle.std.specs.List.{AllByRecursion, filter_map, last_or}
use Rattle.std.specs.Option.{unwrap_or}
use Rattle.sign_font.specs.Cell as cells
use Rattle.sign_font.specs.Sign.{SignData, sized}
use Rattle.multi_meaning.specs.Address.{Break, Cover, Glyph, Put, Spot, spots}
use Rattle.multi_meaning.specs.declared.times.Shown.{Shown}
use Rattle.multi_meaning.specs.declared.times.Shown.TheVariants.{Off, Page}
use Rattle.multi_meaning.specs.Laid.{laid_out}
use Rattle.multi_meaning.specs.Meaning.{Meaning, meanings}
use Rattle.multi_meaning.specs.Picture.{in_plane, pixel_at, shown_colour, thing_at, things, things_among}
use Rattle.multi_meaning.specs.Place.{place_of}
use Rattle.multi_meaning.specs.Times.{Times, cycle, page_times, shown, shown_within}
use Rattle.multi_meaning.proofs.DrawnLemmas.{all_same, pick, picked}
use Rattle.multi_meaning.proofs.TimesLemmas.{cycle_within, shown_always, shown_modulo}
use Rattle.multi_layout.specs.Change.{IsBefore, IsSamePage, Stays, change_at, change_of, change_within, flashes_left, page_flashes, sooner, times_left}
use Rattle.multi_layout.proofs.FlashLemmas.{before_all, before_both, mod_on, steady}
use Rattle.multi_layout.proofs.LaidLemmas.{IsSteady, laid_out_steady}
use Rattle.multi_layout.proofs.TurnLemmas.{IsTurnOf, later, off_shown, on_shown, turn_later, turn_of}

-- PIXELS

-- what is put gives a pixel of a page the same before it changes
put_same : (phase tenths page column row : ℕ) (before all : List Spot) (at : Spot) (put : Put) → IsSteady page phase tenths (record { at = at.at; put = put })
    → picked page column row (thing_at (phase + tenths) (place_of before all at) at put) ≡ picked page column row (thing_at phase (place_of before all at) at put)
put_same phase tenths page column row before all at (Cover other colour) soon = refl
put_same phase tenths page column row before all at (Break gap) soon = refl
put_same phase tenths page column row before all at (Glyph cell) soon =
    let place = place_of before all at in
    let covers : Bool → Bool = λ lit. lit && nat_le place.column column && nat_le place.row row && nat_lt row (place.row + at.at.font.height)
    && cells.is_lit (sized at.at.font cell) (column - place.column) (row - place.row) in
    elim (cases_Bool (at.at.page == page)) [
      | inl is ↦ ap (λ lit. cond ((at.at.page == page) && covers lit) (Some at.at.fore) None) (steady phase tenths at.at.flash (soon (eqb-true at.at.page page is)))
      | inr isn't ↦ rw isn't refl
    ]

things_same : (sign : SignData) (phase tenths : ℕ) (items : List Meaning) (page column row : ℕ) → AllByRecursion (IsSteady page phase tenths) (spots sign items)
    → filter_map (pick page column row) (things sign (phase + tenths) items) ≡ filter_map (pick page column row) (things sign phase items)
unfolding things things_among
things_same sign phase tenths items page column row soon =
    let all = spots sign items in
    all_same page column row (λ before spot. thing_at (phase + tenths) (place_of before all spot) spot spot.put) (λ before spot. thing_at phase (place_of before all spot) spot spot.put)
    (IsSteady page phase tenths) (λ before spot one. put_same phase tenths page column row before all spot spot.put one) all soon

pixel_same : (sign : SignData) (phase tenths : ℕ) (items : List Meaning) (page colour column row : ℕ) → AllByRecursion (IsSteady page phase tenths) (spots sign items)
    → in_plane sign items page (phase + tenths) colour column row ≡ in_plane sign items page phase colour column row
unfolding in_plane
pixel_same sign phase tenths items page colour column row soon =
    ap (λ found. shown_colour sign (unwrap_or (last_or None found) sign.defaults.back) == colour) (things_same sign phase tenths items page column row soon)

-- a page keeps its pixels until one of its flashes changes
page_same : (sign : SignData) (text : List ℕ) (page phase tenths : ℕ) → IsBefore tenths (flashes_left phase (page_flashes sign (meanings text) page)) → (colour column row : ℕ)
    → pixel_at sign (meanings text) (Page page (phase + tenths)) colour column row ≡ pixel_at sign (meanings text) (Page page phase) colour column row
page_same sign text page phase tenths soon colour column row =
    pixel_same sign phase tenths (laid_out sign (meanings text)) page colour column row
    (laid_out_steady sign page phase tenths (meanings text) (before_all phase tenths (page_flashes sign (meanings text) page) soon))

-- WHAT IS SHOWN

-- what stays as it is
abbrev Same : SignData → List ℕ → Shown → Shown → Type 0
Same sign text now then =
    IsSamePage now then × ((colour column row : ℕ) → pixel_at sign (meanings text) then colour column row ≡ pixel_at sign (meanings text) now colour column row)

same_page : (sign : SignData) (text : List ℕ) (page phase later tenths : ℕ) → later ≡ phase + tenths → IsBefore tenths (flashes_left phase (page_flashes sign (meanings text) page))
    → Same sign text (Page page phase) (Page page later)
same_page sign text page phase later tenths is soon =
    (refl, λ colour column row. ap (λ n. pixel_at sign (meanings text) (Page page n) colour column row) is ∙ page_same sign text page phase tenths soon colour column row)

-- one page, or a cycle of 0
always_same : (sign : SignData) (text : List ℕ) (clock tenths : ℕ) → let pages = page_times sign (meanings text) in ((length pages == 1) || (cycle pages == 0)) ≡ true
    → IsBefore tenths (change_at sign (meanings text) clock) → Same sign text (shown sign text clock) (shown sign text (clock + tenths))
unfolding change_at
always_same sign text clock tenths always soon =
    let pages = page_times sign (meanings text) in
    let change = ap (λ b. cond b (flashes_left clock (page_flashes sign (meanings text) 0)) (change_within sign (meanings text) (clock % cycle pages))) always in
    let both = same_page sign text 0 clock (clock + tenths) tenths refl (subst (IsBefore tenths) change soon) in
    subst (λ s. Same sign text s (shown sign text (clock + tenths))) (sym (shown_always pages clock always))
    (subst (λ s. Same sign text (Page 0 clock) s) (sym (shown_always pages (clock + tenths) always)) both)

-- a time of the cycle
module _ (sign : SignData) (text : List ℕ) (time tenths : ℕ) (within : time < cycle (page_times sign (meanings text))) (soon : IsBefore tenths (change_within sign (meanings text) time)) where
  abbrev pages : List Times
  pages = page_times sign (meanings text)

  turn : IsTurnOf pages time
  turn = turn_of pages time within

  -- it stays in the page's turn, so within the cycle
  within_cycle : time + tenths < cycle turn.before + (turn.here.on + turn.here.off) → time + tenths < cycle pages
  within_cycle until =
      let whole = cycle_within turn.before turn.after turn.here in
      let all = ap cycle turn.is in
      omega (arith, until, whole, all)

  -- in its on time
  on_same : time < cycle turn.before + turn.here.on → (time + tenths < cycle pages) × Same sign text (shown_within pages time) (shown_within pages (time + tenths))
  on_same early =
      let now = on_shown pages time turn early in
      let change : IsBefore tenths (sooner (flashes_left (time - cycle turn.before) (page_flashes sign (meanings text) (length turn.before))) (Some (times_left pages time))) =
      subst (λ s. IsBefore tenths (change_of sign (meanings text) (times_left pages time) s)) now soon in
      let (flash, left) = before_both tenths (flashes_left (time - cycle turn.before) (page_flashes sign (meanings text) (length turn.before))) (Some (times_left pages time)) change in
      let (until, side) = later pages time tenths turn left in
      let still : time + tenths < cycle turn.before + turn.here.on = elim side [
        | inl both ↦ both.1
        | inr late ↦ absurd (omega (arith, late, early))
      ] in
      let then = on_shown pages (time + tenths) (turn_later pages time tenths turn until) still in
      let began = turn.began in
      let phase : time + tenths - cycle turn.before ≡ time - cycle turn.before + tenths = omega (arith, began) in
      let both = same_page sign text (length turn.before) (time - cycle turn.before) (time + tenths - cycle turn.before) tenths phase flash in
      (within_cycle until, subst (λ s. Same sign text s (shown_within pages (time + tenths))) (sym now) (subst (λ s. Same sign text (Page (length turn.before) (time - cycle turn.before)) s) (sym then) both))

  -- in its off time
  off_same : cycle turn.before + turn.here.on ≤ time → (time + tenths < cycle pages) × Same sign text (shown_within pages time) (shown_within pages (time + tenths))
  off_same late =
      let now = off_shown pages time turn late in
      let left : tenths < times_left pages time = subst (λ s. IsBefore tenths (change_of sign (meanings text) (times_left pages time) s)) now soon in
      let until = (later pages time tenths turn left).0 in
      let then = off_shown pages (time + tenths) (turn_later pages time tenths turn until) (omega (arith, late)) in
      let both : Same sign text Off Off = (tt, λ colour column row. refl) in
      (within_cycle until, subst (λ s. Same sign text s (shown_within pages (time + tenths))) (sym now) (subst (λ s. Same sign text Off s) (sym then) both))

  within_same : (time + tenths < cycle pages) × Same sign text (shown_within pages time) (shown_within pages (time + tenths))
  within_same = elim (cases_lt time (cycle turn.before + turn.here.on)) [
    | inl early ↦ on_same early
    | inr late ↦ off_same late
  ]

-- several pages in turn
turns_same : (sign : SignData) (text : List ℕ) (clock tenths : ℕ) → let pages = page_times sign (meanings text) in ((length pages == 1) || (cycle pages == 0)) ≡ false
    → IsBefore tenths (change_at sign (meanings text) clock) → Same sign text (shown sign text clock) (shown sign text (clock + tenths))
unfolding change_at
turns_same sign text clock tenths turns soon =
    let pages = page_times sign (meanings text) in
    let change = ap (λ b. cond b (flashes_left clock (page_flashes sign (meanings text) 0)) (change_within sign (meanings text) (clock % cycle pages))) turns in
    let some : (cycle pages ≡ 0) → ⊥ = λ none. true≢false (sym (or_right (length pages == 1) (cycle pages == 0) (eq-eqb (cycle pages) 0 none)) ∙ turns) in
    let more : 0 < cycle pages = omega arith in
    let (within, same) = within_same sign text (clock % cycle pages) tenths (mod-lt clock {m = cycle pages} more) (subst (IsBefore tenths) change soon) in
    let then : shown sign text (clock + tenths) ≡ shown_within pages (clock % cycle pages + tenths) =
    shown_modulo pages (clock + tenths) turns ∙ ap (shown_within pages) (mod_on clock tenths (cycle pages) within) in
    subst (λ s. Same sign text s (shown sign text (clock + tenths))) (sym (shown_modulo pages clock turns))
    (subst (λ s. Same sign text (shown_within pages (clock % cycle pages)) s) (sym then) same)

pub stays : Stays
stays sign text clock tenths soon =
    let pages = page_times sign (meanings text) in
    elim (cases_Bool ((length pages == 1) || (cycle pages == 0))) [
      | inl always ↦ always_same sign text clock tenths always soon
      | inr turns ↦ turns_same sign text clock tenths turns soon
    ]
