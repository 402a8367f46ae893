-- Pages that are shown in turn, and what is left of their times.
use Rattle.std.proofs.Common.{◌≡◌, ◌⊎◌, ℕ, ◌+◌, ◌-◌, ◌<◌, ◌≤◌, cond, List, [], ◌∷◌, ◌++◌, length, refl, ap, ◌∙◌, inl, inr, arith}
use Rattle.std.proofs.lemmas.Bool.{cases_lt, le-ltb, lt-ltb}
use Rattle.std.proofs.lemmas.List.Sums.{sum_by-cons}
use Rattle.multi_meaning.specs.declared.times.Shown.TheVariants.{Off, Page}
use Rattle.multi_meaning.specs.Times.{Times, cycle, shown_within}
use Rattle.multi_meaning.proofs.TimesLemmas.{shown_off, shown_on}
use Rattle.multi_layout.specs.Change.{part_left, times_left}

-- pages of which one has the time: those before it are over, and its own times aren't
pub record IsTurnOf (pages : List Times) (time : ℕ) : Type 0 where
  pub before : List Times
  pub here : Times
  pub after : List Times
  pub is : pages ≡ before ++ here ∷ after
  pub began : cycle before ≤ time
  pub until : time < cycle before + (here.on + here.off)

pub cycle_cons : (page : Times) (pages : List Times) → cycle (page ∷ pages) ≡ page.on + page.off + cycle pages
cycle_cons page pages = sum_by-cons (λ (t : Times). t.on + t.off) page pages

-- a time of the cycle is one of a page's
pub turn_of : (pages : List Times) (time : ℕ) → time < cycle pages → IsTurnOf pages time
turn_of [] time within = absurd (omega (arith, within))
turn_of (page ∷ pages) time within = elim (cases_lt time (page.on + page.off)) [
  | inl here ↦ record { before = []; here = page; after = pages; is = refl; began = omega arith; until = omega (arith, here) }
  | inr later ↦
      let all = cycle_cons page pages in
      let t = turn_of pages (time - (page.on + page.off)) (omega (arith, within, all, later)) in
      let more = cycle_cons page t.before in
      let began = t.began in
      let until = t.until in
      record {
        before = page ∷ t.before;
        here = t.here;
        after = t.after;
        is = ap (λ l. page ∷ l) t.is;
        began = omega (arith, more, began, later);
        until = omega (arith, more, until, later);
      }
]

-- what is left of the times of that page
pub left_of : (before after : List Times) (here : Times) (time : ℕ) → cycle before ≤ time → time < cycle before + (here.on + here.off)
    → times_left (before ++ here ∷ after) time ≡ part_left here.on (here.on + here.off) (time - cycle before)
left_of [] after here time began until =
    ap (λ b. cond b (part_left here.on (here.on + here.off) time) (times_left after (time - (here.on + here.off)))) (lt-ltb time (here.on + here.off) (omega (arith, until)))
    ∙ ap (part_left here.on (here.on + here.off)) (let same : time ≡ time - 0 = omega arith in same)
left_of (page ∷ before) after here time began until =
    let all = cycle_cons page before in
    let rest = left_of before after here (time - (page.on + page.off)) (omega (arith, began, all)) (omega (arith, until, all, began)) in
    let same : time - (page.on + page.off) - cycle before ≡ time - cycle (page ∷ before) = omega (arith, all) in
    ap (λ b. cond b (part_left page.on (page.on + page.off) time) (times_left (before ++ here ∷ after) (time - (page.on + page.off)))) (le-ltb time (page.on + page.off) (omega (arith, began, all)))
    ∙ rest ∙ ap (part_left here.on (here.on + here.off)) same

-- what is left of an on time, and of an off time
pub on_left : (first whole time : ℕ) → time < first → part_left first whole time ≡ first - time
on_left first whole time early = ap (λ b. cond b (first - time) (whole - time)) (lt-ltb time first early)

pub off_left : (first whole time : ℕ) → first ≤ time → part_left first whole time ≡ whole - time
off_left first whole time late = ap (λ b. cond b (first - time) (whole - time)) (le-ltb time first late)

-- what is shown of that page in its on time, and of none in its off time
pub on_shown : (pages : List Times) (time : ℕ) (t : IsTurnOf pages time) → time < cycle t.before + t.here.on → shown_within pages time ≡ Page (length t.before) (time - cycle t.before)
on_shown pages time t early = shown_on pages t.before t.after t.here t.is time t.began early

pub off_shown : (pages : List Times) (time : ℕ) (t : IsTurnOf pages time) → cycle t.before + t.here.on ≤ time → shown_within pages time ≡ Off
off_shown pages time t late = let until = t.until in shown_off pages t.before t.after t.here t.is time late (omega (arith, until))

-- the same page has the time some tenths later, before the end of its on time or of its off time
pub later : (pages : List Times) (time tenths : ℕ) (t : IsTurnOf pages time) → tenths < times_left pages time
    → (time + tenths < cycle t.before + (t.here.on + t.here.off)) × (((time < cycle t.before + t.here.on) × (time + tenths < cycle t.before + t.here.on)) ⊎ (cycle t.before + t.here.on ≤ time))
later pages time tenths t soon =
    let began = t.began in
    let until = t.until in
    let left : times_left pages time ≡ part_left t.here.on (t.here.on + t.here.off) (time - cycle t.before) =
    ap (λ l. times_left l time) t.is ∙ left_of t.before t.after t.here time t.began t.until in
    elim (cases_lt time (cycle t.before + t.here.on)) [
      | inl early ↦
          let to = on_left t.here.on (t.here.on + t.here.off) (time - cycle t.before) (omega (arith, early, began)) in
          (omega (arith, soon, left, to, early, began), inl (early, omega (arith, soon, left, to, early, began)))
      | inr late ↦
          let to = off_left t.here.on (t.here.on + t.here.off) (time - cycle t.before) (omega (arith, late, began)) in
          (omega (arith, soon, left, to, late, began, until), inr late)
    ]

-- some tenths later it is that page's turn as well
abbrev pub turn_later : (pages : List Times) (time tenths : ℕ) (t : IsTurnOf pages time) → time + tenths < cycle t.before + (t.here.on + t.here.off) → IsTurnOf pages (time + tenths)
turn_later pages time tenths t until = let began = t.began in record { before = t.before; here = t.here; after = t.after; is = t.is; began = omega (arith, began); until = until }
