-- A change is at least one tenth away.
use Rattle.std.proofs.Common.{◌≡◌, ℕ, ◌+◌, ◌-◌, ◌%◌, ◌<◌, ◌≤◌, Bool, true, false, ◌==◌, ◌||◌, cond, List, [], ◌∷◌, length, Option, Some, None, refl, sym, ap, ◌∙◌, subst, inl, inr, arith}
use Rattle.std.proofs.Math.Nat.{mod-lt}
use Rattle.std.proofs.lemmas.Bool.{cases_eq, cases_lt, eq-eqb, le-ltb, lt-ltb}
use Rattle.std.specs.List.{fold}
use Rattle.sign_font.specs.Sign.{SignData}
use Rattle.multi_meaning.specs.declared.attributes.FlashTimes.{FlashTimes}
use Rattle.multi_meaning.specs.declared.times.Shown.{Shown}
use Rattle.multi_meaning.specs.declared.times.Shown.TheVariants.{Off, Page}
use Rattle.multi_meaning.specs.Meaning.{Meaning, meanings}
use Rattle.multi_meaning.specs.Times.{Times, cycle, page_times, shown_within}
use Rattle.multi_layout.specs.Change.{ComesLater, change_at, change_of, change_within, flash_left, flashes_left, page_flashes, part_left, sooner, times_left}
use Rattle.multi_layout.proofs.TurnLemmas.{cycle_cons}

-- if there is a change, it is at least one tenth away
abbrev IsLater : Option ℕ → Type 0
IsLater None = Unit {0}
IsLater (Some left) = 1 ≤ left

sooner_later : (one other : Option ℕ) → IsLater one → IsLater other → IsLater (sooner one other)
sooner_later None other one' other' = other'
sooner_later (Some one) None one' other' = one'
sooner_later (Some one) (Some other) one' other' = omega (arith, one', other')

part_later : (first whole time : ℕ) → time < whole → 1 ≤ part_left first whole time
part_later first whole time within = elim (cases_lt time first) [
  | inl early ↦ omega (arith, early, ap (λ b. cond b (first - time) (whole - time)) (lt-ltb time first early))
  | inr late ↦ omega (arith, within, ap (λ b. cond b (first - time) (whole - time)) (le-ltb time first late))
]

flash_later : (phase : ℕ) (flash : Option FlashTimes) → IsLater (flash_left phase flash)
flash_later phase None = tt
flash_later phase (Some flash) = by ((flash.on == 0) || (flash.off == 0)) refl
  where
    first : ℕ
    first = cond flash.off_first flash.off flash.on

    whole : ℕ
    whole = flash.on + flash.off

    by : (none : Bool) → ((flash.on == 0) || (flash.off == 0)) ≡ none → IsLater (cond none None (Some (part_left first whole (phase % whole))))
    by true is = tt
    by false is = elim (cases_eq flash.on 0) [
      | inl none ↦ absurd (let e : true ≡ false = sym (ap (λ b. b || (flash.off == 0)) (eq-eqb flash.on 0 none)) ∙ is in cc)
      | inr some ↦ part_later first whole (phase % whole) (mod-lt phase {m = whole} (omega arith))
    ]

flashes_later_from : (phase : ℕ) (so_far : Option ℕ) (flashes : List (Option FlashTimes)) → IsLater so_far → IsLater (fold (λ soonest flash. sooner soonest (flash_left phase flash)) so_far flashes)
flashes_later_from phase so_far [] later = later
flashes_later_from phase so_far (flash ∷ flashes) later = flashes_later_from phase (sooner so_far (flash_left phase flash)) flashes (sooner_later so_far (flash_left phase flash) later (flash_later phase flash))

flashes_later : (phase : ℕ) (flashes : List (Option FlashTimes)) → IsLater (flashes_left phase flashes)
flashes_later phase flashes = flashes_later_from phase None flashes tt

-- what is left of the times of pages
times_later : (pages : List Times) (time : ℕ) → time < cycle pages → 1 ≤ times_left pages time
times_later [] time within = absurd (omega (arith, within))
times_later (page ∷ pages) time within = elim (cases_lt time (page.on + page.off)) [
  | inl here ↦
      let is = ap (λ b. cond b (part_left page.on (page.on + page.off) time) (times_left pages (time - (page.on + page.off)))) (lt-ltb time (page.on + page.off) here) in
      subst (λ n. 1 ≤ n) (sym is) (part_later page.on (page.on + page.off) time here)
  | inr later ↦
      let is = ap (λ b. cond b (part_left page.on (page.on + page.off) time) (times_left pages (time - (page.on + page.off)))) (le-ltb time (page.on + page.off) later) in
      subst (λ n. 1 ≤ n) (sym is) (times_later pages (time - (page.on + page.off)) (omega (arith, within, cycle_cons page pages, later)))
]

of_later : (sign : SignData) (items : List Meaning) (left : ℕ) (here : Shown) → 1 ≤ left → IsLater (change_of sign items left here)
of_later sign items left (Page page phase) some = sooner_later (flashes_left phase (page_flashes sign items page)) (Some left) (flashes_later phase (page_flashes sign items page)) some
of_later sign items left Off some = some

pub or_false : (one : Bool) {other : Bool} → other ≡ true → (one || other) ≡ false → ⊥
or_false true none is = absurd (let e : true ≡ false = is in cc)
or_false false none is = absurd (let e : true ≡ false = sym none ∙ is in cc)

within_later : (sign : SignData) (items : List Meaning) (clock : ℕ) → (always : Bool) → ((length (page_times sign items) == 1) || (cycle (page_times sign items) == 0)) ≡ always
    → IsLater (cond always (flashes_left clock (page_flashes sign items 0)) (change_within sign items (clock % cycle (page_times sign items))))
within_later sign items clock true is = flashes_later clock (page_flashes sign items 0)
within_later sign items clock false is =
    let pages = page_times sign items in
    let some : 0 < cycle pages = elim (cases_eq (cycle pages) 0) [
      | inl none ↦ absurd (or_false (length pages == 1) (eq-eqb (cycle pages) 0 none) is)
      | inr some ↦ omega arith
    ] in
    of_later sign items (times_left pages (clock % cycle pages)) (shown_within pages (clock % cycle pages)) (times_later pages (clock % cycle pages) (mod-lt clock {m = cycle pages} some))

later_is : (change : Option ℕ) (left : ℕ) → IsLater change → change ≡ Some left → 1 ≤ left
later_is change left later is = subst IsLater is later

pub comes_later : ComesLater
unfolding change_at
comes_later sign text clock left is = later_is (change_at sign (meanings text) clock) left (within_later sign (meanings text) clock ((length (page_times sign (meanings text)) == 1) || (cycle (page_times sign (meanings text)) == 0)) refl) is
