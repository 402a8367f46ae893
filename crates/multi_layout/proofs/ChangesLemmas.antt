-- At the next change something does change.
use Rattle.std.proofs.Common.{◌≡◌, ◌⊎◌, ℕ, ◌+◌, ◌-◌, ◌%◌, ◌<◌, Bool, true, false, ◌==◌, ◌||◌, cond, List, [], ◌∷◌, length, Option, Some, None, refl, sym, ap, ◌∙◌, subst, inl, inr, arith}
use Rattle.std.proofs.Math.Nat.{mod-lt}
use Rattle.std.proofs.lemmas.Bool.{cases_eq, cases_lt, eq-eqb}
use Rattle.std.proofs.lemmas.List.Elements.{Contains-append_left, Contains-push}
use Rattle.std.proofs.lemmas.Option.{same_Some}
use Rattle.std.specs.List.{Contains}
use Rattle.sign_font.specs.Sign.{SignData}
use Rattle.multi_meaning.specs.declared.attributes.FlashTimes.{FlashTimes}
use Rattle.multi_meaning.specs.declared.times.Shown.{Shown}
use Rattle.multi_meaning.specs.declared.times.Shown.TheVariants.{Off, Page}
use Rattle.multi_meaning.specs.Meaning.{Meaning, meanings}
use Rattle.multi_meaning.specs.Times.{Times, cycle, page_times, shown_within}
use Rattle.multi_meaning.proofs.WordLemmas.{push_ind}
use Rattle.multi_layout.specs.Change.{ChangesWhere, DoesChange, EndsPart, TurnsAfter, TurnsFlash, change_at, change_of, change_within, flash_left, flashes_left, page_flashes, part_left, sooner, times_left}
use Rattle.multi_layout.proofs.FlashLemmas.{turns}
use Rattle.multi_layout.proofs.LaterLemmas.{or_false}
use Rattle.multi_layout.proofs.PageFlashLemmas.{left_push}
use Rattle.multi_layout.proofs.TurnLemmas.{left_of, off_left, on_left, turn_of}

-- the sooner of two is one of them
one_of : (left : ℕ) (one other : Option ℕ) → sooner one other ≡ Some left → (one ≡ Some left) ⊎ (other ≡ Some left)
one_of left None other is = inr is
one_of left (Some one) None is = inl is
one_of left (Some one) (Some other) is =
    let least = same_Some _ _ is in
    elim (cases_lt one other) [
      | inl less ↦ inl (ap Some (omega (arith, least, less)))
      | inr more ↦ inr (ap Some (omega (arith, least, more)))
    ]

-- the soonest change of flashes is that of one of them
of_flashes : (phase : ℕ) (flashes : List (Option FlashTimes)) (left : ℕ) → flashes_left phase flashes ≡ Some left → (flash : Option FlashTimes) × Contains flashes flash × (flash_left phase flash ≡ Some left)
of_flashes phase = push_ind (λ flashes. (left : ℕ) → flashes_left phase flashes ≡ Some left → (flash : Option FlashTimes) × Contains flashes flash × (flash_left phase flash ≡ Some left)) (λ left is. absurd cc) (λ flashes flash ih left is.
    elim (one_of left (flashes_left phase flashes) (flash_left phase flash) (sym (left_push phase flashes flash) ∙ is)) [
      | inl earlier ↦ let (found, there, at) = ih left earlier in (found, Contains-append_left flashes (flash ∷ []) found there, at)
      | inr last ↦ (flash, Contains-push flashes flash, last)
    ])

flash_turns : (sign : SignData) (items : List Meaning) (page phase left : ℕ) → flashes_left phase (page_flashes sign items page) ≡ Some left → TurnsFlash sign items page (phase + left)
flash_turns sign items page phase left is = let (flash, there, at) = of_flashes phase (page_flashes sign items page) left is in (flash, there, turns phase left flash at)

-- what is left of the times of a page ends its on time or its off time
part_ends : (pages : List Times) (time : ℕ) → time < cycle pages → EndsPart pages (time + times_left pages time)
part_ends pages time within =
    let t = turn_of pages time within in
    let here = t.here in
    let left : times_left pages time ≡ part_left here.on (here.on + here.off) (time - cycle t.before) = ap (λ l. times_left l time) t.is ∙ left_of t.before t.after here time t.began t.until in (
      t.before,
      here,
      t.after,
      t.is,
      elim (cases_lt (time - cycle t.before) here.on) [
        | inl early ↦ inl (omega (arith, left, on_left here.on (here.on + here.off) (time - cycle t.before) early, early, t.began))
        | inr late ↦ inr (omega (arith, left, off_left here.on (here.on + here.off) (time - cycle t.before) late, late, t.began, t.until))
      ],
    )

turns_after : (sign : SignData) (items : List Meaning) (time left : ℕ) → time < cycle (page_times sign items) → (here : Shown) → change_of sign items (times_left (page_times sign items) time) here ≡ Some left
    → TurnsAfter sign items time left here
turns_after sign items time left within Off is = subst (λ n. EndsPart (page_times sign items) (time + n)) (same_Some _ _ is) (part_ends (page_times sign items) time within)
turns_after sign items time left within (Page page phase) is = elim (one_of left (flashes_left phase (page_flashes sign items page)) (Some (times_left (page_times sign items) time)) is) [
  | inl flash ↦ inl (flash_turns sign items page phase left flash)
  | inr ends ↦ inr (subst (λ n. EndsPart (page_times sign items) (time + n)) (same_Some _ _ ends) (part_ends (page_times sign items) time within))
]

changes : (sign : SignData) (items : List Meaning) (clock left : ℕ) (always : Bool) → ((length (page_times sign items) == 1) || (cycle (page_times sign items) == 0)) ≡ always
    → cond always (flashes_left clock (page_flashes sign items 0)) (change_within sign items (clock % cycle (page_times sign items))) ≡ Some left
    → ChangesWhere always sign items clock left
changes sign items clock left true always is = flash_turns sign items 0 clock left is
changes sign items clock left false always is =
    let pages = page_times sign items in
    let some : 0 < cycle pages = elim (cases_eq (cycle pages) 0) [
      | inl none ↦ absurd (or_false (length pages == 1) (eq-eqb (cycle pages) 0 none) always)
      | inr some ↦ omega arith
    ] in
    turns_after sign items (clock % cycle pages) left (mod-lt clock {m = cycle pages} some) (shown_within pages (clock % cycle pages)) is

pub does_change : DoesChange
unfolding change_at
does_change sign text clock left is = changes sign (meanings text) clock left ((length (page_times sign (meanings text)) == 1) || (cycle (page_times sign (meanings text)) == 0)) refl is
