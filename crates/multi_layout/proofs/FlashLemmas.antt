-- Flashes until their next change.
use Rattle.std.proofs.Common.{◌≡◌, ◌⊎◌, ℕ, ◌+◌, ◌-◌, ◌*◌, ◌%◌, ◌/◌, ◌<◌, ◌≤◌, Bool, true, false, ◌==◌, ◌||◌, nat_le, nat_lt, cond, List, [], ◌∷◌, Option, Some, None, refl, sym, ap, ◌∙◌, subst, inl, inr, arith}
use Rattle.std.proofs.Math.Nat.{add-mul, mod-lt}
use Rattle.std.proofs.lemmas.Option.{same_Some}
use Rattle.std.specs.Prelude.{not}
use Rattle.std.proofs.lemmas.Nat.{div-add-mod', mod-mul-add}
use Rattle.std.proofs.lemmas.Bool.{cases_eq, cases_lt, eq-eqb, le-leb, le-ltb, lt-leb, lt-ltb, ne_eqb}
use Rattle.std.specs.List.{AllByRecursion, fold}
use Rattle.multi_meaning.specs.declared.attributes.FlashTimes.{FlashTimes}
use Rattle.multi_meaning.specs.Picture.{is_lit_at}
use Rattle.multi_layout.specs.Change.{IsBefore, flash_left, flashes_left, part_left, sooner}

-- THE SOONER

pub before_both : (tenths : ℕ) (one other : Option ℕ) → IsBefore tenths (sooner one other) → IsBefore tenths one × IsBefore tenths other
before_both tenths None other before = (tt, before)
before_both tenths (Some one) None before = (before, tt)
before_both tenths (Some one) (Some other) before = (omega (arith, before), omega (arith, before))

before_all_from : (phase tenths : ℕ) (so_far : Option ℕ) (flashes : List (Option FlashTimes)) → IsBefore tenths (fold (λ soonest flash. sooner soonest (flash_left phase flash)) so_far flashes)
    → IsBefore tenths so_far × AllByRecursion (λ flash. IsBefore tenths (flash_left phase flash)) flashes
before_all_from phase tenths so_far [] before = (before, tt)
before_all_from phase tenths so_far (flash ∷ flashes) before =
    let (here, rest) = before_all_from phase tenths (sooner so_far (flash_left phase flash)) flashes before in
    let (earlier, one) = before_both tenths so_far (flash_left phase flash) here in
    (earlier, (one, rest))

pub before_all : (phase tenths : ℕ) (flashes : List (Option FlashTimes)) → IsBefore tenths (flashes_left phase flashes) → AllByRecursion (λ flash. IsBefore tenths (flash_left phase flash)) flashes
before_all phase tenths flashes before = (before_all_from phase tenths None flashes before).1

-- TIMES THAT PASS

-- some tenths that pass within a whole turn aren't taken modulo it
pub mod_on : (clock tenths whole : ℕ) → clock % whole + tenths < whole → (clock + tenths) % whole ≡ clock % whole + tenths
mod_on clock tenths whole within =
    let split = div-add-mod' clock whole in
    let same : clock + tenths ≡ clock / whole * whole + (clock % whole + tenths) = omega (arith, split) in
    ap (λ n. n % whole) same ∙ mod-mul-add (clock / whole) whole (clock % whole + tenths) within

-- before the end of its part a time stays in the whole, and on the same side of the end of its first part
part_on : (first whole time tenths : ℕ) → first ≤ whole → time < whole → tenths < part_left first whole time
    → (time + tenths < whole) × (((time < first) × (time + tenths < first)) ⊎ ((first ≤ time) × (first ≤ time + tenths)))
part_on first whole time tenths most within before = elim (cases_lt time first) [
  | inl early ↦
      let left : part_left first whole time ≡ first - time = ap (λ b. cond b (first - time) (whole - time)) (lt-ltb time first early) in
      (omega (arith, before, left, early, most), inl (early, omega (arith, before, left, early)))
  | inr late ↦
      let left : part_left first whole time ≡ whole - time = ap (λ b. cond b (first - time) (whole - time)) (le-ltb time first late) in
      (omega (arith, before, left, within), inr (late, omega (arith, late)))
]

-- A FLASH

-- what is lit at a time of a flash whose times aren't both 0
abbrev lit_within : FlashTimes → ℕ → Bool
lit_within flash time = cond flash.off_first (nat_le flash.off time) (nat_lt time flash.on)

lit_by : (phase : ℕ) (flash : FlashTimes) → ((flash.on + flash.off) == 0) ≡ false → is_lit_at phase (Some flash) ≡ lit_within flash (phase % (flash.on + flash.off))
lit_by phase flash some = ap (λ b. cond b true (lit_within flash (phase % (flash.on + flash.off)))) some

some_time : (flash : FlashTimes) → 0 < flash.on + flash.off → ((flash.on + flash.off) == 0) ≡ false
some_time flash some = ne_eqb (flash.on + flash.off) 0 (λ none. omega (arith, none, some))

-- one that begins with its on time
on_first : (on off time tenths : ℕ) → ((time < on) × (time + tenths < on)) ⊎ ((on ≤ time) × (on ≤ time + tenths)) → nat_lt (time + tenths) on ≡ nat_lt time on
on_first on off time tenths (inl (early, still)) = lt-ltb (time + tenths) on still ∙ sym (lt-ltb time on early)
on_first on off time tenths (inr (late, still)) = le-ltb (time + tenths) on still ∙ sym (le-ltb time on late)

-- and one that begins with its off time
off_first : (on off time tenths : ℕ) → ((time < off) × (time + tenths < off)) ⊎ ((off ≤ time) × (off ≤ time + tenths)) → nat_le off (time + tenths) ≡ nat_le off time
off_first on off time tenths (inl (early, still)) = lt-leb off (time + tenths) still ∙ sym (lt-leb off time early)
off_first on off time tenths (inr (late, still)) = le-leb off (time + tenths) still ∙ sym (le-leb off time late)

-- before its next change, where both its times are some
steady_some : (phase tenths on off : ℕ) (first : Bool) → 0 < on → 0 < off → tenths < part_left (cond first off on) (on + off) (phase % (on + off))
    → lit_within (record { off_first = first; on = on; off = off }) ((phase + tenths) % (on + off)) ≡ lit_within (record { off_first = first; on = on; off = off }) (phase % (on + off))
steady_some phase tenths on off true some_on some_off before =
    let within = mod-lt phase {m = on + off} (omega (arith, some_on)) in
    let (whole, side) = part_on off (on + off) (phase % (on + off)) tenths (omega arith) within before in
    ap (nat_le off) (mod_on phase tenths (on + off) whole) ∙ off_first on off (phase % (on + off)) tenths side
steady_some phase tenths on off false some_on some_off before =
    let within = mod-lt phase {m = on + off} (omega (arith, some_on)) in
    let (whole, side) = part_on on (on + off) (phase % (on + off)) tenths (omega arith) within before in
    ap (λ n. nat_lt n on) (mod_on phase tenths (on + off) whole) ∙ on_first on off (phase % (on + off)) tenths side

-- where one of its times is 0 it never changes
never_off : (time on : ℕ) (first : Bool) → time < on → lit_within (record { off_first = first; on = on; off = 0 }) time ≡ true
never_off time on true within = le-leb 0 time (omega arith)
never_off time on false within = lt-ltb time on within

never_on : (time off : ℕ) (first : Bool) → time < off → lit_within (record { off_first = first; on = 0; off = off }) time ≡ false
never_on time off true within = lt-leb off time within
never_on time off false within = le-ltb time 0 (omega arith)

no_off : (phase on : ℕ) (first : Bool) → is_lit_at phase (Some (record { off_first = first; on = on; off = 0 })) ≡ true
no_off phase on first = elim (cases_eq on 0) [
  | inl none ↦
      let zero : ((on + 0) == 0) ≡ true = eq-eqb (on + 0) 0 (omega (arith, none)) in
      ap (λ b. cond b true (lit_within (record { off_first = first; on = on; off = 0 }) (phase % (on + 0)))) zero
  | inr some ↦
      let more : 0 < on = omega arith in
      let whole : on + 0 ≡ on = omega arith in
      let within : phase % (on + 0) < on = subst (λ n. phase % n < on) (sym whole) (mod-lt phase {m = on} more) in
      lit_by phase (record { off_first = first; on = on; off = 0 }) (ne_eqb (on + 0) 0 (λ none. some (omega (arith, none)))) ∙ never_off (phase % (on + 0)) on first within
]

no_on : (phase off : ℕ) (first : Bool) → 0 < off → is_lit_at phase (Some (record { off_first = first; on = 0; off = off })) ≡ false
no_on phase off first more =
    let whole : off ≡ 0 + off = omega arith in
    let within : phase % (0 + off) < off = subst (λ n. phase % n < off) whole (mod-lt phase {m = off} more) in
    lit_by phase (record { off_first = first; on = 0; off = off }) (ne_eqb (0 + off) 0 (λ none. omega (arith, none, more))) ∙ never_on (phase % (0 + off)) off first within

-- a flash stays lit or dark until its next change
steady_times : (phase tenths on off : ℕ) (first : Bool) → IsBefore tenths (flash_left phase (Some (record { off_first = first; on = on; off = off })))
    → is_lit_at (phase + tenths) (Some (record { off_first = first; on = on; off = off })) ≡ is_lit_at phase (Some (record { off_first = first; on = on; off = off }))
steady_times phase tenths on off first before = elim (cases_eq off 0) [
  | inl none ↦
      subst (λ n. is_lit_at (phase + tenths) (Some (record { off_first = first; on = on; off = n })) ≡ is_lit_at phase (Some (record { off_first = first; on = on; off = n }))) (sym none)
      (no_off (phase + tenths) on first ∙ sym (no_off phase on first))
  | inr some_off ↦ elim (cases_eq on 0) [
    | inl none ↦
        let more : 0 < off = omega arith in
        subst (λ n. is_lit_at (phase + tenths) (Some (record { off_first = first; on = n; off = off })) ≡ is_lit_at phase (Some (record { off_first = first; on = n; off = off }))) (sym none)
        (no_on (phase + tenths) off first more ∙ sym (no_on phase off first more))
    | inr some_on ↦
        let flash : FlashTimes = record { off_first = first; on = on; off = off } in
        let both : ((on == 0) || (off == 0)) ≡ false = rw (ne_eqb on 0 some_on, ne_eqb off 0 some_off) refl in
        let left : flash_left phase (Some flash) ≡ Some (part_left (cond first off on) (on + off) (phase % (on + off))) =
        ap (λ b. cond b None (Some (part_left (cond first off on) (on + off) (phase % (on + off))))) both in
        let soon : tenths < part_left (cond first off on) (on + off) (phase % (on + off)) = subst (IsBefore tenths) left before in
        let turns : ((on + off) == 0) ≡ false = some_time flash (omega arith) in
        lit_by (phase + tenths) flash turns ∙ steady_some phase tenths on off first (omega arith) (omega arith) soon ∙ sym (lit_by phase flash turns)
  ]
]

pub steady : (phase tenths : ℕ) (flash : Option FlashTimes) → IsBefore tenths (flash_left phase flash) → is_lit_at (phase + tenths) flash ≡ is_lit_at phase flash
steady phase tenths None before = refl
steady phase tenths (Some flash) before = steady_times phase tenths flash.on flash.off flash.off_first before

-- WHERE A FLASH TURNS

-- a whole turn ends where what is left of it has passed
wrapped : (phase whole : ℕ) → 0 < whole → (phase + (whole - phase % whole)) % whole ≡ 0
wrapped phase whole some =
    let split = div-add-mod' phase whole in
    let within = mod-lt phase {m = whole} some in
    let same : phase + (whole - phase % whole) ≡ (phase / whole + 1) * whole + 0 = omega (arith, split, within, add-mul (phase / whole) 1 whole) in
    ap (λ n. n % whole) same ∙ mod-mul-add (phase / whole + 1) whole 0 some

-- a tenth before a time that is reached within the turn
tenth_before : (phase left whole : ℕ) → 1 ≤ left → phase % whole + left ≤ whole → (phase + left - 1) % whole ≡ phase % whole + left - 1
tenth_before phase left whole some within =
    let same : phase + left - 1 ≡ phase + (left - 1) = omega (arith, some) in
    let before : phase % whole + (left - 1) ≡ phase % whole + left - 1 = omega (arith, some) in
    ap (λ n. n % whole) same ∙ mod_on phase (left - 1) whole (omega (arith, some, within)) ∙ before

-- at the end of its first part, and at the end of the turn
turned_on : (on off : ℕ) → 0 < on → 0 < off → (first : Bool) → let flash : FlashTimes = record { off_first = first; on = on; off = off } in
    (lit_within flash (cond first off on) ≡ first) × (lit_within flash (cond first off on - 1) ≡ not first)
turned_on on off some_on some_off true = (le-leb off off (omega arith), lt-leb off (off - 1) (omega (arith, some_off)))
turned_on on off some_on some_off false = (le-ltb on on (omega arith), lt-ltb (on - 1) on (omega (arith, some_on)))

turned_over : (on off : ℕ) → 0 < on → 0 < off → (first : Bool) → let flash : FlashTimes = record { off_first = first; on = on; off = off } in
    (lit_within flash 0 ≡ not first) × (lit_within flash (on + off - 1) ≡ first)
turned_over on off some_on some_off true = (lt-leb off 0 some_off, le-leb off (on + off - 1) (omega (arith, some_on)))
turned_over on off some_on some_off false = (lt-ltb 0 on some_on, le-ltb (on + off - 1) on (omega (arith, some_off)))

opposite : (b : Bool) → b ≡ not b → ⊥
opposite true is = absurd cc
opposite false is = absurd cc

turns_within : (phase left on off : ℕ) (first : Bool) → 0 < on → 0 < off → left ≡ part_left (cond first off on) (on + off) (phase % (on + off))
    → let flash : FlashTimes = record { off_first = first; on = on; off = off } in lit_within flash ((phase + left) % (on + off)) ≡ lit_within flash ((phase + left - 1) % (on + off)) → ⊥
turns_within phase left on off first some_on some_off left_is same =
    let flash : FlashTimes = record { off_first = first; on = on; off = off } in
    let whole = on + off in
    let part = cond first off on in
    let few : part < whole = part_few first in
    let within = mod-lt phase {m = whole} (omega (arith, some_on)) in
    elim (cases_lt (phase % whole) part) [
      | inl early ↦
          let is : left ≡ part - phase % whole = left_is ∙ ap (λ b. cond b (part - phase % whole) (whole - phase % whole)) (lt-ltb (phase % whole) part early) in
          let reached : phase % whole + left ≡ part = omega (arith, is, early) in
          let there = ap (lit_within flash) (mod_on phase left whole (omega (arith, reached, few)) ∙ reached) in
          let before = ap (lit_within flash) (tenth_before phase left whole (omega (arith, is, early)) (omega (arith, reached, few)) ∙ ap (λ n. n - 1) reached) in
          let (lit, dark) = turned_on on off some_on some_off first in
          opposite first (sym lit ∙ sym there ∙ same ∙ before ∙ dark)
      | inr late ↦
          let is : left ≡ whole - phase % whole = left_is ∙ ap (λ b. cond b (part - phase % whole) (whole - phase % whole)) (le-ltb (phase % whole) part late) in
          let reached : phase % whole + left ≡ whole = omega (arith, is, within) in
          let there = ap (λ n. lit_within flash ((phase + n) % whole)) is ∙ ap (lit_within flash) (wrapped phase whole (omega (arith, some_on))) in
          let before = ap (lit_within flash) (tenth_before phase left whole (omega (arith, is, within)) (omega (arith, reached)) ∙ ap (λ n. n - 1) reached) in
          let (dark, lit) = turned_over on off some_on some_off first in
          opposite first (sym lit ∙ sym before ∙ sym same ∙ there ∙ dark)
    ]
  where
    part_few : (b : Bool) → cond b off on < on + off
    part_few true = omega (arith, some_on)
    part_few false = omega (arith, some_off)

turns_times : (phase left on off : ℕ) (first : Bool) → flash_left phase (Some (record { off_first = first; on = on; off = off })) ≡ Some left
    → is_lit_at (phase + left) (Some (record { off_first = first; on = on; off = off })) ≡ is_lit_at (phase + left - 1) (Some (record { off_first = first; on = on; off = off })) → ⊥
turns_times phase left on off first is same =
    let flash : FlashTimes = record { off_first = first; on = on; off = off } in
    let later : Option ℕ = Some (part_left (cond first off on) (on + off) (phase % (on + off))) in
    elim (cases_eq on 0) [
      | inl none ↦ absurd (no_left (sym (ap (λ b. cond (b || (off == 0)) None later) (eq-eqb on 0 none)) ∙ is))
      | inr some_on ↦ elim (cases_eq off 0) [
        | inl none ↦
            let one : ((on == 0) || (off == 0)) ≡ true = rw (ne_eqb on 0 some_on, eq-eqb off 0 none) refl in
            absurd (no_left (sym (ap (λ b. cond b None later) one) ∙ is))
        | inr some_off ↦
            let both : ((on == 0) || (off == 0)) ≡ false = rw (ne_eqb on 0 some_on, ne_eqb off 0 some_off) refl in
            let left_is = same_Some left (part_left (cond first off on) (on + off) (phase % (on + off))) (sym is ∙ ap (λ b. cond b None later) both) in
            let turns : ((on + off) == 0) ≡ false = some_time flash (omega arith) in
            turns_within phase left on off first (omega arith) (omega arith) left_is (sym (lit_by (phase + left) flash turns) ∙ same ∙ lit_by (phase + left - 1) flash turns)
      ]
    ]
  where
    no_left : None ≡ Some left → ⊥
    no_left e = absurd cc

-- at its next change it turns
pub turns : (phase left : ℕ) (flash : Option FlashTimes) → flash_left phase flash ≡ Some left → is_lit_at (phase + left) flash ≡ is_lit_at (phase + left - 1) flash → ⊥
turns phase left None is same = absurd cc
turns phase left (Some flash) is same = turns_times phase left flash.on flash.off flash.off_first is same
