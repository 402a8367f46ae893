-- The page in whose times a clock is, the steps of finding it, and when it changes.
use Rattle.multi_layout.proofs.Common.{◌≡◌, ℕ, suc, ◌+◌, ◌-◌, ◌%◌, ◌<◌, ◌≤◌, ◌||◌, nat_lt, Bool, true, false, ◌==◌, cond, List, [], ◌∷◌, ◌++◌, length, Some, refl, sym, ap, ◌∙◌, inl, inr, arith, eq-eqb, ne_eqb, SignData, meanings, Cursor, IsToldOf, IsTurnAt, Told}
use Rattle.multi_layout.specs.Change.{change_at, change_of, change_within, flashes_left, page_flashes, part_left, sooner, times_left}
use Rattle.multi_layout.specs.Finding.{change_steps, finding_steps, page_in_turn, page_steps, pages_steps}
use Rattle.multi_layout.specs.declared.turn.Turn.{Turn}
use Rattle.multi_meaning.specs.Times.{Times, cycle, page_times}
use Rattle.multi_meaning.proofs.TimesLemmas.{times_count}
use Rattle.multi_meaning.proofs.VerdictLemmas.{accepted_is, cycle_is}
use Rattle.multi_layout.proofs.TurnLemmas.{IsTurnOf, cycle_cons, left_of, off_left, off_shown, on_left, on_shown}
use Rattle.std.proofs.lemmas.Bool.{cases_lt, le-ltb, lt-ltb, or_left, or_right}

-- THE PAGE IN TURN

page_here : (before after : List Times) (here : Times) (time : ℕ) → cycle before ≤ time → time < cycle before + (here.on + here.off) → page_in_turn (before ++ here ∷ after) time ≡ length before
page_here [] after here time began until = ap (λ b. cond b 0 (suc (page_in_turn after (time - (here.on + here.off))))) (lt-ltb time (here.on + here.off) (omega (arith, until)))
page_here (page ∷ before) after here time began until =
    let all = cycle_cons page before in
    ap (λ b. cond b 0 (suc (page_in_turn (before ++ here ∷ after) (time - (page.on + page.off))))) (le-ltb time (page.on + page.off) (omega (arith, began, all)))
    ∙ ap suc (page_here before after here (time - (page.on + page.off)) (omega (arith, began, all)) (omega (arith, until, all, began)))

-- of a string of which this is told
module _ {sign : SignData} {octets : List ℕ} {told : Told} (known : IsToldOf sign octets told) where
  abbrev times : List Times
  times = page_times sign (meanings octets)

  count_told : length times ≡ told.pages
  count_told = times_count sign (meanings octets) ∙ sym (accepted_is sign octets told.pages known.pages known.short).1

  pub cycle_told : told.cycle ≡ cycle times
  cycle_told = cycle_is sign octets told.cycle known.cycle

  -- page 0 is always shown
  abbrev IsAlways : Bool → Type 0
  IsAlways b = ((length times == 1) || (cycle times == 0)) ≡ b

  pub one_always : told.pages ≡ 1 → IsAlways true
  one_always one = or_left (length times == 1) (cycle times == 0) (eq-eqb (length times) 1 (count_told ∙ one))

  pub none_always : told.cycle ≡ 0 → IsAlways true
  none_always none = or_right (length times == 1) (cycle times == 0) (eq-eqb (cycle times) 0 (sym cycle_told ∙ none))

  pub in_turn : (told.pages ≡ 1 → ⊥) → (told.cycle ≡ 0 → ⊥) → IsAlways false
  in_turn many some = rw (ne_eqb (length times) 1 (λ one. many (sym count_told ∙ one)), ne_eqb (cycle times) 0 (λ none. some (cycle_told ∙ none))) refl

  pub finding_always : (clock : ℕ) → IsAlways true → finding_steps sign octets clock ≡ 0
  unfolding finding_steps
  finding_always clock always = ap (λ b. pages_steps octets (cond b 0 (page_in_turn times (clock % cycle times) + 1))) always

  pub change_always : (clock : ℕ) → IsAlways true
      → (change_steps sign octets clock ≡ page_steps octets 0) × (change_at sign (meanings octets) clock ≡ flashes_left clock (page_flashes sign (meanings octets) 0))
  unfolding change_steps change_at
  change_always clock always = (
    ap (λ b. cond b (page_steps octets 0) (finding_steps sign octets clock)) always,
    ap (λ b. cond b (flashes_left clock (page_flashes sign (meanings octets) 0)) (change_within sign (meanings octets) (clock % cycle times))) always,
  )

  pub change_turns : (clock : ℕ) → IsAlways false
      → (change_steps sign octets clock ≡ finding_steps sign octets clock) × (change_at sign (meanings octets) clock ≡ change_within sign (meanings octets) (clock % told.cycle))
  unfolding change_steps change_at
  change_turns clock turns = (
    ap (λ b. cond b (page_steps octets 0) (finding_steps sign octets clock)) turns,
    ap (λ b. cond b (flashes_left clock (page_flashes sign (meanings octets) 0)) (change_within sign (meanings octets) (clock % cycle times))) turns
        ∙ ap (λ n. change_within sign (meanings octets) (clock % n)) (sym cycle_told),
  )

  -- the steps of finding the page that has the time
  pub finding_turn : (clock : ℕ) → IsAlways false → {start : Cursor} {turn : Turn} → IsTurnAt sign octets (clock % told.cycle) start turn → finding_steps sign octets clock ≡ pages_steps octets (start.state.pages - 1) + page_steps octets (start.state.pages - 1)
  unfolding finding_steps
  finding_turn clock turns {start} {turn} t =
      let s = t.skipped in
      let time = clock % told.cycle in
      let here : Times = record { on = t.behind.state.attributes.on; off = t.behind.state.attributes.off } in
      let page : page_in_turn times time ≡ length s.earlier =
      ap (λ l. page_in_turn l time) s.times ∙ page_here s.earlier s.later here time (omega (arith, t.began, s.begins)) (omega (arith, t.until, t.phase, t.began, s.begins, t.on, t.off)) in
      let next : page_in_turn times time + 1 ≡ suc (start.state.pages - 1) = omega (arith, page, s.page_is) in
      ap (λ b. pages_steps octets (cond b 0 (page_in_turn times (clock % cycle times) + 1))) turns
      ∙ ap (λ n. pages_steps octets (page_in_turn times (clock % n) + 1)) (sym cycle_told)
      ∙ ap (pages_steps octets) next

  -- what that page shows, and when it changes
  pub turn_change : {time : ℕ} {start : Cursor} {turn : Turn} → IsTurnAt sign octets time start turn → turn.soonest ≡ flashes_left turn.phase (page_flashes sign (meanings octets) (start.state.pages - 1))
      → cond (nat_lt turn.phase turn.on) (sooner turn.soonest (Some (turn.on - turn.phase))) (Some (turn.on + turn.off - turn.phase)) ≡ change_within sign (meanings octets) time
  turn_change {time} {start} {turn} t soonest =
      let s = t.skipped in
      let here : Times = record { on = t.behind.state.attributes.on; off = t.behind.state.attributes.off } in
      let i : IsTurnOf times time = record { before = s.earlier; here = here; after = s.later; is = s.times; began = omega (arith, t.began, s.begins); until = omega (arith, t.until, t.phase, t.began, s.begins, t.on, t.off) } in
      let left : times_left times time ≡ part_left here.on (here.on + here.off) (time - cycle s.earlier) = ap (λ l. times_left l time) s.times ∙ left_of s.earlier s.later here time i.began i.until in
      let page : length s.earlier ≡ start.state.pages - 1 = omega (arith, s.page_is) in
      let phase : time - cycle s.earlier ≡ turn.phase = omega (arith, t.phase, s.begins) in
      elim (cases_lt turn.phase turn.on) [
        | inl lit ↦
            let shown = on_shown times time i (omega (arith, lit, phase, i.began, t.on)) in
            let rest : times_left times time ≡ turn.on - turn.phase = left ∙ on_left here.on (here.on + here.off) (time - cycle s.earlier) (omega (arith, lit, phase, t.on)) ∙ (let e : here.on - (time - cycle s.earlier) ≡ turn.on - turn.phase = omega (arith, phase, t.on) in e) in
            let flashes : flashes_left (time - cycle s.earlier) (page_flashes sign (meanings octets) (length s.earlier)) ≡ turn.soonest =
            ap (λ n. flashes_left n (page_flashes sign (meanings octets) (length s.earlier))) phase ∙ ap (λ n. flashes_left turn.phase (page_flashes sign (meanings octets) n)) page ∙ sym soonest in
            ap (λ b. cond b (sooner turn.soonest (Some (turn.on - turn.phase))) (Some (turn.on + turn.off - turn.phase))) (lt-ltb turn.phase turn.on lit)
            ∙ sym (ap (change_of sign (meanings octets) (times_left times time)) shown ∙ ap (λ o. sooner o (Some (times_left times time))) flashes ∙ ap (λ n. sooner turn.soonest (Some n)) rest)
        | inr dark ↦
            let shown = off_shown times time i (omega (arith, dark, phase, i.began, t.on)) in
            let rest : times_left times time ≡ turn.on + turn.off - turn.phase =
            left ∙ off_left here.on (here.on + here.off) (time - cycle s.earlier) (omega (arith, dark, phase, t.on)) ∙ (let e : here.on + here.off - (time - cycle s.earlier) ≡ turn.on + turn.off - turn.phase = omega (arith, phase, t.on, t.off) in e) in
            ap (λ b. cond b (sooner turn.soonest (Some (turn.on - turn.phase))) (Some (turn.on + turn.off - turn.phase))) (le-ltb turn.phase turn.on dark)
            ∙ sym (ap (change_of sign (meanings octets) (times_left times time)) shown ∙ ap Some rest)
      ]
