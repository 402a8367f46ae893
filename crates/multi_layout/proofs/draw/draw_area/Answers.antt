use Rattle.multi_layout.proofs.Common.{ℕ, Bool, IsPageDrawn, IsNextDrawn, refl, false, NextItem, inl, inr, rules, ◌≡◌, ◌+◌, ◌-◌, slice_get, sym, ap, ◌∙◌, subst, arith, IsFilledBy}
use Rattle.multi_layout.proofs.AreaDrawLemmas.{next_read, run_ends, filled_longer, filled_none, filled_then, octet_stands}
use Rattle.multi_layout.proofs.FilledLemmas.{TellsDropped, laid_as_end, lays_next}
use Rattle.multi_layout.proofs.WalkLemmas.{steps_of, same_octets, steps_then, steps_within}
use Rattle.multi_layout.proofs.draw.draw_area.Goals.{Joined-fill-2}
use Rattle.multi_layout.proofs.draw.draw_area.Goals as goal

pub loop-cursor-init : goal.loop-cursor-init
loop-cursor-init c = first_of (search (rules, run_ends, steps_within, filled_longer, filled_none), grind (arith, run_ends, steps_within, filled_longer, filled_none))

pub unreachable-requires : goal.unreachable-requires
unreachable-requires c =
    let (page, d) = c.requires.begins in
    let i = c.loop-cursor.invariant in
    octet_stands (i.drawn page d).so c.loop-cursor-test.true (ap (λ o. slice_get o c.loop-cursor.cursor.at) (sym (same_octets i.steps.3)) ∙ sym c.read.ensures.octet ∙ c.in_default.is)

pub read_item-next-requires-clause-within : goal.read_item-next-requires-clause-within
read_item-next-requires-clause-within c =
    let (page, d) = c.requires.begins in
    rw (same_octets c.read.ensures.step ∙ same_octets c.loop-cursor.invariant.steps.3) (c.args.sign.now, _, _, (c.loop-cursor.invariant.drawn page d).so.up_to.between.placed)

-- whether the next item is a character that is dropped, by the kind of lines and the item
dropped : (c : Joined-fill-2) → (full : Bool) × TellsDropped c.args.sign.now c.loop-cursor.cursor c.match-fill.read.lines c.read_item-next.result full × (c.match-fill-2.next ≡ laid_as_end full c.read_item-next.result)
dropped c = elim c.match-fill-2.branch [
  | goal.in-Words-Char+then-is_full w ↦ (w.is_full.result, inl (w.in-Words-Char.field-0-1, w.in-Words-Char.is-1, rw w.group-lines.ensures.lines at w.is_full.ensures.full), w.next-is ∙ ap (λ k. laid_as_end k c.read_item-next.result) (sym w.if-is_full.true))
  | goal.in-Words-Char+else-is_full w ↦ (w.is_full.result, inl (w.in-Words-Char.field-0-1, w.in-Words-Char.is-1, rw w.group-lines.ensures.lines at w.is_full.ensures.full), w.next-is ∙ ap (λ k. laid_as_end k c.read_item-next.result) (sym w.if-is_full.false))
  | goal.in-Words+in-Tag-1 w ↦ (false, inr (refl, search rules), w.next-is)
  | goal.in-Off-1 w ↦ (false, inr (refl, search rules), w.next-is)
]

-- the page is drawn as far as the next item
known : (c : Joined-fill-2) (page : ℕ) → IsPageDrawn c.args.sign.now c.args.source.now.octets c.args.layer page c.args.cursor.now c.args.plane.now
    → IsNextDrawn c.args.sign.now c.args.source.now.octets c.args.layer page c.match-fill.read c.match-fill-2.next c.loop-cursor.beside c.loop-cursor.cursor c.loop-cursor.plane
known c page d =
    let (full, tells, is) = dropped c in
    next_read (same_octets c.read.ensures.step ∙ same_octets c.loop-cursor.invariant.steps.3) (c.loop-cursor.invariant.drawn page d) c.loop-cursor-test.true c.read_item-next.result c.match-fill-2.next
    c.read_item-next.ensures.item (lays_next (search rules) c.match-fill.read.lines full tells is)

pub draw_item-beside-requires-clause-known : goal.draw_item-beside-requires-clause-known
draw_item-beside-requires-clause-known c =
    let (page, d) = c.requires.begins in
    rw (same_octets c.read_item-next.ensures.steps.3 ∙ same_octets c.read.ensures.step ∙ same_octets c.loop-cursor.invariant.steps.3) (page, known (goal.at.draw_item-beside-requires-clause-known c).Joined-fill-2 page d)

pub loop-cursor-preserved : goal.loop-cursor-preserved
loop-cursor-preserved c =
    let i = c.loop-cursor.invariant in
    let start = c.args.source.now in
    let d = c.draw_item-beside.ensures in
    let here = (goal.at.loop-cursor-preserved c).Joined-fill-2 in
    let long : c.match-fill-2.next.len ≡ c.read_item-next.result.len = ap (λ (n : NextItem). n.len) (dropped here).2 in
    let on : c.loop-cursor.cursor.at - c.args.cursor.now.at + c.match-fill-2.next.len ≡ c.draw_item-beside.new.cursor.at - c.args.cursor.now.at = omega (arith, i.on, d.at) in
    let draws = rw (same_octets c.read_item-next.ensures.steps.3 ∙ same_octets c.read.ensures.step ∙ same_octets i.steps.3) at d.drawn in
    let steps = steps_then start (steps_then start (steps_then start i.steps (steps_of c.loop-cursor.source c.read.ensures.step)) c.read_item-next.ensures.steps) d.steps in
    record {
      drawn = λ page begins. draws page (known here page begins);
      on = omega (arith, i.on, d.at);
      steps = steps_within start steps (omega arith) (omega (arith, i.on, d.at, long, c.read_item-next.ensures.some));
      fills = subst (IsFilledBy c.args.sign.now c.args.plane.now c.draw_item-beside.new.plane) on (filled_then c.args.sign.now c.args.plane.now c.loop-cursor.plane c.draw_item-beside.new.plane _ _ i.fills d.fills);
    }

pub returns-clause-drawn : goal.returns-clause-drawn
returns-clause-drawn c = λ page d. (c.loop-cursor.invariant.drawn page d).so

pub returns-clause-at : goal.returns-clause-at
returns-clause-at c =
    let i = c.loop-cursor.invariant in
    let (page, d) = c.requires.begins in
    (omega (arith, c.loop-cursor-test.false, (i.drawn page d).so.left.end), i.on)
