use Rattle.std.proofs.Common.{◌≡◌, ◌+◌, ◌<◌, ◌∙◌, List, length, not, ap, sym, subst, slice_set, arith}
use Rattle.message_store.specs.declared.slot.Slot.{Slot}
use Rattle.message_store.specs.declared.slots.Slots.TheInside.{Inside}
use Rattle.message_store.specs.Slot.{is_not_used, is_validating}
use Rattle.message_store.specs.internal.Counted.{AreCounted}
use Rattle.message_store.proofs.CountedLemmas.{bit, none_looked, put_counted}
use Rattle.message_store.proofs.WaitLemmas.{none-put}
use Rattle.message_store.proofs.slots.Slots.put.Goals as goal
use Rattle.message_store.proofs.slots.Slots.put.Goals.{then-is_validating, else-is_validating}

waits : (c : goal.After-self-4-1) → c.recounted-self-inside.result + bit (is_validating c.index.result.now.status) ≡ c.if-is_validating.self-inside.waiting + bit (is_validating c.args.slot.status)
waits c =
    ap (λ b. c.recounted-self-inside.result + bit b) (sym c.is_validating-2.ensures)
    ∙ c.recounted-self-inside.ensures
    ∙ ap (λ b. c.if-is_validating.self-inside.waiting + bit b) c.is_validating-3.ensures

counts : (c : goal.After-self-4-1)
    → c.recounted-self-inside-2.result + bit (not (is_not_used c.index.result.now.status)) ≡ c.if-is_validating.self-inside.used + bit (not (is_not_used c.args.slot.status))
counts c =
    ap (λ b. c.recounted-self-inside-2.result + bit (not b)) (sym c.is_not_used.ensures)
    ∙ c.recounted-self-inside-2.ensures
    ∙ ap (λ b. c.if-is_validating.self-inside.used + bit (not b)) c.is_not_used-2.ensures

pub invariant_of-self : goal.invariant_of-self
invariant_of-self c =
    let s = c.self.inside in
    let slots = s.slots.items in
    let index = c.args.index in
    let slot = c.args.slot in
    let waiting = λ (slot : Slot). is_validating slot.status in
    let below : index < length slots = omega (arith, c.requires.index, ap (λ (l : List Slot). length l) c.self.view_is) in
    let P : Inside → Type 0 = λ x. AreCounted (slice_set x.slots.items index slot) x.from c.recounted-self-inside.result c.recounted-self-inside-2.result in
    elim c.if-is_validating.branch [
      | then-is_validating w ↦
          subst P (sym w.self-inside-is) (
          put_counted slots s.from s.waiting s.used index _ _ _ c.index.result.now slot _ below c.index.ensures c.self.invariant
          (none_looked waiting slots s.from s.waiting w.look_from.result _ index slot below c.self.invariant.waits c.self.invariant.first w.look_from.ensures (omega arith) (omega arith))
          (waits c ∙ ap (λ (x : Inside). x.waiting + bit (waiting slot)) w.self-inside-is)
          (counts c ∙ ap (λ (x : Inside). x.used + bit (not (is_not_used slot.status))) w.self-inside-is)
          c.requires.ranged
          )
      | else-is_validating w ↦
          subst P (sym w.self-inside-is) (
          put_counted slots s.from s.waiting s.used index _ _ _ c.index.result.now slot _ below c.index.ensures c.self.invariant
          (none-put waiting slots s.from index slot (sym c.is_validating.ensures ∙ w.if-is_validating.false) c.self.invariant.first)
          (waits c ∙ ap (λ (x : Inside). x.waiting + bit (waiting slot)) w.self-inside-is)
          (counts c ∙ ap (λ (x : Inside). x.used + bit (not (is_not_used slot.status))) w.self-inside-is)
          c.requires.ranged
          )
    ]
