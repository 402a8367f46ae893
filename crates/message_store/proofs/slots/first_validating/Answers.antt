use Rattle.std.proofs.Common.{sym, ◌∙◌}
use Rattle.message_store.specs.declared.slot.Slot.{Slot}
use Rattle.message_store.specs.Slot.{is_validating}
use Rattle.message_store.specs.internal.Stored.{unused_slot}
use Rattle.message_store.proofs.WaitLemmas.{first-here, first-later, first-nowhere}
use Rattle.message_store.proofs.slots.first_validating.Goals as goal

pub returns-then-is_validating : goal.returns-then-is_validating
returns-then-is_validating c = sym (first-here (λ (slot : Slot). is_validating slot.status) c.args.slots.now c.loop-index.index _ c.loop-index-test.true c.loop-index.invariant
    (sym c.is_validating.ensures ∙ c.if-is_validating.true))

pub loop-index-preserved : goal.loop-index-preserved
loop-index-preserved c = first-later (λ (slot : Slot). is_validating slot.status) c.args.slots.now c.loop-index.index _ c.loop-index-test.true c.loop-index.invariant
    (sym c.is_validating.ensures ∙ c.if-is_validating.false)

pub returns : goal.returns
returns c = sym (first-nowhere (λ (slot : Slot). is_validating slot.status) c.args.slots.now c.loop-index.index unused_slot c.loop-index-test.false c.loop-index.invariant)
