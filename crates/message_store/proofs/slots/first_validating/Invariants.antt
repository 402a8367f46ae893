use Rattle.std.proofs.Common.{◌≤◌}
use Rattle.std.specs.List.{position_or_len}
use Rattle.message_store.specs.Slot.{is_validating}
use Rattle.message_store.specs.declared.slot.Slot.{Slot}
use Rattle.message_store.proofs.slots.first_validating.Given as goal

abbrev pub invariant-loop-index : goal.invariant-loop-index
invariant-loop-index l = l.index ≤ position_or_len (λ (slot : Slot). is_validating slot.status) l.slots
