use Rattle.std.proofs.Common.{◌≡◌, ◌∙◌, List, None, sym, subst}
use Rattle.std.specs.Prelude.{position}
use Rattle.message_store.specs.declared.slot.Slot.{Slot}
use Rattle.message_store.specs.Slot.{is_validating}
use Rattle.message_store.proofs.CountedLemmas.{none_placed}
use Rattle.message_store.proofs.slots.Slots.waiting.Goals as goal

pub returns-then-self-eq0-clause-index : goal.returns-then-self-eq0-clause-index
returns-then-self-eq0-clause-index c =
    let s = c.self.inside in
    let waits = λ (slot : Slot). is_validating slot.status in
    let P : List Slot → Type 0 = λ slots. None ≡ position waits slots in
    subst P c.self.view_is (none_placed waits s.slots.items (sym c.self.invariant.waits ∙ c.if-self-eq0.true))
