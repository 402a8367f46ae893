use Rattle.std.proofs.Common.{ap, ◌∙◌, sym, arith}
use Rattle.message_store.specs.declared.slot.Slot.{Slot}
use Rattle.message_store.specs.Slot.{slot_at}
use Rattle.message_store.specs.internal.Stored.{slot_of, unused_slot}
use Rattle.message_store.proofs.StoredLemmas.{seen}
use Rattle.message_store.proofs.store.Store.slot.Goals as goal

pub get-requires : goal.get-requires
get-requires c = let s = c.self.inside in let k = seen s.limits s.permanent.items s.slots s.texts c.args.self.now c.self.view_is c.self.invariant in omega (arith, k.count_is, c.requires)

pub returns-clause-slot : goal.returns-clause-slot
returns-clause-slot c = let s = c.self.inside in let k = seen s.limits s.permanent.items s.slots s.texts c.args.self.now c.self.view_is c.self.invariant in
    k.slot_is c.args.index unused_slot c.requires
    ∙ ap (λ (slot : Slot). slot_of slot (slot_at c.args.self.now c.args.index).multi (slot_at c.args.self.now c.args.index).owner) (sym c.get.ensures.slot)
