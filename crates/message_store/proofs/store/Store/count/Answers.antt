use Rattle.std.proofs.Common.{ap, ◌∙◌, sym, List, length}
use Rattle.message_store.specs.declared.slot.Slot.{Slot}
use Rattle.message_store.proofs.StoredLemmas.{seen}
use Rattle.message_store.proofs.store.Store.count.Goals as goal

pub returns-clause-count : goal.returns-clause-count
returns-clause-count c =
    let s = c.self.inside in
    let k = seen s.limits s.permanent.items s.slots s.texts c.args.self.now c.self.view_is c.self.invariant in
    ap (λ (l : List Slot). length l) c.all.ensures ∙ sym k.count_is

pub returns-clause-kept : goal.returns-clause-kept
returns-clause-kept c = let s = c.self.inside in let k = seen s.limits s.permanent.items s.slots s.texts c.args.self.now c.self.view_is c.self.invariant in k.kept
