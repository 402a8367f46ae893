use Rattle.std.proofs.Common.{◌∙◌, sym}
use Rattle.message_store.proofs.StoredLemmas.{seen}
use Rattle.message_store.proofs.store.Store.used_slots.Goals as goal

pub returns-clause-used : goal.returns-clause-used
returns-clause-used c = let s = c.self.inside in let k = seen s.limits s.permanent.items s.slots s.texts c.args.self.now c.self.view_is c.self.invariant in c.used.ensures ∙ sym k.used_slots_is

pub returns-clause-kept : goal.returns-clause-kept
returns-clause-kept c = let s = c.self.inside in let k = seen s.limits s.permanent.items s.slots s.texts c.args.self.now c.self.view_is c.self.invariant in k.kept
