use Rattle.std.proofs.Common.{refl}
use Rattle.message_store.proofs.StoredLemmas.{seen, kept-clear, cleared-is}
use Rattle.message_store.specs.internal.Stored.{stored}
use Rattle.message_store.proofs.store.Store.put_all_empty.Goals as goal

pub invariant_of-self : goal.invariant_of-self
invariant_of-self c = let s = c.self.inside in
    kept-clear s.limits s.permanent.items s.slots s.texts _ _ c.self.invariant c.clear-2.ensures c.clear.ensures

pub returns-clause-put : goal.returns-clause-put
returns-clause-put c = let s = c.self.inside in
    cleared-is s.limits s.permanent.items s.slots s.texts c.args.self.now _ _ c.self.view_is c.self.invariant c.clear-2.ensures c.clear.ensures

pub returns-clause-kept : goal.returns-clause-kept
returns-clause-kept c = let s = c.self.inside in
    (seen s.limits s.permanent.items c.clear-2.new.self c.clear.new.self (stored s.limits s.permanent.items c.clear-2.new.self c.clear.new.self) refl (invariant_of-self c)).kept
