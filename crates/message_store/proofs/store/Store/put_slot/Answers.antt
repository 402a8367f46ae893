use Rattle.std.proofs.Common.{ap, ◌∙◌, refl, subst, sym, arith, List}
use Rattle.message_store.specs.declared.slot.Slot.{Slot}
use Rattle.message_store.specs.internal.Stored.{IsStored, stored}
use Rattle.message_store.proofs.StoredLemmas.{seen, put-slot, kept-slot}
use Rattle.message_store.proofs.store.Store.put_slot.Goals as goal

pub put-requires-clause-index : goal.put-requires-clause-index
put-requires-clause-index c = let s = c.self.inside in let k = seen s.limits s.permanent.items s.slots s.texts c.args.self.now c.self.view_is c.self.invariant in omega (arith, k.count_is, c.requires.index)

pub invariant_of-self : goal.invariant_of-self
invariant_of-self c = let s = c.self.inside in let k = seen s.limits s.permanent.items s.slots s.texts c.args.self.now c.self.view_is c.self.invariant in
    let P : List Slot → Type 0 = λ slots. IsStored s.limits s.permanent.items slots s.texts in
    subst P (sym c.put.ensures) (kept-slot s.limits s.permanent.items s.slots s.texts c.args.index c.args.slot c.self.invariant (omega (arith, k.count_is, c.requires.index)))

pub returns-clause-put : goal.returns-clause-put
returns-clause-put c = let s = c.self.inside in let k = seen s.limits s.permanent.items s.slots s.texts c.args.self.now c.self.view_is c.self.invariant in
    ap (λ (slots : List Slot). stored s.limits s.permanent.items slots s.texts) c.put.ensures
    ∙ put-slot s.limits s.permanent.items s.slots s.texts c.args.self.now c.args.index c.args.slot c.self.view_is (omega (arith, k.count_is, c.requires.index))

pub returns-clause-kept : goal.returns-clause-kept
returns-clause-kept c = let s = c.self.inside in
    (seen s.limits s.permanent.items c.put.new.self s.texts (stored s.limits s.permanent.items c.put.new.self s.texts) refl (invariant_of-self c)).kept
