use Rattle.std.proofs.Common.{refl, ap, ◌∙◌, sym, subst, arith, List, ℕ, length}
use Rattle.message_store.specs.internal.Pool.{Pool}
use Rattle.message_store.specs.Slot.{StoreData}
use Rattle.message_store.specs.internal.Stored.{IsStored, stored}
use Rattle.message_store.proofs.StoredLemmas.{seen, put-multi, kept-multi}
use Rattle.message_store.proofs.store.Store.put_multi.Goals as goal

pub overflow_mul-index : goal.overflow_mul-index
overflow_mul-index c = let s = c.self.inside in let k = seen s.limits s.permanent.items s.slots s.texts c.args.self.now c.self.view_is c.self.invariant in omega (arith, k.count_is, c.requires.index, c.self.invariant.count, c.self.invariant.sound.slots)

pub replace-requires-clause-index : goal.replace-requires-clause-index
replace-requires-clause-index c = let s = c.self.inside in let k = seen s.limits s.permanent.items s.slots s.texts c.args.self.now c.self.view_is c.self.invariant in omega (arith, k.pairs, c.requires.index)

pub replace-requires-clause-room : goal.replace-requires-clause-room
replace-requires-clause-room c = let s = c.self.inside in let k = seen s.limits s.permanent.items s.slots s.texts c.args.self.now c.self.view_is c.self.invariant in omega (arith, c.requires.room, k.used_is, ap (λ (l : List ℕ). length l) (k.multi_is c.args.index c.requires.index), c.self.invariant.room, ap (λ (st : StoreData). st.limits.bytes) (sym c.self.view_is))

pub invariant_of-self : goal.invariant_of-self
invariant_of-self c = let s = c.self.inside in let k = seen s.limits s.permanent.items s.slots s.texts c.args.self.now c.self.view_is c.self.invariant in
    let P : Pool → Type 0 = IsStored s.limits s.permanent.items s.slots in
    subst P (sym c.replace.ensures) (kept-multi s.limits s.permanent.items s.slots s.texts c.args.index c.args.text.now c.self.invariant (omega (arith, k.count_is, c.requires.index))
    (omega (arith, c.requires.short, ap (λ (st : StoreData). st.limits.max_string) c.self.view_is))
    (omega (arith, c.requires.room, k.used_is, ap (λ (l : List ℕ). length l) (k.multi_is c.args.index c.requires.index), ap (λ (st : StoreData). st.limits.bytes) (sym c.self.view_is))))

pub returns-clause-put : goal.returns-clause-put
returns-clause-put c = let s = c.self.inside in let k = seen s.limits s.permanent.items s.slots s.texts c.args.self.now c.self.view_is c.self.invariant in
    ap (λ (p : Pool). stored s.limits s.permanent.items s.slots p) c.replace.ensures
    ∙ put-multi s.limits s.permanent.items s.slots s.texts c.args.self.now c.args.index c.args.text.now c.self.view_is c.self.invariant (omega (arith, k.count_is, c.requires.index))

pub returns-clause-kept : goal.returns-clause-kept
returns-clause-kept c = let s = c.self.inside in
    (seen s.limits s.permanent.items s.slots c.replace.new.self (stored s.limits s.permanent.items s.slots c.replace.new.self) refl (invariant_of-self c)).kept
