use Rattle.std.proofs.Common.{ap, ◌∙◌, sym, subst, arith}
use Rattle.message_store.specs.internal.Pool.{Pool}
use Rattle.message_store.specs.internal.Stored.{IsStored, stored}
use Rattle.message_store.proofs.StoredLemmas.{seen}
use Rattle.message_store.proofs.store.Store.keep_crc.Goals as goal

pub overflow_mul-index : goal.overflow_mul-index
overflow_mul-index c = let s = c.self.inside in let k = seen s.limits s.permanent.items s.slots s.texts c.args.self.now c.self.view_is c.self.invariant in omega (arith, k.count_is, c.requires, c.self.invariant.count, c.self.invariant.sound.slots)

pub keep_register-requires : goal.keep_register-requires
keep_register-requires c = let s = c.self.inside in let k = seen s.limits s.permanent.items s.slots s.texts c.args.self.now c.self.view_is c.self.invariant in omega (arith, k.pairs, c.requires)

pub invariant_of-self : goal.invariant_of-self
invariant_of-self c = let s = c.self.inside in
    let P : Pool → Type 0 = IsStored s.limits s.permanent.items s.slots in
    subst P (sym c.keep_register.ensures) c.self.invariant

pub returns : goal.returns
returns c = let s = c.self.inside in ap (λ (p : Pool). stored s.limits s.permanent.items s.slots p) c.keep_register.ensures ∙ c.self.view_is
