use Rattle.std.proofs.Common.{◌∙◌, sym, arith}
use Rattle.message_store.proofs.StoredLemmas.{seen}
use Rattle.message_store.proofs.store.Store.used_bytes.Goals as goal

pub overflow_cast-result : goal.overflow_cast-result
overflow_cast-result c = let s = c.self.inside in let k = seen s.limits s.permanent.items s.slots s.texts c.args.self.now c.self.view_is c.self.invariant in omega (arith, c.used.ensures.used, c.self.invariant.within, c.self.invariant.sound.bytes)

pub returns-clause-used : goal.returns-clause-used
returns-clause-used c = let s = c.self.inside in let k = seen s.limits s.permanent.items s.slots s.texts c.args.self.now c.self.view_is c.self.invariant in c.used.ensures.used ∙ sym k.used_is

pub returns-clause-kept : goal.returns-clause-kept
returns-clause-kept c = let s = c.self.inside in let k = seen s.limits s.permanent.items s.slots s.texts c.args.self.now c.self.view_is c.self.invariant in k.kept
