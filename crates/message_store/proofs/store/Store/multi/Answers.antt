use Rattle.std.proofs.Common.{ap, ◌∙◌, sym, arith, List, ℕ, length}
use Rattle.std.proofs.lemmas.List.Elements.{All-get_or}
use Rattle.message_store.specs.Slot.{empty_slot}
use Rattle.message_store.specs.Limits.{IsShort}
use Rattle.message_store.proofs.StoredLemmas.{seen}
use Rattle.message_store.proofs.store.Store.multi.Goals as goal

pub overflow_mul-index : goal.overflow_mul-index
overflow_mul-index c = let s = c.self.inside in let k = seen s.limits s.permanent.items s.slots s.texts c.args.self.now c.self.view_is c.self.invariant in omega (arith, k.count_is, c.requires, c.self.invariant.count, c.self.invariant.sound.slots)

pub get-requires : goal.get-requires
get-requires c = let s = c.self.inside in let k = seen s.limits s.permanent.items s.slots s.texts c.args.self.now c.self.view_is c.self.invariant in omega (arith, k.pairs, c.requires)

pub returns-clause-text : goal.returns-clause-text
returns-clause-text c = let s = c.self.inside in let k = seen s.limits s.permanent.items s.slots s.texts c.args.self.now c.self.view_is c.self.invariant in c.get.ensures ∙ sym (k.multi_is c.args.index c.requires)

pub returns-clause-kept : goal.returns-clause-kept
returns-clause-kept c = let s = c.self.inside in let k = seen s.limits s.permanent.items s.slots s.texts c.args.self.now c.self.view_is c.self.invariant in k.kept

pub returns-clause-short : goal.returns-clause-short
returns-clause-short c = let s = c.self.inside in let k = seen s.limits s.permanent.items s.slots s.texts c.args.self.now c.self.view_is c.self.invariant in
    let short = (All-get_or (IsShort c.args.self.now.limits) c.args.self.now.slots c.args.index empty_slot c.requires k.kept.short).multi in
    omega (arith, short, ap (λ (l : List ℕ). length l) (returns-clause-text c))
