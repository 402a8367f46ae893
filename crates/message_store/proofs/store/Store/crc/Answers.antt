use Rattle.std.proofs.Common.{ap, ◌∙◌, sym, arith}
use Rattle.message_store.specs.internal.Pool.{register_behind}
use Rattle.message_store.specs.Slot.{slot_at}
use Rattle.message_store.specs.internal.Stored.{crc_of}
use Rattle.message_store.proofs.StoredLemmas.{seen}
use Rattle.message_store.proofs.store.Store.crc.Goals as goal

pub overflow_mul-index : goal.overflow_mul-index
overflow_mul-index c = let s = c.self.inside in let k = seen s.limits s.permanent.items s.slots s.texts c.args.self.now c.self.view_is c.self.invariant in omega (arith, k.count_is, c.requires, c.self.invariant.count, c.self.invariant.sound.slots)

pub register-requires : goal.register-requires
register-requires c = let s = c.self.inside in let k = seen s.limits s.permanent.items s.slots s.texts c.args.self.now c.self.view_is c.self.invariant in omega (arith, k.pairs, c.requires)

pub returns : goal.returns
returns c = let s = c.self.inside in let k = seen s.limits s.permanent.items s.slots s.texts c.args.self.now c.self.view_is c.self.invariant in
    c.crc_behind.ensures (slot_at c.args.self.now c.args.index).multi (c.register.ensures ∙ ap register_behind (sym (k.multi_is c.args.index c.requires)))
    ∙ ap crc_of (sym c.slot-slot.ensures.slot)
