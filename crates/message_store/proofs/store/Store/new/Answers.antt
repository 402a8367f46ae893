use Rattle.std.proofs.Common.{refl, map, ap, sym, ◌∙◌, List}
use Rattle.message_store.specs.declared.message.Permanent.{Permanent}
use Rattle.message_store.specs.Limits.{can_be_made}
use Rattle.message_store.specs.internal.Stored.{stored}
use Rattle.message_store.specs.Slot.{permanent_of}
use Rattle.message_store.proofs.StoredLemmas.{kept-new, made-is, seen}
use Rattle.message_store.proofs.store.Store.new.Goals as goal

pub invariant_of-result : goal.invariant_of-result
invariant_of-result c =
    kept-new c.args.limits c.args.permanent.items c.in-Ok.slots c.in-Ok-new.texts c.from-count.result (ap (λ (ms : List Permanent). can_be_made c.args.limits (map permanent_of ms)) (sym c.deref.ensures.value) ∙ sym c.can_be_made.ensures ∙ c.if-not-can_be_made.false) c.from-count.ensures
    c.in-Ok.ensures c.in-Ok-new.ensures

pub returns-clause-made : goal.returns-clause-made
returns-clause-made c =
    made-is c.args.limits c.args.permanent.items c.in-Ok.slots c.in-Ok-new.texts c.from-count.result c.from-count.ensures
    c.in-Ok.ensures c.in-Ok-new.ensures

pub returns-clause-kept : goal.returns-clause-kept
returns-clause-kept c =
    (seen c.args.limits c.args.permanent.items c.in-Ok.slots c.in-Ok-new.texts (stored c.args.limits c.args.permanent.items c.in-Ok.slots c.in-Ok-new.texts) refl (invariant_of-result c)).kept
