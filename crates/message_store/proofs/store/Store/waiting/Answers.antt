use Rattle.std.proofs.Common.{◌≡◌, ◌∙◌, ap, refl, sym, subst, List, ℕ, Option, Some, None, IfSome, ◌<◌, length}
use Rattle.std.proofs.lemmas.List.Quantifiers.{position-Some}
use Rattle.message_store.specs.declared.slot.Slot.{Slot}
use Rattle.message_store.specs.Slot.{SlotData, StoreData, empty_slot, is_validating}
use Rattle.message_store.specs.Work.{waiting}
use Rattle.message_store.specs.internal.Stored.{IsStored, stored}
use Rattle.message_store.proofs.StoredLemmas.{seen}
use Rattle.message_store.proofs.WholeLemmas.{position-whole}
use Rattle.message_store.proofs.store.Store.waiting.Goals as goal

-- what waits is a slot
within : (store : StoreData) (o : Option ℕ) → waiting store ≡ o → IfSome o (λ index. index < length store.slots)
within store o is = elim o as (λ (v : Option ℕ). waiting store ≡ v → IfSome v (λ index. index < length store.slots))
    [ None ↦ λ e. tt | Some index ↦ λ e. (position-Some (λ (slot : SlotData). is_validating slot.status) store.slots index empty_slot e).0 ] is

pub invariant_of-self : goal.invariant_of-self
invariant_of-self c = let s = c.self.inside in
    let P : List Slot → Type 0 = λ slots. IsStored s.limits s.permanent.items slots s.texts in
    subst P (sym c.waiting.ensures.same) c.self.invariant

pub returns-clause-index : goal.returns-clause-index
returns-clause-index c = let s = c.self.inside in
    c.waiting.ensures.index ∙ sym (position-whole s.slots s.texts.texts) ∙ ap waiting c.self.view_is

pub returns-clause-same : goal.returns-clause-same
returns-clause-same c = let s = c.self.inside in
    ap (λ (slots : List Slot). stored s.limits s.permanent.items slots s.texts) c.waiting.ensures.same ∙ c.self.view_is

pub returns-clause-kept : goal.returns-clause-kept
returns-clause-kept c = let s = c.self.inside in
    (seen s.limits s.permanent.items c.waiting.new.self s.texts (stored s.limits s.permanent.items c.waiting.new.self s.texts) refl (invariant_of-self c)).kept

pub returns-clause-within : goal.returns-clause-within
returns-clause-within c = within c.args.self.now c.waiting.result (sym (returns-clause-index c))
