use Rattle.std.proofs.Common.{◌≡◌, ◌≤◌, IfOk, subst, ap, ◌∙◌, sym, List, ℕ, length}
use Rattle.message_store.specs.declared.message.MemoryType.{MemoryType}
use Rattle.message_store.specs.declared.slot.Slot.{Slot}
use Rattle.message_store.proofs.StoredLemmas.{seen}
use Rattle.message_store.specs.Codes.{memory_numbered}
use Rattle.message_store.specs.Step.{found_in, last_number}
use Rattle.message_store.proofs.store.Store.found.Goals as goal

permanent-count : (c : goal.After-found_in) → c.len.result ≡ length c.args.self.now.permanent
permanent-count c = let s = c.self.inside in let k = seen s.limits s.permanent.items s.slots s.texts c.args.self.now c.self.view_is c.self.invariant in c.len.ensures ∙ s.permanent.ok.0 ∙ sym k.permanent_is

slot-count : (c : goal.After-found_in) → length c.all.result.now ≡ length c.args.self.now.slots
slot-count c = let s = c.self.inside in let k = seen s.limits s.permanent.items s.slots s.texts c.args.self.now c.self.view_is c.self.invariant in ap (λ (l : List Slot). length l) c.all.ensures ∙ sym k.count_is

pub returns-clause-found : goal.returns-clause-found
returns-clause-found c =
    let memory = memory_numbered c.args.message.memory in
    c.found_in.ensures.found
    ∙ ap (λ n. found_in n (length c.all.result.now) c.args.message.number memory) (permanent-count c)
    ∙ ap (λ n. found_in (length c.args.self.now.permanent) n c.args.message.number memory) (slot-count c)

pub returns-clause-within : goal.returns-clause-within
returns-clause-within c =
    let number = c.args.message.number in
    let P : ℕ → Type 0 = λ n. IfOk c.found_in.result (λ (memory : MemoryType). (1 ≤ number) × (number ≤ last_number n (length c.all.result.now) memory)) in
    let Q : ℕ → Type 0 = λ n. IfOk c.found_in.result (λ (memory : MemoryType). (1 ≤ number) × (number ≤ last_number (length c.args.self.now.permanent) n memory)) in
    subst Q (slot-count c) (subst P (permanent-count c) c.found_in.ensures.within)

pub returns-clause-kept : goal.returns-clause-kept
returns-clause-kept c = let s = c.self.inside in let k = seen s.limits s.permanent.items s.slots s.texts c.args.self.now c.self.view_is c.self.invariant in k.kept
