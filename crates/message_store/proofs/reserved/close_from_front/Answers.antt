use Rattle.std.proofs.Common.{◌≡◌, ◌+◌, ◌∙◌, ap, drop, length, List, ℕ, sym}
use Rattle.std.specs.List.{copy_within}
use Rattle.std.proofs.lemmas.List.{with_items_is}
use Rattle.message_store.proofs.ReservedLemmas.{closed-from-front}
use Rattle.message_store.proofs.reserved.close_from_front.Goals as goal

pub returns-clause-octets : goal.returns-clause-octets
returns-clause-octets c =
    let memory = c.args.memory.now in
    let front = c.args.front in
    let new = c.move_back.new.memory in
    let long : length new ≡ memory.len = c.move_back.auto.memory ∙ ap (λ (l : List ℕ). length l) c.as_mut_slice.ensures.value ∙ sym memory.ok.0 in
    let is = c.move_back.ensures ∙ ap (λ (l : List ℕ). copy_within l front (front + c.args.start) (front + c.args.len)) c.as_mut_slice.ensures.value in
    ap (drop (front + c.args.len)) (with_items_is memory new long) ∙ closed-from-front memory.items new front c.args.start c.args.len c.requires.within is
