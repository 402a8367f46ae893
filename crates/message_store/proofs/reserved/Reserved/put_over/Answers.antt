use Rattle.std.proofs.Common.{◌+◌, ◌≤◌, ◌++◌, ap, ◌∙◌, arith, take, drop, length, length-drop, List, ℕ}
use Rattle.message_store.specs.internal.Pool.{Reserve}
use Rattle.message_store.proofs.ReservedLemmas.{written-over}
use Rattle.message_store.proofs.reserved.Reserved.put_over.Goals as goal

pub returns : goal.returns
returns c =
    let s = c.self.inside in
    let xs = s.memory.items in
    let text = c.args.text.now in
    let held : List ℕ → Reserve = λ l. record { octets = l; room = s.room } in
    let within : s.front + c.args.start + length text ≤ length xs =
    omega (arith, c.requires, c.self.invariant.0, ap (λ (r : Reserve). length r.octets) c.self.view_is, length-drop s.front xs) in
    ap held (written-over xs c.copy_from_slice.new.self text s.front c.args.start s.memory.len s.memory.ok.0 within c.copy_from_slice.ensures.after)
    ∙ ap (λ (r : Reserve). let new : Reserve = record r { octets = take c.args.start r.octets ++ (text ++ drop (c.args.start + length text) r.octets) } in new) c.self.view_is
