use Rattle.std.proofs.Common.{◌∙◌, ◌+◌, arith, ap, drop, length, length-append, length-drop, List, ℕ, take}
use Rattle.std.proofs.lemmas.List.{length-take-le}
use Rattle.message_store.proofs.ReservedLemmas.{closed-from-back}
use Rattle.message_store.proofs.reserved.close_from_back.Goals as goal

pub returns-clause-octets : goal.returns-clause-octets
returns-clause-octets c = ap (drop c.args.front) c.close_gap.ensures.items ∙ closed-from-back c.args.memory.now.items c.args.front c.args.start c.args.len c.requires.within

pub returns-clause-count : goal.returns-clause-count
returns-clause-count c =
    let xs = c.args.memory.now.items in
    let from = c.args.front + c.args.start in
    omega (
      arith,
      ap (λ (l : List ℕ). length l) c.close_gap.ensures.items,
      length-append (take from xs) (drop (from + c.args.len) xs),
      length-take-le from xs (omega (arith, c.requires.within)),
      length-drop (from + c.args.len) xs,
      c.requires.within,
    )
