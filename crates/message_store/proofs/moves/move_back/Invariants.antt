use Rattle.std.proofs.Common.{◌≡◌, ◌+◌, ◌≤◌}
use Rattle.std.specs.List.{copy_within}
use Rattle.message_store.proofs.moves.move_back.Given as goal

abbrev pub invariant-loop-left : goal.invariant-loop-left
invariant-loop-left l = (l.left ≤ l.fn.len) × (l.memory ≡ copy_within l.fn.memory (l.fn.from + l.left) (l.fn.from + l.fn.len) (l.fn.to + l.left))

abbrev pub decreases-loop-left : goal.decreases-loop-left
decreases-loop-left l = l.left
