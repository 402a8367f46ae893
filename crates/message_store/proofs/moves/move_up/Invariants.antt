use Rattle.std.proofs.Common.{◌≡◌, ◌+◌, ◌-◌, ◌≤◌}
use Rattle.std.specs.List.{copy_within}
use Rattle.message_store.proofs.moves.move_up.Given as goal

abbrev pub invariant-loop-moved : goal.invariant-loop-moved
invariant-loop-moved l = (l.moved ≤ l.fn.len) × (l.memory ≡ copy_within l.fn.memory l.fn.from (l.fn.from + l.moved) l.fn.to)

abbrev pub decreases-loop-moved : goal.decreases-loop-moved
decreases-loop-moved l = l.fn.len - l.moved
