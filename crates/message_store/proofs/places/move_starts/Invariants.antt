use Rattle.std.proofs.Common.{◌≡◌, ◌++◌, map, take, drop}
use Rattle.message_store.specs.internal.Pool.{moved_start}
use Rattle.message_store.proofs.places.move_starts.Given as goal

abbrev pub invariant-loop-index : goal.invariant-loop-index
invariant-loop-index l = l.starts ≡ map (moved_start l.fn.end l.fn.len) (take l.index l.fn.starts) ++ drop l.index l.fn.starts
