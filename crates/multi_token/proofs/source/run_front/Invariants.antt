use Rattle.std.proofs.Common.{length, ◌-◌}
use Rattle.multi_token.proofs.RunLemmas.{Front}
use Rattle.multi_token.proofs.source.run_front.Given as goal

abbrev pub invariant-loop-len : goal.invariant-loop-len
invariant-loop-len l = Front l.table l.gap l.room l.octets l.len l.left

abbrev pub decreases-loop-len : goal.decreases-loop-len
decreases-loop-len l = length l.octets - l.len

abbrev pub invariant-loop-len-2 : goal.invariant-loop-len-2
invariant-loop-len-2 l = Front l.table l.gap l.room l.octets l.len l.left

abbrev pub decreases-loop-len-2 : goal.decreases-loop-len-2
decreases-loop-len-2 l = length l.octets - l.len
