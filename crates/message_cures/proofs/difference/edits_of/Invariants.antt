use Rattle.std.proofs.Common.{◌≤◌, ◌+◌, ◌-◌, length}
use Rattle.message_cures.proofs.EditLemmas.{SoFar}
use Rattle.message_cures.proofs.difference.edits_of.Given as goal

abbrev pub invariant-loop-from : goal.invariant-loop-from
invariant-loop-from l = SoFar l.text l.edits.items l.other l.from l.place × (l.from ≤ length l.text) × (l.place ≤ length l.other)

abbrev pub decreases-loop-from : goal.decreases-loop-from
decreases-loop-from l = length l.text - l.from + (length l.other - l.place)
