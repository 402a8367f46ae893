use Rattle.saved_octets.specs.internal.Reading.{IsFilling}
use Rattle.saved_octets.proofs.table.fill.Given as goal

abbrev pub invariant-loop-index : goal.invariant-loop-index
invariant-loop-index l = IsFilling l.fn.store l.store l.octets l.rest l.index l.left
