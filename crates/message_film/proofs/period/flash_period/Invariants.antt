use Rattle.std.proofs.Common.{◌≡◌, ◌-◌, ◌≤◌, length}
use Rattle.message_film.proofs.FlashLemmas.{Passed}
use Rattle.message_film.proofs.period.flash_period.Given as goal

abbrev pub invariant-loop-item : goal.invariant-loop-item
invariant-loop-item l = record {
  source : l.source.octets ≡ l.octets;
  within : l.at ≤ length l.octets;
  passed : Passed l.sign l.octets l.at l.period;
}

abbrev pub decreases-loop-item : goal.decreases-loop-item
decreases-loop-item l = length l.octets - l.at
