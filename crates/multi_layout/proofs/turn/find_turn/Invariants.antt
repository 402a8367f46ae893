use Rattle.multi_layout.proofs.Common.{◌≡◌, ◌-◌, ◌*◌, ◌≤◌, length, RisesBetween, charged, IsAtPage}
use Rattle.multi_layout.specs.Finding.{pages_steps}
use Rattle.multi_layout.proofs.turn.find_turn.Given as goal

-- no page before this one has the time, and each octet before it took at most nine steps
abbrev pub invariant-loop-behind : goal.invariant-loop-behind
invariant-loop-behind g l = record {
  begins : IsAtPage l.sign l.fn.source.octets l.start;
  began : l.start.state.cycle ≤ l.time;
  steps : RisesBetween l.fn.source l.source 0 (9 * l.start.at);
  counted : l.source ≡ charged l.fn.source (pages_steps l.fn.source.octets (l.start.state.pages - 1));
}

abbrev pub decreases-loop-behind : goal.decreases-loop-behind
decreases-loop-behind g l = length l.fn.source.octets - l.start.at
