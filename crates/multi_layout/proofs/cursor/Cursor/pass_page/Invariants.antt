use Rattle.multi_layout.proofs.Common.{◌==◌, not, ◌-◌, ◌*◌, ◌≤◌, length, RisesBetween}
use Rattle.multi_layout.proofs.PassedLemmas.{IsPassedTo}
use Rattle.multi_layout.proofs.cursor.Cursor.pass_page.Given as goal

-- the page goes on, its items so far took what passing them takes, and each octet of them at most nine steps
abbrev pub invariant-loop-first : goal.invariant-loop-first
invariant-loop-first g l = record {
  passed : IsPassedTo l.sign l.fn.source l.fn.self l.phase (not (g.row.FLASHES == 0)) l.self l.source l.soonest;
  on : l.fn.self.at ≤ l.self.at;
  steps : RisesBetween l.fn.source l.source 0 (9 * (l.self.at - l.fn.self.at));
}

abbrev pub decreases-loop-first : goal.decreases-loop-first
decreases-loop-first g l = length l.fn.source.octets - l.self.at
