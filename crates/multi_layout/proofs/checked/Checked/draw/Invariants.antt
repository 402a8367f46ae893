use Rattle.multi_layout.proofs.Common.{◌+◌, ◌-◌, ◌*◌, ◌≤◌, length, RisesBetween, IsAtPage}
use Rattle.multi_layout.proofs.checked.Checked.draw.Given as goal

-- a page begins at the cursor, none after the one that is wanted, and each octet before it took at most nine steps
abbrev pub invariant-loop-cursor : goal.invariant-loop-cursor
invariant-loop-cursor l = record {
  begins : IsAtPage l.sign l.initial.source.octets l.cursor;
  few : l.cursor.state.pages ≤ l.page + 1;
  steps : RisesBetween l.initial.source l.source 0 (9 * l.cursor.at);
}

abbrev pub decreases-loop-cursor : goal.decreases-loop-cursor
decreases-loop-cursor l = length l.initial.source.octets - l.cursor.at
