use Rattle.multi_layout.proofs.Common.{ℕ, ◌+◌, ◌-◌, ◌*◌, ◌≤◌, RisesBetween, IsFilledBy, IsPageDrawn, IsRunDrawn, next_steps}
use Rattle.multi_layout.proofs.draw.draw_area.Given as goal

-- the area's items so far are drawn
abbrev pub invariant-loop-cursor : goal.invariant-loop-cursor
invariant-loop-cursor l = record {
  drawn : (page : ℕ) → IsPageDrawn l.sign l.fn.source.octets l.layer page l.fn.cursor l.fn.plane → IsRunDrawn l.sign l.fn.source.octets l.layer page l.read l.beside l.cursor l.plane;
  on : l.fn.cursor.at ≤ l.cursor.at;
  steps : RisesBetween l.fn.source l.source 0 (9 * (l.read.end - l.fn.cursor.at) + 1 + next_steps l.read.next + 9 * (l.cursor.at - l.fn.cursor.at));
  fills : IsFilledBy l.sign l.fn.plane l.plane (l.cursor.at - l.fn.cursor.at);
}

abbrev pub decreases-loop-cursor : goal.decreases-loop-cursor
decreases-loop-cursor l = l.read.end - l.cursor.at
