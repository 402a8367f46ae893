use Rattle.multi_layout.proofs.Common.{◌-◌, ◌*◌, ◌≤◌, length, RisesBetween, IsFilledBy, IsPageDrawn}
use Rattle.multi_layout.proofs.draw.draw_page.Given as goal

-- the page's areas so far are drawn
abbrev pub invariant-loop-read : goal.invariant-loop-read
invariant-loop-read l = record {
  drawn : IsPageDrawn l.sign l.initial.source.octets l.layer l.initial.cursor.state.pages l.cursor l.plane;
  on : l.initial.cursor.at ≤ l.cursor.at;
  steps : RisesBetween l.initial.source l.source 0 (18 * (l.cursor.at - l.initial.cursor.at));
  filled : IsFilledBy l.sign l.initial.plane l.plane (l.cursor.at - l.initial.cursor.at);
}

abbrev pub decreases-loop-read : goal.decreases-loop-read
decreases-loop-read l = length l.initial.source.octets - l.cursor.at
