use Rattle.multi_layout.proofs.Common.{◌-◌, ◌==◌, not, length, IsAt, IsPassOf}
use Rattle.sign_font.specs.Text.{AreWidthsOf}
use Rattle.multi_layout.proofs.verdict.judge_items.Given as goal

-- the items before this offset are judged, and the cells are those of the font in force
abbrev pub invariant-loop-next : goal.invariant-loop-next
invariant-loop-next g l =
    IsAt l.sign l.fn.source.octets l.at l.cells l.next (IsPassOf (not (g.row.WORDS == 0)) l.sign l.pass) l.source × AreWidthsOf l.sign l.pass.state.attributes.font.number l.cells

abbrev pub decreases-loop-next : goal.decreases-loop-next
decreases-loop-next g l = length l.fn.source.octets - l.at
