use Rattle.std.proofs.Common.{◌≤◌, ◌-◌, ◌*◌, ◌^◌, length}
use Rattle.sign_font.specs.Cell.{SizedCell}
use Rattle.sign_font.proofs.HalfLemmas.{AreBelow, AreAbove}
use Rattle.sign_font.proofs.glyphs.Glyphs.search.Given as goal

-- what is left is halved by each probe: in front of it all numbers are smaller, and after it all are larger
abbrev pub invariant-loop-probe : goal.invariant-loop-probe
invariant-loop-probe l = record {
  ordered : l.low ≤ l.high;
  within : l.high ≤ length l.self;
  few : (l.high - l.low) * 2 ^ l._probe ≤ 255;
  below : AreBelow (λ (cell : SizedCell). cell.number) l.self l.number l.low;
  above : AreAbove (λ (cell : SizedCell). cell.number) l.self l.number l.high;
}
