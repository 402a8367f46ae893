use Rattle.multi_layout.proofs.Common.{◌==◌, not, ◌≡◌, ℕ, ◌≤◌, ◌+◌, ◌-◌, ◌*◌, None, length, slice_get, BitPlane, IsPageDrawn, Layer, RisesBetween}
use Rattle.multi_layout.proofs.AreaLinesLemmas.{IsReadFrom}
use Rattle.multi_layout.proofs.read.read_lines.Given as goal

-- the table has the ended lines of the items so far, and each octet of them took at most nine steps; the cursor is after the first settings
abbrev pub invariant-loop-first : goal.invariant-loop-first
invariant-loop-first g l = record {
  so_far : (layer : Layer) (page : ℕ) (plane : BitPlane) → IsPageDrawn l.sign l.fn.source.octets layer page l.fn.cursor plane
      → IsReadFrom (not (g.row.WORDS == 0)) l.sign l.fn.source.octets layer page plane l.cursor l.at l.kept l.read.lines;
  begins : l.fn.cursor.at ≤ l.cursor.at;
  forward : l.cursor.at ≤ l.at;
  first : l.first ≡ slice_get l.fn.source.octets l.at;
  none : l.read.next ≡ None;
  steps : RisesBetween l.fn.source l.source 0 (9 * (l.at - l.fn.cursor.at) + 1);
}

abbrev pub decreases-loop-first : goal.decreases-loop-first
decreases-loop-first g l = length l.fn.source.octets - l.at
