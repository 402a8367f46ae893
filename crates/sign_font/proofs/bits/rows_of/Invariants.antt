use Rattle.std.proofs.Common.{◌≡◌, length}
use Rattle.sign_font.specs.internal.Rows.{AreRowsOf}
use Rattle.sign_font.proofs.bits.rows_of.Given as goal

abbrev pub invariant-loop-row : goal.invariant-loop-row
invariant-loop-row l = record {
  len : length l.rows.items ≡ l.row;
  rows : AreRowsOf l.octets l.width l.rows.items;
}
