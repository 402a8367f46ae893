use Rattle.std.proofs.Common.{◌≡◌, length}
use Rattle.page_plane.proofs.OctetLemmas.{AreEnded}
use Rattle.page_plane.proofs.octets.end_rows.Given as goal

abbrev pub invariant-loop-y : goal.invariant-loop-y
invariant-loop-y l = record {
  size : length l.octets ≡ length l.initial.octets;
  ended : AreEnded l.octets l.width l.y;
}
