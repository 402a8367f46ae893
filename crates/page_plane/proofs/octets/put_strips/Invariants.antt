use Rattle.std.proofs.Common.{◌≡◌, ◌*◌, length}
use Rattle.page_plane.proofs.OctetLemmas.{IsPutLeftOf}
use Rattle.page_plane.proofs.octets.put_strips.Given as goal

abbrev pub invariant-loop-strip : goal.invariant-loop-strip
invariant-loop-strip l = record {
  size : length l.octets ≡ length l.initial.octets;
  put : IsPutLeftOf l.initial.octets l.octets l.columns l.x l.y l.width l.rows l.on (8 * l.strip);
}
