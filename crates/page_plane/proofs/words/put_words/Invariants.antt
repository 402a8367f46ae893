use Rattle.std.proofs.Common.{◌≡◌, ◌+◌, ◌*◌, ◌/◌, length}
use Rattle.page_plane.specs.Put.{IsBlockPutAt}
use Rattle.page_plane.proofs.words.put_words.Given as goal

abbrev pub invariant-loop-bits : goal.invariant-loop-bits
invariant-loop-bits l = record {
  size : length l.octets ≡ length l.initial.octets;
  at : l.at ≡ (l.y + l.bits-index) * l.len + l.x / 8;
  put : IsBlockPutAt l.initial.octets l.octets l.columns l.x l.y l.width l.rows l.bits-index l.on;
}
