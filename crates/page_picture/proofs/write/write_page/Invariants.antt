use Rattle.std.proofs.Common.{◌≡◌, ◌+◌, ◌*◌, ◌≤◌, drop, length}
use Rattle.multi_token.specs.Counted.{RisesBetween}
use Rattle.multi_meaning.specs.Picture.{picture}
use Rattle.multi_layout.specs.Limits.{plane_limit, reading_limit}
use Rattle.page_picture.proofs.WriteLemmas.{HaveLast}
use Rattle.page_picture.proofs.write.write_page.Given as goal

abbrev pub invariant-loop-done : goal.invariant-loop-done
invariant-loop-done l = record {
  have : HaveLast l.fn.checked.sign.width l.fn.checked.sign.height (picture l.fn.checked.sign l.fn.checked.source.octets l.page l.phase) l.done l.octets;
  count : length l.octets ≡ length l.fn.octets;
  behind : drop (l.fn.checked.sign.width * l.fn.checked.sign.height) l.octets ≡ drop (l.fn.checked.sign.width * l.fn.checked.sign.height) l.fn.octets;
  sign : l.checked.sign ≡ l.fn.checked.sign;
  width : l.plane.width ≡ l.fn.plane.width;
  height : l.plane.height ≡ l.fn.plane.height;
  steps : RisesBetween l.fn.checked.source l.checked.source 0 (l.done * reading_limit (length l.fn.checked.source.octets));
  drawn_least : l.fn.plane.steps ≤ l.plane.steps;
  drawn_most : l.plane.steps ≤ l.fn.plane.steps + l.done * plane_limit l.fn.checked.sign (length l.fn.checked.source.octets);
}
