use Rattle.std.proofs.Common.{arith, ◌≡◌, ◌<◌, ◌≤◌, ◌+◌, ◌-◌, ◌*◌, length, get_or, slice_index, refl, ◌∙◌}
use Rattle.std.proofs.lemmas.List.{length-set}
use Rattle.std.proofs.Math.Nat.{mul-le-mul_right}
use Rattle.page_plane.specs.Octets.{row_octets}
use Rattle.page_plane.proofs.BitLemmas.{shown_bit}
use Rattle.page_plane.proofs.OctetLemmas.{strip_none, strip_more}
use Rattle.page_plane.proofs.octets.put_strip.Goals as goal

pub loop-bits-init : goal.loop-bits-init
loop-bits-init c = record {
  size = refl;
  at = rw c.from-2.ensures (omega arith);
  put = strip_none c.args.octets.now c.args.columns c.args.strip c.args.x c.args.y c.args.width c.args.rows.now c.args.on;
}

pub loop-bits-preserved : goal.loop-bits-preserved
loop-bits-preserved c =
    let a = c.args in
    let l = c.loop-bits in
    let len = row_octets a.columns in
    let bits = slice_index a.rows.now l.bits-index in
    let turn = 8 * a.strip + 8 - c.from.result in
    let here : l.at ≡ (a.y + l.bits-index) * len + a.strip = rw c.row_len-len.ensures at l.invariant.at in
    let rows : (a.y + l.bits-index + 1) * len ≤ (a.y + length a.rows.now) * len = mul-le-mul_right len (omega arith) in
    let inside : l.at < length l.octets = omega (arith, l.invariant.size, c.requires.room) in
    record {
      size = length-set l.octets l.at c.painted.result ∙ l.invariant.size;
      at = rw c.row_len-len.ensures (omega arith);
      put = strip_more a.octets.now l.octets a.columns a.strip a.x a.y a.width a.rows.now l.bits-index l.at bits c.part_of.result (get_or l.octets l.at 0) c.painted.result a.on
          (omega arith) here inside refl refl
          (λ j h. shown_bit a.x a.width (8 * a.strip) bits c.strip_mask-mask.result c.part_of.result turn j h c.requires.width (omega arith) c.requires.left c.requires.right
          (c.strip_mask-mask.ensures j h) (c.part_of.ensures.shown j h) (c.part_of.ensures.hidden j h))
          c.painted.ensures l.invariant.put;
    }
