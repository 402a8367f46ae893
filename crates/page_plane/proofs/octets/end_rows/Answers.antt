use Rattle.std.proofs.Common.{arith, ◌≤◌, ◌+◌, ◌-◌, ◌*◌, ◌^◌, ◌%◌, length, refl, ◌∙◌}
use Rattle.std.proofs.lemmas.List.{length-set}
use Rattle.std.proofs.Math.Nat.{mul-le-mul_right}
use Rattle.page_plane.specs.Octets.{row_octets}
use Rattle.page_plane.proofs.BitLemmas.{end_octet}
use Rattle.page_plane.proofs.OctetLemmas.{ended_none, ended_more}
use Rattle.page_plane.proofs.octets.end_rows.Goals as goal

pub loop-y-init : goal.loop-y-init
loop-y-init c = record {
  size = refl;
  ended = ended_none c.args.octets.now c.args.width c.requires.full;
}

pub loop-y-preserved : goal.loop-y-preserved
loop-y-preserved c =
    let at = c.loop-y in
    let width = c.args.width in
    let len = row_octets width in
    let last = 255 * 2 ^ (8 * len - width) % 256 in
    let rows : (at.y + 1) * len ≤ c.args.height * len = mul-le-mul_right len (omega arith) in
    let room : (at.y + 1) * len ≤ length at.octets = omega (arith, at.invariant.size, c.requires.count) in
    rw (c.from-in-loop-y.ensures, c.row_len-len.ensures, c.from.ensures) record {
      size = length-set at.octets (at.y * len + (len - 1)) last ∙ at.invariant.size;
      ended = ended_more at.octets width at.y last c.requires.spare room (λ j h. end_octet len j width h (omega arith) c.requires.spare) at.invariant.ended;
    }
