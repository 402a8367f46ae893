use Rattle.std.proofs.Common.{◌-◌, ◌*◌, arith, length, refl}
use Rattle.page_picture.proofs.RowLemmas.{marks_joined}
use Rattle.page_picture.proofs.rows.mark_filled.Goals as goal

pub returns : goal.returns
returns c mark table =
    let last = length c.args.octets.now - 1 in
    marks_joined mark last (8 * last) c.args.octets.now _ c.args.text.now _ _ refl (omega arith) c.requires.room refl (c.mark_full.ensures mark table) (c.mark_octets.ensures mark table)
