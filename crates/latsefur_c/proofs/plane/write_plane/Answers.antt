use Rattle.std.proofs.Common.{◌+◌, ◌*◌, ◌/◌, ap, ◌∙◌}
use Rattle.page_plane.specs.Octets.{row_octets}
use Rattle.page_plane.specs.Plane.{is_lit}
use Rattle.latsefur_c.proofs.FrameLemmas
use Rattle.latsefur_c.proofs.plane.write_plane.Goals as goal

pub loop-row-init : goal.loop-row-init
loop-row-init c = FrameLemmas.none_written _ _ _

pub loop-row-preserved : goal.loop-row-preserved
loop-row-preserved c =
    let plane = c.args.plane.now in
    let width = c.from.ensures ∙ c.width.ensures.value in
    let place = ap (λ n. (n + 7) / 8 * c.from-in-loop-row.result) width ∙ ap (λ n. row_octets plane.width * n) c.from-in-loop-row.ensures in
    FrameLemmas.one_row_written plane.width c.loop-row.row (is_lit plane) c.args.buffer.now c.loop-row.buffer c.write_at.new.buffer c.row.result.now _ place c.row.ensures.count c.row.ensures.pixels c.row.ensures.spare c.loop-row.invariant c.write_at.ensures
