use Rattle.std.proofs.Common.{◌+◌, subst, sym}
use Rattle.page_plane.specs.Plane.{is_lit}
use Rattle.latsefur_c.specs.Drawn.{HoldsPlane}
use Rattle.latsefur_c.proofs.RowLemmas
use Rattle.latsefur_c.proofs.draw.octets_of.Goals as goal

pub loop-row-preserved : goal.loop-row-preserved
loop-row-preserved c =
    let plane = c.args.plane.now in
    let more = RowLemmas.one_row_more plane.width c.loop-row.row (is_lit plane) c.loop-row.octets.items c.row.result.now c.loop-row.invariant c.row.ensures.count c.row.ensures.pixels c.row.ensures.spare in
    subst (HoldsPlane plane.width (c.loop-row.row + 1) (is_lit plane)) (sym c.in_ok-extend_from_slice.ensures.items) more
