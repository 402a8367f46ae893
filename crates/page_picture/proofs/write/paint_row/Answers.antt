use Rattle.std.proofs.Common.{sym, ◌∙◌, arith}
use Rattle.page_plane.specs.Plane.{is_lit}
use Rattle.page_picture.proofs.PaintLemmas
use Rattle.page_picture.proofs.write.paint_row.Goals as goal

pub returns-then-is_dark : goal.returns-then-is_dark
returns-then-is_dark c =
    let plane = c.args.plane.now in
    PaintLemmas.painted_dark plane.width plane.height c.args.colour c.args.row c.row-bits.result.now (is_lit plane) c.args.octets.now (sym c.is_dark.ensures ∙ c.if-is_dark.true) c.row-bits.ensures.pixels

pub loop-place-init : goal.loop-place-init
loop-place-init c =
    let plane = c.args.plane.now in
    PaintLemmas.octets_none plane.width plane.height c.args.colour c.args.row (is_lit plane) c.args.octets.now

pub loop-place-preserved : goal.loop-place-preserved
loop-place-preserved c =
    let plane = c.args.plane.now in
    let l = c.loop-place in
    PaintLemmas.octets_next plane.width plane.height c.args.colour c.args.row l.place (is_lit plane) c.args.octets.now l.octets c.paint_octet.new.octets l.invariant c.paint_octet.ensures

pub returns : goal.returns
returns c =
    let plane = c.args.plane.now in
    let l = c.loop-place in
    PaintLemmas.octets_all plane.width plane.height c.args.colour c.args.row l.place (is_lit plane) c.args.octets.now l.octets
    (omega (arith, c.row-bits.ensures.count, c.loop-place-test.false)) l.invariant
