use Rattle.std.proofs.Common.{◌+◌, ◌*◌, ◌/◌, ◌∙◌, ◌≡◌, ap, arith, get_or, refl}
use Rattle.page_plane.specs.Plane.{is_lit}
use Rattle.page_picture.proofs.PaintLemmas
use Rattle.page_picture.proofs.write.paint_octet.Goals as goal

pub returns-then-octet-eq0 : goal.returns-then-octet-eq0
returns-then-octet-eq0 c =
    let plane = c.args.plane.now in
    PaintLemmas.octet_dark plane.width plane.height c.args.colour c.args.row c.args.place (get_or c.row.result.now c.args.place 0) c.row.result.now (is_lit plane) c.args.octets.now
    refl c.if-octet-eq0.true c.row.ensures.pixels

pub loop-column-init : goal.loop-column-init
loop-column-init c =
    let plane = c.args.plane.now in
    PaintLemmas.first_columns_none plane.width plane.height c.args.colour c.args.row c.args.place (is_lit plane) c.args.octets.now

pub loop-column-preserved : goal.loop-column-preserved
loop-column-preserved c =
    let plane = c.args.plane.now in
    let l = c.loop-column in
    let wide = c.from-width.ensures ∙ c.width.ensures.value in
    let end = c.min-column-end.ensures in
    let first = l.auto.column in
    let below = c.loop-column-test.true in
    let place = ap (λ w. w * c.from.result + l.column) wide ∙ ap (λ r. plane.width * r + l.column) c.from.ensures in
    PaintLemmas.first_columns_next plane.width plane.height c.args.colour c.args.row c.args.place l.column _ (get_or c.row.result.now c.args.place 0) c.has_bit.result c.row.result.now (is_lit plane)
    c.args.octets.now l.octets c.paint.new.octets
    (omega (arith, wide, end, below)) (omega arith) (omega arith) (let inside : l.column / 8 ≡ c.args.place = omega (arith, first, end, below) in inside) place refl c.row.ensures.pixels c.has_bit.ensures c.paint.ensures l.invariant

pub returns : goal.returns
returns c =
    let plane = c.args.plane.now in
    let l = c.loop-column in
    let wide = c.from-width.ensures ∙ c.width.ensures.value in
    let end = c.min-column-end.ensures in
    let last = c.loop-column-test.false in
    PaintLemmas.first_columns_all plane.width plane.height c.args.colour c.args.row c.args.place l.column (is_lit plane) c.args.octets.now l.octets
    (λ x left at. omega (arith, wide, end, last, left, at)) l.invariant
