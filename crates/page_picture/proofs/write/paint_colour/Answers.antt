use Rattle.std.proofs.Common.{◌∙◌, sym, arith}
use Rattle.page_plane.specs.Plane.{is_lit}
use Rattle.multi_meaning.specs.Picture.{picture}
use Rattle.page_picture.proofs.PaintLemmas.{painted_none, painted_same}
use Rattle.page_picture.proofs.WriteLemmas.{monochrome_dark, on_page}
use Rattle.page_picture.proofs.write.paint_colour.Goals as goal

pub returns-clause-painted : goal.returns-clause-painted
returns-clause-painted c =
    let sign = c.args.checked.now.sign in
    let plane = c.draw.new.plane in
    let colour = c.args.colour in
    let has = picture sign c.args.checked.now.source.octets c.args.page c.args.phase colour in
    let wide = c.draw.ensures.size.0 ∙ c.requires.size.0 in
    let high = c.draw.ensures.size.1 ∙ c.requires.size.1 in
    painted_same sign.width sign.height colour (is_lit plane) has c.args.octets.now c.paint_lit.new.octets
    (λ x y left above. sym (c.draw.ensures.drawn c.if-not-draw.false x y (omega (arith, left, wide)) (omega (arith, above, high))))
    (on_page sign.width sign.height plane.width plane.height colour (is_lit plane) c.args.octets.now c.paint_lit.new.octets wide high c.paint_lit.ensures)

pub returns-then-colour-gt1-clause-painted : goal.returns-then-colour-gt1-clause-painted
returns-then-colour-gt1-clause-painted c =
    let sign = c.args.checked.now.sign in
    let text = c.args.checked.now.source.octets in
    let plain = sym c.requires.classic ∙ c.if-not-classic.true in
    painted_none sign.width sign.height c.args.colour (picture sign text c.args.page c.args.phase c.args.colour) c.args.octets.now
    (λ column row. monochrome_dark sign text c.args.page c.args.phase c.args.colour column row plain c.if-colour-gt1.true)
