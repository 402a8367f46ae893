use Rattle.std.proofs.Common.{◌≡◌, ap, sym, subst, ◌∙◌}
use Rattle.page_plane.specs.Plane.{BitPlane}
use Rattle.multi_meaning.specs.Picture.{Lights, picture}
use Rattle.test_layout.proofs.tests.lending.end_with_next.Goals as goal

pub returns-clause-shown : goal.returns-clause-shown
returns-clause-shown c =
    let pages = c.args.pages in
    let turned = rw c.in-Some.is at c.next_page.follows.holds-at-none in
    let back : c.finish.result.1 ≡ c.in-Some.field-0.plane.now = ap (λ p. p.1) c.finish.ensures.given_back ∙ sym turned.1 in
    subst (λ (plane : BitPlane). Lights plane (picture pages.string.sign pages.string.source.octets pages.next pages.phase pages.colour)) (sym back) c.in-Some.ensures.page.2
