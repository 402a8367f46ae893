use Rattle.std.proofs.Common.{arith, sym, ap, ◌∙◌}
use Rattle.page_plane.specs.Plane.{is_lit}
use Rattle.page_plane.proofs.StoredLemmas.{stored_lit}
use Rattle.page_plane.proofs.plane.Plane.pixel.Goals as goal

pub returns : goal.returns
returns c =
    let s = c.self.inside in
    c.bit.ensures
    ∙ rw (c.bit_place-place.ensures, c.deref.ensures.value)
    (sym (stored_lit s.width s.height s.steps c.args.x c.args.y s.octets.items (omega (arith, ap (λ p. p.width) c.self.view_is)) (omega (arith, ap (λ p. p.height) c.self.view_is)))
    ∙ ap (λ p. is_lit p c.args.x c.args.y) c.self.view_is)
