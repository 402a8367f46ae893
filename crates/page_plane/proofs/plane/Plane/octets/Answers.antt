use Rattle.std.proofs.Common.{◌≡◌, ◌∙◌, ap, arith, sym}
use Rattle.page_plane.specs.Plane.{is_lit}
use Rattle.page_plane.specs.Octets.{is_bit_set, bit_place}
use Rattle.page_plane.proofs.StoredLemmas.{stored_lit}
use Rattle.page_plane.proofs.plane.Plane.octets.Goals as goal

pub returns-clause-pixels : goal.returns-clause-pixels
returns-clause-pixels c = λ x y h g.
    let s = c.self.inside in
    let plane = c.args.self.now in
    let wide : s.width ≡ plane.width = ap (λ p. p.width) c.self.view_is in
    let high : s.height ≡ plane.height = ap (λ p. p.height) c.self.view_is in
    ap (λ w. is_bit_set c.as_slice.result.now (bit_place w x y)) (sym wide)
    ∙ ap (λ l. is_bit_set l (bit_place s.width x y)) c.as_slice.ensures.value
    ∙ sym (stored_lit s.width s.height s.steps x y s.octets.items (omega (arith, wide, h)) (omega (arith, high, g)))
    ∙ ap (λ p. is_lit p x y) c.self.view_is
