use Rattle.std.proofs.Common.{arith, ◌≡◌, ◌+◌, ◌-◌, ◌*◌, ap, ◌∙◌}
use Rattle.page_plane.specs.Plane.{is_lit}
use Rattle.page_plane.specs.Octets.{row_octets}
use Rattle.page_plane.proofs.StoredLemmas.{row_lit, row_spare}
use Rattle.page_plane.proofs.plane.Plane.row.Goals as goal

pub returns-clause-pixels : goal.returns-clause-pixels
returns-clause-pixels c = λ x h.
    let s = c.self.inside in
    let size : c.args.y * row_octets s.width + row_octets s.width - c.args.y * row_octets s.width ≡ row_octets s.width = omega arith in
    rw (c.from.ensures, c.row_len-len.ensures, c.deref.ensures.value, size)
    (row_lit s.width s.height s.steps x c.args.y s.octets.items (omega (arith, ap (λ p. p.width) c.self.view_is)) (omega (arith, ap (λ p. p.height) c.self.view_is))
    ∙ ap (λ p. is_lit p x c.args.y) c.self.view_is)

pub returns-clause-spare : goal.returns-clause-spare
returns-clause-spare c = λ x h.
    let s = c.self.inside in
    let size : c.args.y * row_octets s.width + row_octets s.width - c.args.y * row_octets s.width ≡ row_octets s.width = omega arith in
    rw (c.from.ensures, c.row_len-len.ensures, c.deref.ensures.value, size)
    (row_spare s.width s.height x c.args.y s.octets.items c.self.invariant (omega (arith, ap (λ p. p.width) c.self.view_is)) (omega (arith, ap (λ p. p.height) c.self.view_is)))
