use Rattle.std.proofs.Common.{arith, ◌≡◌, ℕ, ◌*◌, List, length, subst, sym, ap}
use Rattle.std.specs.Vec.{with_items}
use Rattle.std.proofs.lemmas.List.{with_items_is}
use Rattle.page_plane.specs.Plane.{is_lit}
use Rattle.page_plane.specs.Octets.{IsStored, stored_plane}
use Rattle.page_plane.proofs.OctetLemmas.{IsFilledBelow}
use Rattle.page_plane.proofs.StoredLemmas.{stored_filled, filled_lit}
use Rattle.page_plane.proofs.plane.Plane.fill.Goals as goal

pub invariant_of-self : goal.invariant_of-self
invariant_of-self c =
    let s = c.self.inside in
    let new = c.fill_rows.new.octets in
    let whole : (with_items s.octets new).items ≡ new = with_items_is s.octets new (omega arith) in
    let filled = subst (λ (ns : List ℕ). IsFilledBelow new s.width c.args.on (8 * length ns)) c.deref_mut.ensures.value c.fill_rows.ensures in
    subst (λ (ns : List ℕ). IsStored s.width s.height ns) (sym whole)
    (stored_filled s.width s.height s.octets.items new c.args.on c.self.invariant (omega arith) filled)

pub returns-clause-pixels : goal.returns-clause-pixels
returns-clause-pixels c = λ x y h g.
    let s = c.self.inside in
    let new = c.fill_rows.new.octets in
    let whole : (with_items s.octets new).items ≡ new = with_items_is s.octets new (omega arith) in
    let filled = subst (λ (ns : List ℕ). IsFilledBelow new s.width c.args.on (8 * length ns)) c.deref_mut.ensures.value c.fill_rows.ensures in
    subst (λ (ns : List ℕ). is_lit (stored_plane s.width s.height c.raised-self-inside.result ns) x y ≡ c.args.on) (sym whole)
    (filled_lit s.width s.height c.raised-self-inside.result x y s.octets.items new c.args.on c.self.invariant filled
    (omega (arith, ap (λ p. p.width) c.self.view_is)) (omega (arith, ap (λ p. p.height) c.self.view_is)))
