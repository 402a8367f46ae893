use Rattle.std.proofs.Common.{arith, ◌≡◌, ℕ, List, length, subst, sym, ap, ◌∙◌, if◌then◌else◌}
use Rattle.std.specs.Vec.{with_items}
use Rattle.std.proofs.lemmas.List.{with_items_is}
use Rattle.page_plane.specs.Plane.{is_lit}
use Rattle.page_plane.specs.Octets.{IsStored, stored_plane}
use Rattle.page_plane.specs.Put.{is_block_put, IsBlockPutAt}
use Rattle.page_plane.proofs.StoredLemmas.{stored_put, put_lit}
use Rattle.page_plane.proofs.plane.Plane.put_rows.Goals as goal

pub invariant_of-self : goal.invariant_of-self
invariant_of-self c =
    let s = c.self.inside in
    let new = c.put_rows.new.octets in
    let whole : (with_items s.octets new).items ≡ new = with_items_is s.octets new (omega arith) in
    let put : IsBlockPutAt s.octets.items new s.width c.args.x c.args.y c.args.width c.args.rows.now (length c.args.rows.now) c.args.on =
    rw (c.deref_mut.ensures.value) at c.put_rows.ensures.pixels in
    subst (λ (ns : List ℕ). IsStored s.width s.height ns) (sym whole)
    (stored_put s.width s.height c.args.x c.args.y c.args.width c.args.rows.now s.octets.items new c.args.on c.self.invariant (omega arith)
    (omega (arith, ap (λ p. p.width) c.self.view_is)) put)

pub returns-clause-pixels : goal.returns-clause-pixels
returns-clause-pixels c = λ column row.
    let s = c.self.inside in
    let t = c.raised-self-inside.result in
    let new = c.put_rows.new.octets in
    let under = is_block_put c.args.x c.args.y c.args.width c.args.rows.now column row in
    let whole : (with_items s.octets new).items ≡ new = with_items_is s.octets new (omega arith) in
    let put : IsBlockPutAt s.octets.items new s.width c.args.x c.args.y c.args.width c.args.rows.now (length c.args.rows.now) c.args.on =
    rw (c.deref_mut.ensures.value) at c.put_rows.ensures.pixels in
    subst (λ (ns : List ℕ). is_lit (stored_plane s.width s.height t ns) column row ≡ (if under then c.args.on else is_lit c.args.self.now column row)) (sym whole)
    (put_lit s.width s.height s.steps t c.args.x c.args.y c.args.width column row c.args.rows.now s.octets.items new c.args.on
    (omega (arith, ap (λ p. p.width) c.self.view_is)) (omega (arith, ap (λ p. p.height) c.self.view_is)) put
    ∙ ap (λ p. if under then c.args.on else is_lit p column row) c.self.view_is)
