use Rattle.std.proofs.Common.{◌≡◌, replicate, ◌*◌}
use Rattle.page_plane.proofs.StoredLemmas.{stored_dark, dark}
use Rattle.page_plane.proofs.plane.Plane.new.Goals as goal

pub invariant_of-result : goal.invariant_of-result
invariant_of-result c =
    let zeros : c.in-Ok.octets.items ≡ replicate (c.row_len.result * c.from.result) 0 = c.in-Ok.ensures.items_if_clones_equal (λ y e. e) in
    rw (zeros, c.row_len.ensures, c.from.ensures) (stored_dark c.args.w c.args.h c.requires.width c.requires.height)

pub returns-clause-pixels : goal.returns-clause-pixels
returns-clause-pixels c = λ x y.
    let zeros : c.in-Ok.octets.items ≡ replicate (c.row_len.result * c.from.result) 0 = c.in-Ok.ensures.items_if_clones_equal (λ y e. e) in
    rw zeros (dark c.args.w c.args.h 0 (c.row_len.result * c.from.result) x y)
