use Rattle.std.proofs.Common.{◌-◌, min, ap, ◌∙◌, arith}
use Rattle.std.specs.Int.{bit_at}
use Rattle.page_plane.proofs.BitLemmas.{turned_bit, masked_bit}
use Rattle.page_plane.proofs.octets.part_of.Goals as goal

pub returns-clause-shown : goal.returns-clause-shown
returns-clause-shown c = λ j h from to.
    masked_bit c.rotate_left.result c.args.mask (7 - j) (omega arith)
    ∙ rw c.rotate_left.ensures (ap (λ b. min (bit_at c.args.mask (7 - j)) b) (turned_bit c.args.bits c.args.turn j (omega arith) h from to))

pub returns-clause-hidden : goal.returns-clause-hidden
returns-clause-hidden c = λ j h none.
    let bit = masked_bit c.rotate_left.result c.args.mask (7 - j) (omega arith) in
    omega arith
