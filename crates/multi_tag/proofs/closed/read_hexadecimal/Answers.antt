use Rattle.std.proofs.Common.{arith, lit≤, sym, ◌∙◌}
use Rattle.std.proofs.lemmas.Option.{same_Some}
use Rattle.multi_tag.proofs.NumberLemmas.{no_digit, written_number}
use Rattle.multi_tag.proofs.ClosedLemmas.{number_no_part, number_part}
use Rattle.multi_tag.proofs.closed.read_hexadecimal.Goals as goal

pub returns-in_err-behind-clause-none : goal.returns-in_err-behind-clause-none
returns-in_err-behind-clause-none c =
    rw c.from_residual-in_err-behind.ensures (number_no_part 16 4 c.args.low 65535 93 _ _ _ c.read_numeral-value.ensures (no_digit 16 93 (lit≤ tt)) (λ v behind e l f. c.in_err-behind.ensures.none behind f))

pub returns-then-value-from-clause-none : goal.returns-then-value-from-clause-none
returns-then-value-from-clause-none c =
    number_no_part 16 4 c.args.low 65535 93 _ _ _ c.read_numeral-value.ensures (no_digit 16 93 (lit≤ tt)) (λ v behind e l f. omega (arith, c.if-value-from.true, c.from.ensures, l, same_Some _ _ (sym c.in_ok-value.was ∙ e)))

pub overflow_cast-result : goal.overflow_cast-result
overflow_cast-result c =
    let cut = c.read_numeral-value.ensures in
    let number = written_number 16 4 0 65535 cut.digits c.in_ok-value.value cut.each cut.count (sym c.in_ok-value.was ∙ cut.value_is) (lit≤ tt) (lit≤ tt) (omega arith) in
    omega (arith, number.below)

pub returns-clause-some : goal.returns-clause-some
returns-clause-some c =
    number_part 16 4 c.args.low 65535 93 _ _ _ c.read_numeral-value.ensures c.in_ok-value.value _ c.in_ok-value.was c.in_ok-behind.ensures.some (lit≤ tt) (lit≤ tt) (omega (arith, c.if-value-from.false, c.from.ensures))
