use Rattle.std.proofs.Common.{arith, lit≤}
use Rattle.multi_tag.proofs.ClosedLemmas.{number_no_part, number_part, bracket_stops}
use Rattle.multi_tag.proofs.closed.read_coordinate.Goals as goal

pub returns-in_err-after_bracket-clause-none : goal.returns-in_err-after_bracket-clause-none
returns-in_err-after_bracket-clause-none c =
    rw c.from_residual-in_err-after_bracket.ensures (number_no_part 10 5 0 99999 93 _ _ _ c.read_numeral-value.ensures bracket_stops (λ v behind e l f. c.in_err-after_bracket.ensures.none behind f))

pub returns-clause-some : goal.returns-clause-some
returns-clause-some c =
    number_part 10 5 0 99999 93 _ _ _ c.read_numeral-value.ensures c.in_ok-value.value _ c.in_ok-value.was c.in_ok-after_bracket.ensures.some (lit≤ tt) (lit≤ tt) (omega arith)
