use Rattle.std.proofs.Common.{arith, lit≤, refl, ap}
use Rattle.std.specs.Char.{to_ascii_lowercase}
use Rattle.multi_tag.proofs.CutLemmas.{small_front, small_empty, mark_alone, one_first, empty_or_not}
use Rattle.multi_tag.proofs.ClosedLemmas.{number_part, number_no_part, comma_stops}
use Rattle.multi_tag.proofs.closed.read_before_comma.Goals as goal

pub returns-in_default-clause-none : goal.returns-in_default-clause-none
returns-in_default-clause-none c =
    number_no_part 10 5 0 99999 44 _ _ _ c.read_numeral-value.ensures comma_stops (λ v behind is l e. empty_or_not (small_empty c.read_numeral-value.result.1.now c.in_default.len_below) e)

pub returns-in_ok-value-clause-some : goal.returns-in_ok-value-clause-some
returns-in_ok-value-clause-some c =
    let stop = small_front c.read_numeral-value.result.1.now 44 c.in-len1-up.len_at_least (ap to_ascii_lowercase c.if-stop-eq44.true) in
    number_part 10 5 0 99999 44 _ _ _ c.read_numeral-value.ensures c.in_ok-value.field-0 _ c.in_ok-value.was stop (lit≤ tt) (lit≤ tt) (omega arith)

pub returns-else-stop-eq44-clause-none : goal.returns-else-stop-eq44-clause-none
returns-else-stop-eq44-clause-none c =
    let front = small_front c.read_numeral-value.result.1.now _ c.in-len1-up.len_at_least refl in
    number_no_part 10 5 0 99999 44 _ _ _ c.read_numeral-value.ensures comma_stops (λ v behind is l e. c.if-stop-eq44.false (mark_alone 44 _ (omega arith) (one_first front e).0))
