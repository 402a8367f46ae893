use Rattle.std.proofs.Common.{sym, ◌∙◌}
use Rattle.std.proofs.lemmas.Option.{none-some}
use Rattle.multi_tag.proofs.ClosedLemmas.{optional_no_part, bracket_stops}
use Rattle.multi_tag.proofs.closed.read_optional.Goals as goal

pub returns-in_err-value-clause-none : goal.returns-in_err-value-clause-none
returns-in_err-value-clause-none c =
    rw c.from_residual.ensures (optional_no_part _ _ 93 _ _ _ c.read_numeral-value.ensures bracket_stops (λ o behind e f. none-some o (sym (sym c.in_range.ensures ∙ c.in_err-value.was) ∙ e)))

pub returns-in_err-after_bracket-clause-none : goal.returns-in_err-after_bracket-clause-none
returns-in_err-after_bracket-clause-none c =
    rw c.from_residual-in_err-after_bracket.ensures (optional_no_part _ _ 93 _ _ _ c.read_numeral-value.ensures bracket_stops (λ o behind e f. c.in_err-after_bracket.ensures.none behind f))
