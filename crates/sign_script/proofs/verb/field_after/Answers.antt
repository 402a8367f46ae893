use Rattle.std.proofs.Common.{sym, ◌∙◌}
use Rattle.sign_script.proofs.WordLemmas.{longer_word}
use Rattle.sign_script.proofs.verb.field_after.Goals as goal

pub returns-then-is_ended-clause-some : goal.returns-then-is_ended-clause-some
returns-then-is_ended-clause-some c = (c.in_ok-rest.ensures.some, sym c.is_ended.ensures ∙ c.if-is_ended.true)

pub returns-else-is_ended-clause-none : goal.returns-else-is_ended-clause-none
returns-else-is_ended-clause-none c = λ rest ended begins.
    longer_word c.args.line.now c.args.word.now c.in_ok-rest.rest.now rest c.in_ok-rest.ensures.some (sym c.is_ended.ensures ∙ c.if-is_ended.false) ended begins
