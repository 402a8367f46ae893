use Rattle.std.proofs.Common.{◌∙◌, sym}
use Rattle.sign_script.proofs.PartsLemmas.{tail, tail_ended}
use Rattle.sign_script.proofs.WordLemmas.{begun_rest, begun_verb, no_verb, other_verb}
use Rattle.sign_script.proofs.verb.Verb.begin.Goals as goal

pub returns-in_err-verb-clause-verb : goal.returns-in_err-verb-clause-verb
returns-in_err-verb-clause-verb c = rw c.from_residual.ensures (no_verb c.args.line.now (sym c.likely.ensures ∙ c.in_err-verb.was))

pub returns-in_err-rest-clause-verb : goal.returns-in_err-rest-clause-verb
returns-in_err-rest-clause-verb c =
    let differs = (c.in_err-rest.ensures).none in
    rw c.from_residual-in_err-rest.ensures
    (other_verb c.args.line.now c.in_ok-verb.verb (sym c.likely.ensures ∙ c.in_ok-verb.was) (λ rest. differs (tail rest) (tail_ended rest)))

pub returns-clause-verb : goal.returns-clause-verb
returns-clause-verb c =
    begun_verb c.args.line.now c.in_ok-rest.rest.now c.in_ok-verb.verb c.in_ok-rest.ensures.some.0 c.in_ok-rest.ensures.some.1

pub returns-clause-rest : goal.returns-clause-rest
returns-clause-rest c =
    begun_rest c.args.line.now c.in_ok-rest.rest.now c.in_ok-verb.verb c.in_ok-rest.ensures.some.0 c.in_ok-rest.ensures.some.1
