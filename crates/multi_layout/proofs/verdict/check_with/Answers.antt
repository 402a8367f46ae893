use Rattle.multi_layout.proofs.Common.{subst, SignData, IsVerdict}
use Rattle.multi_meaning.specs.Verdict.{Accepted}
use Rattle.multi_layout.proofs.verdict.check_with.Goals as goal

pub returns-in-Ok-clause-accepted : goal.returns-in-Ok-clause-accepted
returns-in-Ok-clause-accepted c =
    (c.in-Ok.told.pages, subst (λ (s : SignData). IsVerdict s c.args.source.octets (Accepted c.in-Ok.told.pages)) c.new-terms.ensures c.in-Ok.ensures.told.verdict)
