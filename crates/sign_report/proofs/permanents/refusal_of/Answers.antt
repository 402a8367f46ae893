use Rattle.std.proofs.Common.{ap}
use Rattle.multi_token.specs.Counted.{Counted}
use Rattle.multi_meaning.specs.Verdict.{Accepted, Refused}
use Rattle.sign_report.proofs.PermanentLemmas.{by_verdict}
use Rattle.sign_report.proofs.permanents.refusal_of.Goals as goal

pub returns-in-Ok : goal.returns-in-Ok
returns-in-Ok c =
    let (pages, accepted) = c.in-Ok.ensures.accepted in
    by_verdict c.args.sign.now c.args.number c.args.multi.now _ (Accepted pages) (ap (λ (s : Counted). s.octets) c.new.ensures) accepted

pub returns-in-Err : goal.returns-in-Err
returns-in-Err c =
    by_verdict c.args.sign.now c.args.number c.args.multi.now _ (Refused c.in-Err.fault.code c.in-Err.fault.at) (ap (λ (s : Counted). s.octets) c.new.ensures) c.in-Err.ensures.refused
