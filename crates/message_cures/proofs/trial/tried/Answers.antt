use Rattle.std.proofs.Common.{arith, sym, ap}
use Rattle.multi_token.specs.Counted.{Counted}
use Rattle.multi_meaning.specs.Verdict.{Accepted, Refused}
use Rattle.message_cures.proofs.TakingLemmas
use Rattle.message_cures.proofs.trial.tried.Goals as goal

pub returns-then-text-gt-MAX_MESSAGE-clause-tried :
    goal.returns-then-text-gt-MAX_MESSAGE-clause-tried
returns-then-text-gt-MAX_MESSAGE-clause-tried c = sym (TakingLemmas.not_taken c.args.judge.now c.args.text.now (omega (arith, c.if-text-gt-MAX_MESSAGE.true)))

pub returns-in-Ok-clause-tried : goal.returns-in-Ok-clause-tried
returns-in-Ok-clause-tried c =
    sym (TakingLemmas.taken_by c.args.judge.now _ c.args.text.now (Accepted c.in-Ok.field-0) (omega (arith, c.if-text-gt-MAX_MESSAGE.false)) (ap (λ (s : Counted). s.octets) c.new.ensures) c.in-Ok.ensures.accepted)

pub returns-in-Err-clause-tried : goal.returns-in-Err-clause-tried
returns-in-Err-clause-tried c =
    sym (TakingLemmas.taken_by c.args.judge.now _ c.args.text.now (Refused _ c.in-Err.offence.at) (omega (arith, c.if-text-gt-MAX_MESSAGE.false)) (ap (λ (s : Counted). s.octets) c.new.ensures) c.in-Err.ensures.refused)
