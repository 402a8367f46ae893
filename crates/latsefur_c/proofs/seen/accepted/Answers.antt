use Rattle.std.proofs.Common.{refl, inl, ap, arith, subst}
use Rattle.multi_token.specs.Counted.{Counted}
use Rattle.multi_meaning.specs.Verdict.{IsVerdict, Refused}
use Rattle.latsefur_c.proofs.seen.accepted.Goals as goal

pub returns-in-Err-clause-err : goal.returns-in-Err-clause-err
returns-in-Err-clause-err c =
    let fault = c.in-Err.field-0 in
    let given = ap (λ (s : Counted). s.octets) c.new.ensures in
    inl (refl, omega (arith, c.if-text-gt-MAX_TEXT.false), (fault.code, fault.at, subst (λ l. IsVerdict c.args.sign.now l (Refused fault.code fault.at)) given c.in-Err.ensures.refused))
