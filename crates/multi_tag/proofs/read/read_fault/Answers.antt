use Rattle.std.proofs.Common.{ap, arith, ◌∙◌}
use Rattle.multi_token.specs.Counted.{charged}
use Rattle.multi_tag.proofs.ReadLemmas.{front_lent, fault_told}
use Rattle.multi_tag.proofs.read.read_fault.Goals as goal

pub returns-clause-unsupported : goal.returns-clause-unsupported
returns-clause-unsupported c =
    (fault_told _ _ c.args.token.now _ c.requires c.ahead.ensures.octets (omega (arith, c.min.ensures)) c.fault.result c.fault.ensures.unsupported c.fault.ensures.value).0

pub returns-clause-value : goal.returns-clause-value
returns-clause-value c =
    (fault_told _ _ c.args.token.now _ c.requires c.ahead.ensures.octets (omega (arith, c.min.ensures)) c.fault.result c.fault.ensures.unsupported c.fault.ensures.value).1

pub returns-clause-steps : goal.returns-clause-steps
returns-clause-steps c =
    let lent = front_lent _ _ c.args.token.now _ c.requires c.ahead.ensures.octets (omega (arith, c.min.ensures)) in
    c.ahead.follows.holds-at-none ∙ ap (charged c.args.source.now) (omega (arith, lent, c.min.ensures))
