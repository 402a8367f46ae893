use Rattle.std.proofs.Common.{ap, ◌∙◌}
use Rattle.multi_token.specs.Counted.{charged}
use Rattle.multi_tag.proofs.ReadLemmas.{token_read, token_fault, token_steps}
use Rattle.multi_tag.proofs.read.read_tag.Goals as goal

pub returns-in_default-clause-read : goal.returns-in_default-clause-read
returns-in_default-clause-read c = (token_fault _ _ c.args.token.now _ c.requires c.ahead-octets.ensures.octets c.min.ensures c.fault.result c.in_default.ensures.none c.fault.ensures.unsupported c.fault.ensures.value).read

pub returns-in_default-clause-unsupported : goal.returns-in_default-clause-unsupported
returns-in_default-clause-unsupported c = (token_fault _ _ c.args.token.now _ c.requires c.ahead-octets.ensures.octets c.min.ensures c.fault.result c.in_default.ensures.none c.fault.ensures.unsupported c.fault.ensures.value).unsupported

pub returns-in_default-clause-value : goal.returns-in_default-clause-value
returns-in_default-clause-value c = (token_fault _ _ c.args.token.now _ c.requires c.ahead-octets.ensures.octets c.min.ensures c.fault.result c.in_default.ensures.none c.fault.ensures.unsupported c.fault.ensures.value).value

pub returns-clause-spelled : goal.returns-clause-spelled
returns-clause-spelled c = (token_read _ _ c.args.token.now _ c.requires c.ahead-octets.ensures.octets c.min.ensures c.in-Some.tag c.in-Some.field-0-1 c.in-Some.ensures.some).spelled

pub returns-clause-read : goal.returns-clause-read
returns-clause-read c = (token_read _ _ c.args.token.now _ c.requires c.ahead-octets.ensures.octets c.min.ensures c.in-Some.tag c.in-Some.field-0-1 c.in-Some.ensures.some).read

pub returns-clause-unsupported : goal.returns-clause-unsupported
returns-clause-unsupported c = (token_read _ _ c.args.token.now _ c.requires c.ahead-octets.ensures.octets c.min.ensures c.in-Some.tag c.in-Some.field-0-1 c.in-Some.ensures.some).unsupported

pub returns-clause-value : goal.returns-clause-value
returns-clause-value c = (token_read _ _ c.args.token.now _ c.requires c.ahead-octets.ensures.octets c.min.ensures c.in-Some.tag c.in-Some.field-0-1 c.in-Some.ensures.some).value

pub returns-clause-value_steps : goal.returns-clause-value_steps
returns-clause-value_steps c =
    let spells = (token_read _ _ c.args.token.now _ c.requires c.ahead-octets.ensures.octets c.min.ensures c.in-Some.tag c.in-Some.field-0-1 c.in-Some.ensures.some).spelled in
    c.ahead-octets.follows.holds-at-none ∙ ap (charged c.args.source.now) (token_steps _ _ c.args.token.now _ c.requires c.ahead-octets.ensures.octets c.min.ensures c.in-Some.tag spells)
