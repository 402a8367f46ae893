use Rattle.std.proofs.Common.{◌≡◌, OnOk, subst}
use Rattle.sign_tool.proofs.CodeLemmas
use Rattle.sign_tool.proofs.answers.push_tenths.Goals as goal

pub returns-clause-text : goal.returns-clause-text
returns-clause-text c =
    let told = CodeLemmas.tenths_told c.args.tenths _ c.args.text.now.begun _ _ c.if-tenths-eq4294967295.false c.from.ensures c.in_ok-push_octets.ensures.text c.in_ok-push_number.ensures.text in
    subst (λ l. OnOk c.push_octets-3.result (c.push_octets-3.new.text.begun ≡ l)) told c.push_octets-3.ensures.text
