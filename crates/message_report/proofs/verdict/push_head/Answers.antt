use Rattle.std.proofs.Common.{◌≡◌, ◌++◌, OnOk, subst}
use Rattle.message_report.proofs.VerdictLemmas
use Rattle.message_report.proofs.verdict.push_head.Goals as goal

pub returns : goal.returns
returns c =
    subst (λ l. OnOk c.push_octets.result (c.push_octets.new.text ≡ c.args.text.now ++ l)) (VerdictLemmas.short_head c.args.page c.args.pages c.if-page-ge9.false c.if-pages-ge10.false) c.push_octets.ensures
