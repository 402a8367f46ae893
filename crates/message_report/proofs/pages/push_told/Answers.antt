use Rattle.std.proofs.Common.{sym, subst}
use Rattle.multi_layout.specs.Pages.{page_count}
use Rattle.message_report.specs.Explanation.{PassesOver}
use Rattle.message_report.proofs.ExplanationLemmas
use Rattle.message_report.proofs.pages.push_told.Goals as goal

pub returns-in_ok-push_warned : goal.returns-in_ok-push_warned
returns-in_ok-push_warned c =
    let string = c.args.checked.now in
    let line = c.args.message.now.line in
    let pages = ExplanationLemmas.pages_are string.sign string.source.octets c.pages.result c.pages.ensures c.requires.short in
    let (told, is, passes) = c.in_ok-push_warned.ensures in
    let warnings = c.args.message.now.found.now.warnings.items in
    let counted = subst (λ n. PassesOver c.args.message.now.message.now line n warnings told) pages passes in
    (told, is, rw c.if-message.true (subst (λ l. PassesOver l line (page_count string) warnings told) (sym c.requires.octets) counted))
