use Rattle.std.proofs.Common.{◌≡◌, ◌++◌, OnOk, ap, ◌∙◌, subst, sym}
use Rattle.message_report.specs.Phrases.{accepted_text}
use Rattle.std.proofs.lemmas.Bool.{ne_eqb}
use Rattle.message_report.proofs.VerdictLemmas
use Rattle.message_report.proofs.verdict.push_accepted.Goals as goal

pub returns-then-pages-eq1 : goal.returns-then-pages-eq1
returns-then-pages-eq1 c =
    subst (λ l. OnOk c.push_octets.result (c.push_octets.new.text ≡ c.args.text.now ++ l)) (VerdictLemmas.one_page ∙ ap accepted_text (sym c.if-pages-eq1.true)) c.push_octets.ensures

pub returns : goal.returns
returns c =
    subst (λ l. OnOk c.push_octets-2.result (c.push_octets-2.new.text ≡ c.args.text.now ++ l)) (VerdictLemmas.few_pages c.args.pages (ne_eqb c.args.pages 1 c.if-pages-eq1.false) c.if-pages-ge10.false) c.push_octets-2.ensures
