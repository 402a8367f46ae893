use Rattle.std.proofs.Common.{◌++◌, ◌∙◌, arith, ap, string_bytes}
use Rattle.sign_words.specs.Told.{finding_told}
use Rattle.sign_words.proofs.ToldLemmas.{others_on, others_end}
use Rattle.sign_words.proofs.members.push_others.Goals as goal

pub loop-finding-preserved : goal.loop-finding-preserved
loop-finding-preserved c =
    others_on c.args.findings.now c.loop-finding.finding-index _ c.finding-item.result _ (string_bytes c.push_text.new.text) _ (omega (arith, c.loop-finding-test.true)) c.in_ok-push_text.ensures
    (c.in_ok-push_finding.ensures ∙ ap (λ f. string_bytes c.push_text.new.text ++ finding_told f) c.finding-item.is) c.loop-finding.invariant

pub returns : goal.returns
returns c = others_end c.args.findings.now c.loop-finding.finding-index _ _ (omega (arith, c.loop-finding-test.false)) c.loop-finding.invariant
