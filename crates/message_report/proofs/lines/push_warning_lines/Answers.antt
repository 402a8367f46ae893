use Rattle.std.proofs.Common.{◌++◌, min, refl, subst}
use Rattle.std.proofs.lemmas.List.{take_all}
use Rattle.octet_text.proofs.TextLemmas
use Rattle.message_words.specs.Codes.{code_text}
use Rattle.message_report.specs.Explanation.{IsWarnings, warning_text}
use Rattle.message_report.proofs.ExplanationLemmas
use Rattle.message_report.proofs.lines.push_warning_lines.Goals as goal

pub loop-warning-preserved : goal.loop-warning-preserved
loop-warning-preserved c =
    let name = c.args.name.now in
    let line = c.args.line in
    let next = c.warning-item.result in
    let (told, so_far, are) = c.loop-warning.invariant in
    let (words, one, grows) = c.in_ok-push_warning_line.ensures in
    let last = warning_text name line (min next.at 4096) (code_text next.code) words in (
      told ++ last,
      TextLemmas.grown c.args.text.now c.loop-warning.text c.push_warning_line.new.text told last _ so_far grows refl,
      ExplanationLemmas.warnings_more name line c.args.warnings.now c.loop-warning.warning-index next told words c.loop-warning-test.true c.warning-item.is are one,
    )

pub returns : goal.returns
returns c =
    let (told, so_far, are) = c.loop-warning.invariant in
    let all = take_all c.loop-warning.warning-index c.args.warnings.now c.loop-warning-test.false in
    (told, so_far, subst (λ ws. IsWarnings c.args.name.now c.args.line ws told) all are)
