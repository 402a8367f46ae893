use Rattle.std.proofs.Common.{◌++◌, refl, subst}
use Rattle.std.proofs.lemmas.List.{take_all}
use Rattle.octet_text.proofs.TextLemmas
use Rattle.message_words.specs.Codes.{code_text}
use Rattle.message_report.specs.Notes.{AreWarned, warned_text}
use Rattle.message_report.proofs.NoteLemmas
use Rattle.message_report.proofs.text.push_each_warning.Goals as goal

pub loop-warning-preserved : goal.loop-warning-preserved
loop-warning-preserved c =
    let next = c.warning-item.result in
    let (told, so_far, are) = c.loop-warning.invariant in
    let (words, one, grows) = c.in_ok-push_warning.ensures in
    let last = warned_text next.at (code_text next.code) words in (
      told ++ last,
      TextLemmas.grown c.args.text.now c.loop-warning.text c.push_warning.new.text told last _ so_far grows refl,
      NoteLemmas.warned_more c.args.warnings.now c.loop-warning.warning-index next told words c.loop-warning-test.true c.warning-item.is are one,
    )

pub returns : goal.returns
returns c =
    let (told, so_far, are) = c.loop-warning.invariant in
    let all = take_all c.loop-warning.warning-index c.args.warnings.now c.loop-warning-test.false in
    (told, so_far, subst (λ ws. AreWarned ws told) all are)
