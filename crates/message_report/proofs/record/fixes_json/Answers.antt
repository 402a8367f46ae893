use Rattle.std.proofs.Common.{ap, ◌∙◌}
use Rattle.serde_json.specs.Written.{compact_text, has_float}
use Rattle.message_report.proofs.RecordLemmas
use Rattle.message_report.proofs.record.fixes_json.Goals as goal

pub returns : goal.returns
returns c =
    let (fixes, are, is) = c.in_ok-fixes.ensures in
    (fixes, are, c.in_ok-json.ensures.text (ap has_float is ∙ RecordLemmas.fixes_whole c.args.sign.now c.args.message.now c.args.outcome.now fixes are) ∙ ap compact_text is)
