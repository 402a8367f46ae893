use Rattle.std.proofs.Common.{ap, ◌∙◌}
use Rattle.serde_json.specs.Written.{compact_text, has_float}
use Rattle.message_report.proofs.RecordLemmas
use Rattle.message_report.proofs.record.message_json.Goals as goal

pub returns : goal.returns
returns c = c.in_ok-json.ensures.text (ap has_float c.in_ok-value.ensures ∙ RecordLemmas.text_whole c.args.message.now) ∙ ap compact_text c.in_ok-value.ensures
