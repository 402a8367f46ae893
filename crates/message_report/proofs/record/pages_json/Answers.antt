use Rattle.std.proofs.Common.{ap, ◌∙◌}
use Rattle.multi_meaning.specs.Meaning.{meanings}
use Rattle.multi_meaning.specs.Times.{page_times}
use Rattle.serde_json.specs.Written.{compact_text, has_float}
use Rattle.message_report.proofs.RecordLemmas
use Rattle.message_report.proofs.record.pages_json.Goals as goal

pub returns : goal.returns
returns c =
    let message = c.args.message.now in
    let octets = c.args.checked.now.source.octets in
    let is = c.in_ok-pages.ensures in
    let whole = ap has_float is ∙ RecordLemmas.pages_whole message.telling message.sign.now octets 0 (page_times message.sign.now (meanings octets)) in
    c.in_ok-json.ensures.text whole ∙ ap compact_text is
