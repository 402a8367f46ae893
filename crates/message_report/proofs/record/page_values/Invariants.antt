use Rattle.std.proofs.Common.{◌≡◌, map, take}
use Rattle.serde_json.specs.View.{view}
use Rattle.multi_meaning.specs.Meaning.{meanings}
use Rattle.multi_meaning.specs.Times.{page_times}
use Rattle.message_report.specs.Records.{pages_from}
use Rattle.message_report.proofs.record.page_values.Given as goal

abbrev pub invariant-loop-page : goal.invariant-loop-page
invariant-loop-page l =
    let octets = l.fn.checked.source.octets in
    let sign = l.fn.message.sign.now in
    (map view l.list.items ≡ pages_from l.fn.message.telling sign octets 0 (take l.page (page_times sign (meanings octets))))
    × (l.checked.sign ≡ l.fn.checked.sign) × (l.checked.source.octets ≡ octets)
