use Rattle.std.proofs.Common.{[], ◌∷◌, ◌++◌, refl, sym, ap, ◌∙◌}
use Rattle.octet_text.proofs.TextLemmas
use Rattle.serde_json.specs.Data.{array}
use Rattle.serde_json.specs.View.{items_of}
use Rattle.serde_json.specs.Written.{compact_text}
use Rattle.message_report.specs.Records.{accepted_record, all_pages, warning_records}
use Rattle.message_report.proofs.RecordLemmas
use Rattle.message_report.proofs.record.push_pages_record.Goals as goal

pub returns : goal.returns
returns c =
    let message = c.args.message.now in
    let warnings = message.found.now.warnings.items in
    let pages = array (items_of (all_pages message.telling message.sign.now c.args.checked.now.source.octets)) in
    let all = array (items_of (warning_records warnings)) in
    let four = c.in_ok-all.ensures ∙ ap (λ ws. compact_text (array (items_of (warning_records ws)))) c.deref.ensures.value in
    let written = RecordLemmas.accepted_is message.line _ _ _ _ message.message.now pages all (c.deref-2.ensures.value ∙ c.in_ok-shown.ensures) (c.deref-3.ensures.value ∙ c.in_ok-octets.ensures) (c.deref-4.ensures.value ∙ c.in_ok-pages.ensures) (c.deref-5.ensures.value ∙ four) in
    let same = written ∙ ap (λ octets. compact_text (accepted_record message.line octets pages all)) (sym c.requires.octets) in
    (_, TextLemmas.grown c.args.text.now c.push_accepted.new.text c.push_octet.new.text _ (10 ∷ []) _ c.in_ok-push_accepted.ensures c.in_ok-push_octet.ensures (ap (λ l. l ++ 10 ∷ []) (sym same)), refl)
