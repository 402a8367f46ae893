use Rattle.std.proofs.Common.{[], ◌∷◌, ◌++◌, decimal, codes, refl, sym, ap, ◌∙◌}
use Rattle.octet_text.proofs.TextLemmas
use Rattle.serde_json.specs.Written.{compact_text}
use Rattle.message_report.specs.Records.{too_long_record}
use Rattle.message_report.proofs.RecordLemmas
use Rattle.message_report.proofs.record.push_too_long_record.Goals as goal

pub returns : goal.returns
returns c =
    let told = compact_text (too_long_record c.args.line) ++ 10 ∷ [] in
    let old = c.args.text.now in
    let begun = TextLemmas.grown old c.push_octets.new.text c.push_number.new.text (codes "{\"line\":") (decimal c.args.line) _ c.in_ok-push_octets.ensures (c.in_ok-push_number.ensures ∙ ap (λ n. c.push_octets.new.text ++ decimal n) c.from.ensures) refl in
    (told, TextLemmas.grown old c.push_number.new.text c.push_octets-2.new.text _ _ told begun c.in_ok-push_octets-2.ensures (sym (RecordLemmas.too_long_written c.args.line)), refl)
