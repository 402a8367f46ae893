use Rattle.std.proofs.Common.{◌≡◌, ap, rules, string_bytes, sym, ◌∙◌}
use Rattle.serde_json.specs.Data.{null, string}
use Rattle.serde_json.specs.View.{view}
use Rattle.serde_json.specs.declared.value.Value.{the_lemmas}
use Rattle.serde_json.specs.declared.value.Value.TheVariants.{Null, String}
use Rattle.message_report.proofs.RecordLemmas
use Rattle.message_report.proofs.fixes.octets_value.Goals as goal

pub returns-in-Ok : goal.returns-in-Ok
returns-in-Ok c =
    let is : view Null ≡ null = search (rules, the_lemmas) in
    is ∙ sym (RecordLemmas.no_hexadecimal c.args.octets.now c.in-Ok.ensures.cases.1)

pub returns-in_ok-encode-in-Err : goal.returns-in_ok-encode-in-Err
returns-in_ok-encode-in-Err c =
    let text = c.in_ok-encode-in-Err.field-0 in
    let is : view (String text) ≡ string (string_bytes text) = search (rules, the_lemmas) in
    is ∙ ap string c.in_ok-encode-in-Err.ensures ∙ sym (RecordLemmas.hexadecimal_is c.args.octets.now c.in-Err.ensures.cases.0)
