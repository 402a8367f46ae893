use Rattle.std.proofs.Common.{[], ◌∷◌, ◌++◌, sym, ap, ◌∙◌}
use Rattle.octet_text.proofs.TextLemmas
use Rattle.serde_json.specs.Data.{array, string}
use Rattle.serde_json.specs.View.{items_of}
use Rattle.serde_json.specs.Written.{compact_text}
use Rattle.message_report.proofs.RecordLemmas
use Rattle.message_report.proofs.record.push_refused_record.Goals as goal

pub returns : goal.returns
returns c =
    let (fixes, are, five) = c.in_ok-fixes.ensures in
    let written = RecordLemmas.refused_is c.args.line _ _ _ _ _ c.args.message.now c.args.code c.args.at _ (array (items_of fixes)) (c.deref-2.ensures.value ∙ c.in_ok-shown.ensures) (c.deref-3.ensures.value ∙ c.in_ok-octets.ensures) (c.deref-4.ensures.value ∙ c.in_ok-name.ensures ∙ ap (λ l. compact_text (string l)) c.name_of.ensures) (c.deref-5.ensures.value ∙ c.in_ok-words.ensures) (c.deref-6.ensures.value ∙ five) in
    (fixes, _, are, TextLemmas.grown c.args.text.now c.push_refused.new.text c.push_octet.new.text _ (10 ∷ []) _ c.in_ok-push_refused.ensures c.in_ok-push_octet.ensures (ap (λ l. l ++ 10 ∷ []) (sym written)))
