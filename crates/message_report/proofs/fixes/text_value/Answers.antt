use Rattle.std.proofs.Common.{◌≡◌, IfOk, ap, rules, sym, ◌∙◌, subst}
use Rattle.serde_json.specs.Data.{null, string}
use Rattle.serde_json.specs.View.{view}
use Rattle.serde_json.specs.declared.value.Value.{the_lemmas}
use Rattle.serde_json.specs.declared.value.Value.TheVariants.{Null}
use Rattle.message_report.proofs.RecordLemmas
use Rattle.message_report.proofs.fixes.text_value.Goals as goal

pub returns-in-Ok : goal.returns-in-Ok
returns-in-Ok c =
    let same = ap string c.in-Ok.ensures.cases.0 ∙ sym (RecordLemmas.text_is c.args.octets.now c.in-Ok.ensures.cases.1) in
    subst (λ d. IfOk c.try_from_str.result (λ v. view v ≡ d)) same c.try_from_str.ensures

pub returns-in-Err : goal.returns-in-Err
returns-in-Err c =
    let is : view Null ≡ null = search (rules, the_lemmas) in
    is ∙ sym (RecordLemmas.no_text c.args.octets.now c.in-Err.ensures.cases.0)
