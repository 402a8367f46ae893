use Rattle.std.proofs.Common.{◌∙◌, ◌++◌, [], List, ℕ, Some, ap, subst, sym}
use Rattle.message_report.specs.Explained.{ExplainerData}
use Rattle.message_report.specs.Explanation.{Explains}
use Rattle.latsefur_c.specs.Recorded.{record_telling}
use Rattle.latsefur_c.proofs.recorded.record_of.Goals as goal

pub returns-in-Ok-explain-clause-ok : goal.returns-in-Ok-explain-clause-ok
returns-in-Ok-explain-clause-ok c =
    let (told, grown, explains) = c.in-Ok-explain.ensures.told in
    let explainer = c.new-explainer.result in
    let kept = c.in-Ok-explain.field-0 in
    let Is : List ℕ → Type 0 = λ octets. Explains (record_telling c.args.pictures) explainer.sign explainer.most [] 1 c.args.text.now kept octets in
    let whole = grown ∙ ap (λ (front : List ℕ). front ++ told) c.new-record.ensures in
    let same = ap (λ (e : ExplainerData). Some e.sign) (sym c.new-explainer.ensures) in
    (explainer.sign, explainer.most, kept, c.in-Ok.ensures.ok ∙ same, subst Is (sym whole) explains)
