use Rattle.std.proofs.Common.{[], ◌∷◌, ◌++◌, sym, ap, ◌∙◌, append_assoc, length}
use Rattle.std.proofs.lemmas.Bool.{eqb-false}
use Rattle.message_report.specs.Phrases.{accepted_text, line_head}
use Rattle.message_report.proofs.ExplanationLemmas
use Rattle.message_report.proofs.pages.push_warned.Goals as goal

pub returns : goal.returns
returns c =
    let text = c.args.text.now in
    let head = line_head c.args.message.now.line in
    let (front, of, between) = c.in_ok-push_message.ensures in
    let (told, are, last) = c.in_ok-push_warnings.ensures in
    let all = ExplanationLemmas.three_more text c.push_line_head.new.text c.push_accepted.new.text c.push_message.new.text c.push_warnings.new.text head (accepted_text c.args.pages) front (told ++ 10 ∷ []) c.in_ok-push_line_head.ensures c.in_ok-push_accepted.ensures between last in
    (_, all ∙ ap (λ l. text ++ l) (sym (append_assoc (head ++ accepted_text c.args.pages ++ front) (10 ∷ told) (10 ∷ []))), ExplanationLemmas.passes_over c.args.message.now.message.now c.args.message.now.line c.args.pages c.args.message.now.found.now.warnings.items front told (λ none. eqb-false _ 0 (sym c.is_empty.ensures ∙ c.if-is_empty.false) (ap length c.deref-warnings.ensures.value ∙ none)) of are)
