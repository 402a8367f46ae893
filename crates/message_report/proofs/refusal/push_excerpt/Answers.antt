use Rattle.std.proofs.Common.{◌-◌, ◌∷◌, ◌++◌, drop, ap, ◌∙◌, subst, append_assoc}
use Rattle.octet_text.proofs.TextLemmas
use Rattle.message_report.specs.Notes.{caret_text, from_text}
use Rattle.message_report.specs.Words.{IsLineOf}
use Rattle.message_report.proofs.ExplanationLemmas
use Rattle.message_report.proofs.refusal.push_excerpt.Goals as goal

pub returns : goal.returns
returns c =
    let text = c.args.text.now in
    let at = c.args.refusal.now.at in
    let message = c.args.refusal.now.message.now in
    let excerpt = c.in_ok-excerpt.excerpt in
    let first = c.in_ok-excerpt.ensures in
    let (shown, of, second) = c.in_ok-push_line_of.ensures in
    let begun = c.in_ok-push_first.ensures ∙ ap (λ n. text ++ from_text n) first in
    let rest = c.from-rest.ensures ∙ ap (λ n. drop n message) first in
    let caret = caret_text excerpt.before in
    let last = ExplanationLemmas.behind_line c.push_first.new.text c.push_line_of.new.text c.push_caret.new.text shown caret second c.in_ok-push_caret.ensures in
    let all = TextLemmas.grown text c.push_first.new.text c.push_caret.new.text (from_text (at - 60)) (shown ++ 10 ∷ caret) (from_text (at - 60) ++ shown ++ 10 ∷ caret) begun
    (last ∙ append_assoc c.push_first.new.text shown (10 ∷ caret)) (append_assoc (from_text (at - 60)) shown (10 ∷ caret)) in
    (shown, excerpt.before, subst (λ l. IsLineOf l shown) rest of, all)
