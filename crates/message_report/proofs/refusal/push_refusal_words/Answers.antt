use Rattle.std.proofs.Common.{◌-◌, [], ◌∷◌, ◌++◌, codes, refl, sym, ap, ◌∙◌}
use Rattle.octet_text.proofs.TextLemmas
use Rattle.message_report.specs.Phrases.{line_head, proposal_line, refused_text}
use Rattle.message_report.specs.Notes.{caret_text, from_text}
use Rattle.message_report.proofs.ExplanationLemmas
use Rattle.message_report.proofs.NoteLemmas
use Rattle.message_report.proofs.refusal.push_refusal_words.Goals as goal

pub returns : goal.returns
returns c =
    let text = c.args.text.now in
    let refusal = c.args.refusal.now in
    let told = line_head c.args.line ++ refused_text refusal.code refusal.at in
    let first = TextLemmas.grown text c.push_line_head.new.text c.push_refused.new.text (line_head c.args.line) (refused_text refusal.code refusal.at) told c.in_ok-push_line_head.ensures c.in_ok-push_refused.ensures refl in
    let (shown, before, of, second) = c.in_ok-push_excerpt.ensures in
    let (reason, free, third) = c.in_ok-push_reason.ensures in
    let from = from_text (refusal.at - 60) in
    let caret = 10 ∷ caret_text before in
    let proposal = proposal_line [] (codes "try: ") c.args.outcome.now in
    let all = ExplanationLemmas.three_more text c.push_refused.new.text c.push_excerpt.new.text c.push_reason.new.text c.push_proposal.new.text told (from ++ shown ++ caret) reason proposal first second third c.in_ok-push_proposal.ensures in
    let same = ap (λ l. l ++ reason ++ 10 ∷ proposal) (sym (NoteLemmas.as_one told from shown caret)) in
    (_, TextLemmas.grown text c.push_proposal.new.text c.push_octet.new.text _ (10 ∷ []) _ (all ∙ ap (λ l. text ++ l) same) c.in_ok-push_octet.ensures refl, (shown, reason, before, of, free, refl))
