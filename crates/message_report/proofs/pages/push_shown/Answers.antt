use Rattle.std.proofs.Common.{[], ◌∷◌, ◌++◌, refl, sym, ap, ◌∙◌, subst}
use Rattle.message_report.specs.Phrases.{accepted_text, line_head}
use Rattle.message_report.specs.Notes.{is_still, legend_text}
use Rattle.message_report.specs.Words.{IsLineOf}
use Rattle.multi_layout.specs.Pages.{page_count}
use Rattle.octet_text.proofs.TextLemmas
use Rattle.message_report.proofs.ExplanationLemmas
use Rattle.message_report.proofs.NoteLemmas
use Rattle.message_report.proofs.pages.push_shown.Goals as goal

pub returns : goal.returns
returns c =
    let string = c.args.checked.now in
    let message = c.args.message.now in
    let text = c.args.text.now in
    let head = line_head message.line in
    let pages = ExplanationLemmas.pages_are string.sign string.source.octets c.pages.result c.pages.ensures c.requires.short in
    let first = c.in_ok-push_accepted.ensures ∙ ap (λ n. c.push_line_head.new.text ++ accepted_text n) pages in
    let (front, of, between) = c.in_ok-push_message.ensures in
    let (shown, second, has) = c.in_ok-push_pages.ensures in
    let (told, are, third) = c.in_ok-push_notes.ensures in
    let all = ExplanationLemmas.three_more text c.push_line_head.new.text c.push_accepted.new.text c.push_message.new.text c.push_pages.new.text head (accepted_text (page_count string)) front shown c.in_ok-push_line_head.ensures first between second in
    let before = head ++ accepted_text (page_count string) ++ front ++ 10 ∷ shown in
    let still = c.is_still-is_still.ensures ∙ ap (λ s. is_still s string.source.octets (page_count string)) c.requires.sign in
    let flashes = message.found.now.flashes in
    let legend = legend_text c.args.picture message.sign.now.classic (is_still message.sign.now string.source.octets (page_count string)) flashes message.telling.phase in
    let notes = third ∙ ap (λ b. c.push_pages.new.text ++ (legend_text c.args.picture message.sign.now.classic b flashes message.telling.phase ++ told ++ 10 ∷ [])) still in
    let shows = subst (λ l. IsLineOf l front) (sym c.requires.octets) of in
    (_, TextLemmas.grown text c.push_pages.new.text c.push_notes.new.text before (legend ++ told ++ 10 ∷ []) _ all notes (NoteLemmas.as_one before legend told (10 ∷ [])), (front, shown, told, flashes, shows, has, are, refl))
