use Rattle.std.proofs.Common.{◌++◌, codes, refl, ap, ◌∙◌}
use Rattle.octet_text.proofs.TextLemmas
use Rattle.message_words.specs.Codes.{code_text}
use Rattle.message_report.specs.Explanation.{warning_text}
use Rattle.message_report.specs.Phrases.{place_text}
use Rattle.message_report.proofs.NoteLemmas
use Rattle.message_report.proofs.lines.push_warning_line.Goals as goal

pub returns : goal.returns
unfolding warning_text
returns c =
    let text = c.args.text.now in
    let at = c.min.result in
    let code = code_text c.args.warning.now.code in
    let place = place_text c.args.name.now c.args.line at in
    let told = place ++ codes "warning: " in
    let first = TextLemmas.grown text c.push_place.new.text c.push_octets.new.text place (codes "warning: ") told c.in_ok-push_place.ensures c.in_ok-push_octets.ensures refl in
    let (words, one, last) = c.in_ok-push_coded.ensures in
    (words, one, TextLemmas.grown text c.push_octets.new.text c.push_coded.new.text told (words ++ codes " (" ++ code ++ codes ")\n") _ first last (NoteLemmas.after_all told words (codes " (") code (codes ")\n")) ∙ ap (λ n. text ++ warning_text c.args.name.now c.args.line n code words) c.min.ensures)
