use Rattle.std.proofs.Common.{[], ◌∷◌, ◌++◌, codes, refl, append_assoc}
use Rattle.octet_text.proofs.TextLemmas
use Rattle.message_report.specs.Phrases.{error_text, place_text}
use Rattle.message_report.proofs.lines.push_error_line.Goals as goal

pub returns : goal.returns
returns c =
    let text = c.args.text.now in
    let place = place_text c.args.name.now c.args.line c.args.at in
    let named = place ++ codes "error: " in
    let error = named ++ error_text c.args.code in
    let told = error ++ codes ": " in
    let first = TextLemmas.grown text c.push_place.new.text c.push_octets.new.text place (codes "error: ") named c.in_ok-push_place.ensures c.in_ok-push_octets.ensures refl in
    let second = TextLemmas.grown text c.push_octets.new.text c.push_error.new.text named (error_text c.args.code) error first c.in_ok-push_error.ensures refl in
    let third = TextLemmas.grown text c.push_error.new.text c.push_octets-2.new.text error (codes ": ") told second c.in_ok-push_octets-2.ensures refl in
    let (words, one, last) = c.in_ok-push_line.ensures in
    (words, one, TextLemmas.grown text c.push_octets-2.new.text c.push_line.new.text told (words ++ 10 ∷ []) _ third last (append_assoc told words (10 ∷ [])))
