use Rattle.std.proofs.Common.{◌++◌, codes, refl}
use Rattle.octet_text.proofs.TextLemmas
use Rattle.message_words.specs.Codes.{code_text}
use Rattle.message_report.proofs.text.push_coded.Goals as goal

pub returns : goal.returns
returns c =
    let text = c.args.text.now in
    let code = code_text c.args.warning.now.code in
    let (words, one, first) = c.in_ok-push_in_line.ensures in
    let second = TextLemmas.grown text c.push_in_line.new.text c.push_octets.new.text words (codes " (") _ first c.in_ok-push_octets.ensures refl in
    let third = TextLemmas.grown text c.push_octets.new.text c.push_code.new.text (words ++ codes " (") code _ second c.in_ok-push_code.ensures refl in
    (words, one, TextLemmas.grown text c.push_code.new.text c.push_octets-2.new.text (words ++ codes " (" ++ code) (codes ")\n") _ third c.in_ok-push_octets-2.ensures refl)
