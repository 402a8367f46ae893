use Rattle.std.proofs.Common.{◌++◌, codes, decimal, refl}
use Rattle.octet_text.proofs.TextLemmas
use Rattle.message_words.specs.Codes.{code_text}
use Rattle.message_report.specs.Notes.{warned_text}
use Rattle.message_report.proofs.NoteLemmas
use Rattle.message_report.proofs.text.push_warning.Goals as goal

pub returns : goal.returns
unfolding warned_text
returns c =
    let text = c.args.text.now in
    let at = decimal c.args.warning.now.at in
    let code = code_text c.args.warning.now.code in
    let head = codes "warning at octet " in
    let first = TextLemmas.grown text c.push_octets.new.text c.push_number.new.text head at _ c.in_ok-push_octets.ensures c.in_ok-push_number.ensures refl in
    let second = TextLemmas.grown text c.push_number.new.text c.push_octets-2.new.text (head ++ at) (codes ": ") _ first c.in_ok-push_octets-2.ensures refl in
    let (words, one, last) = c.in_ok-push_coded.ensures in
    (words, one, TextLemmas.grown text c.push_octets-2.new.text c.push_coded.new.text (head ++ at ++ codes ": ") (words ++ codes " (" ++ code ++ codes ")\n") _ second last (NoteLemmas.after_all (head ++ at ++ codes ": ") words (codes " (") code (codes ")\n")))
