use Rattle.std.proofs.Common.{[], ◌∷◌, ◌++◌, refl, sym, ap, ◌∙◌, subst}
use Rattle.octet_text.proofs.TextLemmas
use Rattle.message_report.specs.Words.{IsOneLine}
use Rattle.message_report.proofs.text.push_line_of.Goals as goal

pub push_set_off-requires : goal.push_set_off-requires
push_set_off-requires c =
    let (line, one, is) = c.in_ok-push_in_line.ensures in
    record { line = subst IsOneLine (sym (c.octets.ensures ∙ is ∙ ap (λ l. l ++ line) c.new-line.ensures)) one }

pub returns : goal.returns
returns c =
    let (words, of, is) = c.in_ok-push_set_off.ensures in
    (words, of, TextLemmas.grown c.args.text.now c.push_set_off.new.text c.push_octet.new.text words (10 ∷ []) _ is c.in_ok-push_octet.ensures refl)
