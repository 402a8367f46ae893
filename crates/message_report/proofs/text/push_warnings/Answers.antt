use Rattle.std.proofs.Common.{[], ◌∷◌, refl, subst}
use Rattle.octet_text.proofs.TextLemmas
use Rattle.message_report.specs.Notes.{AreWarned}
use Rattle.message_report.proofs.text.push_warnings.Goals as goal

pub returns : goal.returns
returns c =
    let (told, is, are) = c.in_ok-push_each_warning.ensures in
    (told, subst (λ ws. AreWarned ws told) c.deref.ensures.value are, TextLemmas.grown c.args.text.now c.push_each_warning.new.text c.push_octet.new.text told (10 ∷ []) _ is c.in_ok-push_octet.ensures refl)
