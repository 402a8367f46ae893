use Rattle.std.proofs.Common.{◌+◌, refl, sym}
use Rattle.std.proofs.lemmas.List.{take_rest}
use Rattle.font_bdf.proofs.WordLemmas.{parted_some}
use Rattle.font_bdf.proofs.words.parted.Goals as goal

pub returns-in-Some-clause-parts : goal.returns-in-Some-clause-parts
returns-in-Some-clause-parts c =
    let text = c.args.text.now in
    let at = c.in-Some.at in
    rw (take_rest text (at + 1), parted_some text at (sym c.in-Some.ensures)) refl
