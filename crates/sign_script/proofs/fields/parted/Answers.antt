use Rattle.std.proofs.Common.{sym}
use Rattle.std.proofs.lemmas.List.{take_rest}
use Rattle.sign_script.proofs.PartedLemmas.{parted_left}
use Rattle.sign_script.proofs.fields.parted.Goals as goal

pub returns-in-Some-clause-rest : goal.returns-in-Some-clause-rest
returns-in-Some-clause-rest c =
    let text = c.args.text.now in
    let at = c.in-Some.at in
    rw (take_rest text at) (parted_left text at (sym c.in-Some.ensures))
