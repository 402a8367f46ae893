use Rattle.std.proofs.Common.{◌≡◌, true, arith}
use Rattle.std.proofs.lemmas.Grind.{common_steps}
use Rattle.sign_file.specs.Nesting.{is_shallow}
use Rattle.sign_file.proofs.SignFileLemmas.{no_text, document}
use Rattle.sign_file.proofs.file.read_sign_file.Goals as goal

pub returns-in_default : goal.returns-in_default
returns-in_default c = record { read = no_text c.args.octets.now c.in_default.ensures.cases.0 }

pub returns-in-Ok-table_from_str : goal.returns-in-Ok-table_from_str
returns-in-Ok-table_from_str c =
    let text = c.in-Ok.ensures.cases in
    let shallow : is_shallow c.args.octets.now ≡ true = grind (arith, common_steps) in
    record { read = rw (document c.args.octets.now _ _ text.0 text.1 shallow c.in-Ok-table_from_str.ensures.ok) c.file_of.ensures }
