use Rattle.std.proofs.Common.{subst, sym}
use Rattle.sign_file.specs.SignFile.{file_of}
use Rattle.latsefur_c.specs.Outcome.{HasNoSign}
use Rattle.latsefur_c.proofs.SignLemmas
use Rattle.latsefur_c.proofs.sign.sign_and_room.Goals as goal

pub returns-in-Ok-new-clause-ok : goal.returns-in-Ok-new-clause-ok
returns-in-Ok-new-clause-ok c =
    SignLemmas.made c.args.octets.now (file_of c.in-Ok.file) c.in-Ok-new.sign c.in-Ok.ensures.read c.in-Ok-new.ensures.faultless c.in-Ok-new.ensures.accepted

pub returns-clause-err : goal.returns-clause-err
returns-clause-err c =
    subst (HasNoSign c.args.octets.now) (sym c.why_unmade.ensures) (SignLemmas.unmade c.args.octets.now (file_of c.in-Ok.file) c.in-Err.fault c.in-Ok.ensures.read c.in-Err.ensures.faulty c.in-Err.ensures.memory)
