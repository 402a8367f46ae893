use Rattle.sign_file.specs.SignFile.{file_of}
use Rattle.sign_tool.proofs.FileSetupLemmas.{refused, set_up, unmade_by, unread_by}
use Rattle.sign_tool.proofs.start.setup_of_octets.Goals as goal

pub returns-in-Err-clause-err : goal.returns-in-Err-clause-err
returns-in-Err-clause-err c = rw c.unread.ensures (unread_by c.args.octets.now c.in-Err.fault c.in-Err.ensures.read)

pub returns-in-Err-new-clause-err : goal.returns-in-Err-new-clause-err
returns-in-Err-new-clause-err c =
    rw c.refusal.ensures (refused c.args.octets.now (file_of c.in-Ok.file) c.in-Err-new.fault c.in-Ok.ensures.read c.in-Err-new.ensures.faulty c.in-Err-new.ensures.memory)

pub returns-in-Err-new-2-clause-err : goal.returns-in-Err-new-2-clause-err
returns-in-Err-new-2-clause-err c =
    rw c.unmade.ensures
    (unmade_by c.args.octets.now (file_of c.in-Ok.file) c.in-Err-new-2.fault c.in-Ok.ensures.read c.in-Ok-new.ensures.faultless (λ can't. let bad = c.in-Err-new-2.ensures.bad can't in cc) c.in-Err-new-2.ensures.memory)

pub returns-clause-ok : goal.returns-clause-ok
returns-clause-ok c =
    set_up c.args.octets.now (file_of c.in-Ok.file) c.in-Ok-new.sign c.in-Ok-new-2.store c.in-Ok.ensures.read c.in-Ok-new.ensures.faultless c.in-Ok-new-2.ensures.sound c.in-Ok-new.ensures.accepted c.in-Ok-new-2.ensures.made
