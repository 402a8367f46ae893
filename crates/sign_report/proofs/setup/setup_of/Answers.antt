use Rattle.sign_file.specs.SignFile.{file_of}
use Rattle.sign_report.proofs.SetupLemmas.{refused, taken, unmade, unread}
use Rattle.sign_report.proofs.setup.setup_of.Goals as goal

pub returns-in-Err-Bad-clause-taken : goal.returns-in-Err-Bad-clause-taken
returns-in-Err-Bad-clause-taken c = unread c.args.octets.now (rw c.in-Err-Bad.field-0-is at c.in-Err-Bad.ensures.read)

pub returns-in-Ok-new-2-clause-taken : goal.returns-in-Ok-new-2-clause-taken
returns-in-Ok-new-2-clause-taken c =
    taken c.args.octets.now (file_of c.in-Ok.file) c.in-Ok.ensures.read c.in-Ok-new.ensures.faultless c.in-Ok-new-2.ensures.sound

pub returns-in-Err-BadLimit-clause-taken : goal.returns-in-Err-BadLimit-clause-taken
returns-in-Err-BadLimit-clause-taken c =
    unmade c.args.octets.now (file_of c.in-Ok.file) c.in-Ok.ensures.read c.in-Ok-new.ensures.faultless (rw c.in-Err-BadLimit.field-0-is at c.in-Err-BadLimit.ensures.memory)

pub returns-in-Err-clause-taken : goal.returns-in-Err-clause-taken
returns-in-Err-clause-taken c =
    refused c.args.octets.now (file_of c.in-Ok.file) c.in-Err.fault c.in-Ok.ensures.read c.in-Err.ensures.faulty c.in-Err.ensures.memory c.in_ok-unless_memory-in-Err.ensures
