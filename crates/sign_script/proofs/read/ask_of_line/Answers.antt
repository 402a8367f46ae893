use Rattle.std.proofs.Common.{length, ap, arith}
use Rattle.sign_script.specs.Fields.{text_of}
use Rattle.sign_script.proofs.LengthLemmas.{parted_short}
use Rattle.sign_script.proofs.read.ask_of_line.Goals as goal

pub returns-in-Some-clause-memory : goal.returns-in-Some-clause-memory
returns-in-Some-clause-memory c = λ is.
    let grows = c.ask_with.ensures.memory is in
    let same = ap (λ rest. length (text_of rest)) c.in-Some.ensures.rest in
    let short = parted_short c.args.line.now in
    omega (arith, grows, same, short)
