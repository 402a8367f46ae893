use Rattle.std.proofs.Common.{◌*◌, ◌<◌, length, sym, ap, arith}
use Rattle.std.proofs.lemmas.Result.{err_from_is_err_and}
use Rattle.std.specs.Vec.{vec_capacity}
use Rattle.sign_script.specs.Fields.{left}
use Rattle.sign_script.proofs.LengthLemmas.{next_message_short}
use Rattle.sign_script.proofs.read.message_octets.Goals as goal

pub returns-in_err-octets_of-in-Some-clause-memory : goal.returns-in_err-octets_of-in-Some-clause-memory
returns-in_err-octets_of-in-Some-clause-memory c = λ is.
    let p = err_from_is_err_and c.from_residual.result c.from_residual.ensures.1 in
    let grows : 2 * vec_capacity c.args.octets.now < length c.text_of.result.now = c.in_err-octets_of-in-Some.ensures.memory (cc) in
    let same = ap length c.text_of.ensures in
    let short = next_message_short (left c.args.rest.now) _ (sym c.in-Some.ensures) in
    omega (arith, grows, same, short)
