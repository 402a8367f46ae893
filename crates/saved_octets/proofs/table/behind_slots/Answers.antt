use Rattle.std.proofs.lemmas.Result.{err_from_is_err_and}
use Rattle.message_store.specs.View.{seen}
use Rattle.saved_octets.specs.Slots.{slots_in}
use Rattle.saved_octets.specs.internal.Reading.{rest_of}
use Rattle.saved_octets.proofs.ReadLemmas.{rest_done, rest_ends, rest_next}
use Rattle.saved_octets.proofs.table.behind_slots.Goals as goal

pub returns-in_err-slot : goal.returns-in_err-slot
returns-in_err-slot c =
    let l = c.args.limits in
    let p = err_from_is_err_and c.from_residual.result c.from_residual.ensures.1 in
    rw (p.1, p.2) (rest_ends l l.slots c.loop.counter c.loop.left c.loop.rest.now c.in_err-slot.field-0.0 (rest_of (slots_in l l.slots l.bytes c.args.octets.now)) c.loop-test.true c.in_err-slot.ensures.slot c.loop.invariant)

pub loop-preserved : goal.loop-preserved
loop-preserved c =
    let l = c.args.limits in
    rest_next l l.slots c.loop.counter c.loop.left c.loop.rest.now c.in_ok-slot.after.now (seen c.in_ok-slot.slot) (rest_of (slots_in l l.slots l.bytes c.args.octets.now)) c.loop-test.true c.in_ok-slot.ensures.slot c.loop.invariant

pub returns : goal.returns
returns c =
    let l = c.args.limits in
    rest_done l l.slots c.loop.counter c.loop.left c.loop.rest.now (rest_of (slots_in l l.slots l.bytes c.args.octets.now)) c.loop-test.false c.loop.invariant
