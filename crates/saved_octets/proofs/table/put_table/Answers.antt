use Rattle.std.proofs.Common.{◌<◌, arith, length, subst}
use Rattle.message_store.specs.View.{seen}
use Rattle.std.proofs.lemmas.List.Elements.{All-more}
use Rattle.message_store.specs.Slot.{empty_slot}
use Rattle.saved_octets.specs.Slots.{IsRanged}
use Rattle.saved_octets.proofs.TableLemmas.{end_next, put_next, room_next}
use Rattle.saved_octets.proofs.table.put_table.Goals as goal

pub put_slot-requires-clause-room : goal.put_slot-requires-clause-room
put_slot-requires-clause-room c =
    let slots = c.args.store.now.slots in
    let i = c.loop-index.index in
    let long = room_next slots i c.args.at c.loop-index.end (length c.args.buffer.now) (seen c.slot_view-slot.result) (omega (arith, c.loop-index-test.true, c.count-index-end.ensures.count))
    c.slot_view-slot.ensures.view c.loop-index.invariant.ends (omega (arith, c.requires.room)) in
    omega (arith, long)

pub loop-index-preserved : goal.loop-index-preserved
loop-index-preserved c =
    let slots = c.args.store.now.slots in
    let i = c.loop-index.index in
    let slot = seen c.slot_view-slot.result in
    let below : c.loop-index.index < length slots = omega (arith, c.loop-index-test.true, c.count-index-end.ensures.count) in
    let ends = end_next slots i c.args.at c.loop-index.end slot below c.slot_view-slot.ensures.view c.loop-index.invariant.ends in
    record {
      put = put_next c.args.buffer.now c.loop-index.buffer c.put_slot.new.buffer slots i c.args.at c.loop-index.end slot below
          c.slot_view-slot.ensures.view c.loop-index.invariant.put c.loop-index.invariant.ends (omega (arith, c.requires.room)) c.put_slot.ensures.put;
      ranged = All-more IsRanged slots i empty_slot below c.loop-index.invariant.ranged (subst IsRanged c.slot_view-slot.ensures.view c.slot_view-slot.ensures.ranged);
      ends = omega (arith, ends);
    }
