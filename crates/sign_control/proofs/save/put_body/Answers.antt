use Rattle.std.proofs.Common.{◌≡◌, ◌+◌, ◌*◌, ◌++◌, length, refl, arith, length-append}
use Rattle.message_store.specs.Slot.{used_bytes}
use Rattle.saved_octets.specs.Field.{text_octets}
use Rattle.saved_octets.specs.Slots.{table_octets}
use Rattle.saved_octets.proofs.PlacedLemmas.{placed_more}
use Rattle.saved_octets.proofs.TableLemmas.{length-slots}
use Rattle.sign_control.specs.Saved.{parts_octets}
use Rattle.sign_control.proofs.save.put_body.Goals as goal

pub returns-clause-put : goal.returns-clause-put
returns-clause-put c =
    let p = c.args.parts.now in
    let old = c.args.buffer.now in
    let at = c.args.at in
    let text = c.args.text.now in
    let slots = c.args.store.now.slots in
    let front = parts_octets p ++ text_octets text in
    let first : length front ≡ 55 + length text = omega arith in
    let table : length (table_octets slots) ≡ 2 + (8 * length slots + used_bytes c.args.store.now) = omega (arith, length-slots slots) in
    let second = placed_more old c.put_parts.new.buffer c.put_text.new.buffer (parts_octets p) (text_octets text) at (at + 53) c.put_parts.ensures.put refl (omega (arith, c.requires.room)) c.put_text.ensures.put in
    placed_more old c.put_text.new.buffer c.put_table.new.buffer front (table_octets slots) at (at + 53 + 2 + length text) second (omega (arith, first)) (omega (arith, c.requires.room, table)) c.put_table.ensures.put

pub returns-clause-end : goal.returns-clause-end
returns-clause-end c =
    let p = c.args.parts.now in
    let text = c.args.text.now in
    let slots = c.args.store.now.slots in
    let front = parts_octets p ++ text_octets text in
    let first : length front ≡ 55 + length text = omega arith in
    omega (arith, c.put_table.ensures.end, length-append front (table_octets slots), first)
