use Rattle.std.proofs.Common.{◌≡◌, ◌∙◌, ◌*◌, ◌+◌, ◌-◌, length, length-drop, take, drop, ap, sym, arith}
use Rattle.std.proofs.lemmas.List.{length-take-le, take_all}
use Rattle.hex.specs.Hex.{encode_lower}
use Rattle.sign_tool.specs.internal.Ready.{ReadyData}
use Rattle.sign_tool.proofs.WrittenLemmas.{grown}
use Rattle.sign_tool.proofs.replies.push_hex.Goals as goal

pub returns-clause-text : goal.returns-clause-text
returns-clause-text c =
    let d = c.deref_mut.ensures in
    let a = c.text.inside in
    let room = c.in_ok-make_room.ensures in
    let lent = c.deref_mut.result.now in
    let end = c.saturating_add-end.result in
    let digits = encode_lower c.args.octets.now in
    let count = 2 * length c.args.octets.now in
    let all : c.make_room.new.octets.len ≡ length lent = sym d.len in
    let value = ap length d.value in
    let written = c.write_hex.ensures in
    let is : end ≡ a.len + count = omega (arith, c.saturating_add-end.ensures, c.deref_mut.type_inv.1, room.room, value) in
    let part : length (take (end - a.len) (drop a.len lent)) ≡ count =
    omega (arith, is, length-take-le (end - a.len) (drop a.len lent) (omega (arith, length-drop a.len lent, room.room, value))) in
    let long : length c.write_hex.new.digits ≡ count = omega (arith, c.write_hex.auto.digits, part) in
    let begun = sym (ap (λ (r : ReadyData). r.begun) c.text.view_is) in
    rw is
    (
    grown a.octets.items c.make_room.new.octets.items lent c.write_hex.new.digits _ _ c.args.text.now.begun digits a.end a.len count c.make_room.new.octets.len
    c.text.invariant.0 c.text.invariant.1 room.kept d.value all (omega (arith, value, room.room, is)) (omega (arith, long)) begun
    (ap (take count) written ∙ take_all count digits (omega (arith, long, ap length written)))
    )
