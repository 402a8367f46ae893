use Rattle.std.proofs.Common.{◌≡◌, ◌∙◌, ◌++◌, length, take, ap, sym, arith}
use Rattle.std.proofs.lemmas.List.{take_all}
use Rattle.page_picture.proofs.PartLemmas.{written_in_room}
use Rattle.message_report.proofs.explanation.push_octets.Goals as goal

pub returns : goal.returns
returns c =
    let d = c.deref_mut.ensures in
    let a = c.text.inside in
    let room = c.in_ok-make_room.ensures in
    let lent = c.deref_mut.result.now in
    let octets = c.args.octets.now in
    let all : c.make_room.new.octets.len ≡ length lent = sym d.len in
    let value = ap length d.value in
    let same = c.copy_from_slice.ensures.after in
    written_in_room a.octets.items c.make_room.new.octets.items lent c.copy_from_slice.new.self _ _ octets a.len (length octets) c.make_room.new.octets.len
    c.text.invariant room.kept d.value all (omega (arith, value, room.room)) (let long = ap length same in omega (arith, long))
    (ap (take (length octets)) same ∙ take_all (length octets) octets (omega arith))
    ∙ ap (λ l. l ++ octets) c.text.view_is
