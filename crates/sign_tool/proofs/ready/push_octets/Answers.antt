use Rattle.std.proofs.Common.{◌≡◌, ◌∙◌, length, take, ap, sym, arith}
use Rattle.std.proofs.lemmas.List.{take_all}
use Rattle.sign_tool.specs.internal.Ready.{ReadyData}
use Rattle.sign_tool.proofs.WrittenLemmas.{grown}
use Rattle.sign_tool.proofs.ready.push_octets.Goals as goal

pub returns-clause-text : goal.returns-clause-text
returns-clause-text c =
    let d = c.deref_mut.ensures in
    let a = c.text.inside in
    let room = c.in_ok-make_room.ensures in
    let lent = c.deref_mut.result.now in
    let octets = c.args.octets.now in
    let all : c.make_room.new.octets.len ≡ length lent = sym d.len in
    let value = ap length d.value in
    let same = c.copy_from_slice.ensures.after in
    let begun = sym (ap (λ (r : ReadyData). r.begun) c.text.view_is) in
    grown a.octets.items c.make_room.new.octets.items lent c.copy_from_slice.new.self _ _ c.args.text.now.begun octets a.end a.len (length octets) c.make_room.new.octets.len
    c.text.invariant.0 c.text.invariant.1 room.kept d.value all (omega (arith, value, room.room)) (let long = ap length same in omega (arith, long)) begun
    (ap (take (length octets)) same ∙ take_all (length octets) octets (omega arith))
