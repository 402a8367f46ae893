use Rattle.std.proofs.Common.{◌+◌, ◌≤◌, length, ap, sym, arith}
use Rattle.sign_tool.specs.internal.Ready.{ReadyData}
use Rattle.sign_tool.proofs.WrittenLemmas.{few_grown}
use Rattle.page_picture.proofs.PartLemmas.{lent_length}
use Rattle.sign_tool.proofs.ready.push_far.Goals as goal

pub returns-clause-text : goal.returns-clause-text
returns-clause-text g c =
    let a = c.text.inside in
    let lent = c.deref_mut.result.now in
    let all = c.deref_mut.ensures.len in
    let room : a.len + g.row.N ≤ length lent = omega (arith, c.in_ok-make_room.ensures.room, ap length c.deref_mut.ensures.value) in
    few_grown a.octets.items c.make_room.new.octets.items lent c.put_few.new.octets _ _ c.args.text.now.begun c.args.octets a.end a.len c.args.count g.row.N c.make_room.new.octets.len
    c.text.invariant.0 c.text.invariant.1 c.in_ok-make_room.ensures.kept c.deref_mut.ensures.value (sym all) room (omega (arith, room, lent_length a.len lent (omega (arith, room)), c.put_few.ensures.len)) c.requires.count
    (sym (ap (λ (r : ReadyData). r.begun) c.text.view_is)) c.put_few.ensures.written
