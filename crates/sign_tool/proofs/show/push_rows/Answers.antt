use Rattle.std.proofs.Common.{◌≡◌, ◌+◌, ◌*◌, ◌∙◌, length, take, ap, sym, arith}
use Rattle.page_plane.specs.Plane.{is_lit}
use Rattle.sign_tool.specs.Frame.{frame_rows}
use Rattle.sign_tool.specs.internal.Ready.{ReadyData}
use Rattle.sign_tool.proofs.WrittenLemmas.{grown}
use Rattle.page_picture.proofs.PartLemmas.{lent_length}
use Rattle.sign_tool.proofs.show.push_rows.Goals as goal

pub returns-clause-text : goal.returns-clause-text
returns-clause-text c =
    let d = c.deref_mut.ensures in
    let a = c.text.inside in
    let plane = c.args.plane.now in
    let room = c.in_ok-make_room.ensures in
    let lent = c.deref_mut.result.now in
    let new = c.write_rows.new.text in
    let all : c.make_room.new.octets.len ≡ length lent = sym d.len in
    let value = ap length d.value in
    let begun = sym (ap (λ (r : ReadyData). r.begun) c.text.view_is) in
    let size : (c.from.result + 1) * c.from-2.result ≡ (plane.width + 1) * plane.height =
    ap (λ w. (w + 1) * c.from-2.result) (c.from.ensures ∙ c.width.ensures.value) ∙ ap (λ h. (plane.width + 1) * h) (c.from-2.ensures ∙ c.height.ensures.value) in
    let there = c.text.invariant.1 in
    let rest = lent_length a.len lent (omega (arith, value, room.room)) in
    let long = c.write_rows.ensures.len in
    grown a.octets.items c.make_room.new.octets.items lent new _ _ c.args.text.now.begun (frame_rows (is_lit plane) plane.width plane.height) a.end a.len ((c.from.result + 1) * c.from-2.result) c.make_room.new.octets.len
    c.text.invariant.0 there room.kept d.value all (omega (arith, value, room.room)) (omega (arith, value, room.room, rest, long)) begun
    (ap (λ n. take n new) size ∙ c.write_rows.ensures.written)
