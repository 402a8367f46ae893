use Rattle.std.proofs.Common.{◌≡◌, ◌+◌, ◌∙◌, ◌++◌, ◌∷◌, [], length, map, ap, sym, arith, append_assoc}
use Rattle.std.specs.List.{range_with_len}
use Rattle.page_picture.specs.Colours.{colour_at}
use Rattle.page_picture.proofs.PartLemmas.{lent_length, written_in_room}
use Rattle.message_report.specs.Pictures.{mark, mark_at}
use Rattle.message_report.proofs.MarkLemmas
use Rattle.message_report.proofs.marks.push_row.Goals as goal

pub returns : goal.returns
returns c =
    let d = c.deref_mut.ensures in
    let a = c.text.inside in
    let old = c.args.text.now in
    let colours = c.row-colours.result.now in
    let row = c.row-colours.ensures in
    let room = c.in_ok-make_room.ensures in
    let lent = c.deref_mut.result.now in
    let written = c.write_marks.ensures in
    let all : c.make_room.new.octets.len ≡ length lent = sym d.len in
    let value = ap length d.value in
    let at = colour_at c.args.colours.now in
    let marks : map mark colours ≡ map (λ column. mark_at c.args.colours.now column c.args.row) (range_with_len 0 c.args.colours.now.width) =
    MarkLemmas.marks_by_place (λ column. at column c.args.row) 0 colours
    (λ k below. let same : 0 + k ≡ k = omega arith in row.colours k (omega (arith, row.count)) ∙ ap (λ n. at n c.args.row) (sym same))
    ∙ ap (λ n. map (λ column. mark_at c.args.colours.now column c.args.row) (range_with_len 0 n)) row.count in
    let rest = lent_length a.len lent (omega (arith, value, room.room)) in
    let first =
    written_in_room a.octets.items c.make_room.new.octets.items lent c.write_marks.new.line _ _ (map mark colours) a.len (length colours) c.make_room.new.octets.len
    c.text.invariant room.kept d.value all (omega (arith, value, room.room)) (omega (arith, value, room.room, rest, written.len)) written.written
    ∙ ap (λ l. l ++ map mark colours) c.text.view_is in
    c.in_ok-push_octet.ensures ∙ ap (λ l. l ++ 10 ∷ []) first ∙ append_assoc old (map mark colours) (10 ∷ []) ∙ ap (λ l. old ++ (l ++ 10 ∷ [])) marks
