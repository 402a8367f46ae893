use Rattle.std.proofs.Common.{◌≡◌, ◌+◌, ◌-◌, ◌*◌, ◌∙◌, ◌++◌, ap, arith, drop, get_or, length, refl}
use Rattle.std.proofs.lemmas.List.{drop-drop, length-append, length-drop}
use Rattle.page_picture.specs.Rows.{octet_marks}
use Rattle.page_picture.proofs.PartLemmas.{put_more}
use Rattle.page_picture.proofs.RowLemmas.{marks_count, marks_more}
use Rattle.page_picture.proofs.rows.mark_octets.Goals as goal

pub loop-place-preserved : goal.loop-place-preserved
loop-place-preserved c mark table =
    let octets = c.args.octets.now in
    let old = c.args.text.now in
    let l = c.loop-place in
    let a = 8 * l.place in
    let so_far = l.invariant mark table in
    let piece = c.eight_marks.result in
    let is = c.eight_marks.ensures mark table in
    let rest = length-drop a old in
    let front = marks_count mark octets a in
    let both = ap length so_far ∙ length-append (octet_marks mark octets a) (drop a old) in
    let size : length piece ≡ 8 = ap length is in
    put_more (octet_marks mark octets a) piece l.text c.put_eight.new.text (drop a old) a (length l.text - a) 8 so_far front size
    (omega (arith, both, front, rest, c.requires, c.loop-place-test.true)) (omega (arith, both, front, rest)) c.put_eight.ensures
    ∙ ap (λ m. m ++ drop 8 (drop a old)) (marks_more mark octets piece l.place (get_or octets l.place 0) refl is)
    ∙ ap (λ m. octet_marks mark octets (8 * (l.place + 1)) ++ m) (drop-drop 8 a old ∙ ap (λ n. drop n old) (let next : a + 8 ≡ 8 * (l.place + 1) = omega arith in next))
