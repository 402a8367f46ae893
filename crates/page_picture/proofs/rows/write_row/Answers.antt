use Rattle.std.proofs.Common.{◌*◌, ◌∙◌, ◌++◌, ◌∷◌, [], ap, arith, drop, length}
use Rattle.std.proofs.lemmas.List.{length-append, length-drop, take_more_set}
use Rattle.page_picture.specs.Rows.{octet_marks}
use Rattle.page_picture.proofs.RowLemmas.{marks_count, marks_fewer}
use Rattle.page_picture.proofs.rows.write_row.Goals as goal

pub returns-clause-written : goal.returns-clause-written
returns-clause-written g c mark table =
    let marked = c.mark_row.ensures mark table in
    let octets = c.args.octets.now in
    let old = c.args.text.now in
    let count = 8 * length octets in
    let text = c.mark_row.new.text in
    let both = ap length marked ∙ length-append (octet_marks mark octets count) (drop count old) in
    let size = marks_count mark octets count in
    let rest = length-drop count old in
    take_more_set text c.args.width 10 (omega (arith, both, size, rest, c.requires.room, c.requires.width))
    ∙ ap (λ l. l ++ 10 ∷ []) (marks_fewer mark octets text (drop count old) c.args.width count c.requires.width marked)
