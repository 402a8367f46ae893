use Rattle.std.proofs.Common.{◌∙◌}
use Rattle.page_plane.specs.Octets.{bit_place, is_bit_set}
use Rattle.page_plane.specs.Plane.{is_lit}
use Rattle.page_picture.specs.Rows.{octet_of}
use Rattle.page_picture.specs.internal.Marks.{WritesRows}
use Rattle.page_picture.proofs.RowLemmas.{marked_same}
use Rattle.page_picture.proofs.rows.write_rows.Goals as goal

pub returns-clause-written : goal.returns-clause-written
returns-clause-written c =
    let plane = c.args.plane.now in
    let mark = octet_of c.args.mark in
    let wide = c.from.ensures ∙ c.width.ensures.value in
    let done : WritesRows mark c.octets.result.now plane.width plane.height c.args.text.now c.write_all.new.text =
    rw (wide, c.height.ensures.value) at (c.write_all.ensures mark c.table.ensures) in
    done.written ∙ marked_same mark (λ column row. is_bit_set c.octets.result.now (bit_place plane.width column row)) (is_lit plane) plane.width plane.height c.octets.ensures.pixels

pub returns-clause-behind : goal.returns-clause-behind
returns-clause-behind c =
    let plane = c.args.plane.now in
    let mark = octet_of c.args.mark in
    let wide = c.from.ensures ∙ c.width.ensures.value in
    let done : WritesRows mark c.octets.result.now plane.width plane.height c.args.text.now c.write_all.new.text =
    rw (wide, c.height.ensures.value) at (c.write_all.ensures mark c.table.ensures) in
    done.behind
