use Rattle.std.proofs.Common.{[], get_or, ap, arith, ◌∙◌}
use Rattle.std.proofs.lemmas.List.FromFn.{get_or-map-range_with_len}
use Rattle.page_picture.specs.internal.Marks.{eight_marks}
use Rattle.page_picture.proofs.rows.eight_marks.Goals as goal

pub returns : goal.returns
returns c mark table =
    ap (λ l. get_or l c.from.result []) table
    ∙ get_or-map-range_with_len (eight_marks mark) 0 256 c.from.result c.from.result [] (omega (arith, c.from.ensures)) (omega arith)
    ∙ ap (eight_marks mark) c.from.ensures
