use Rattle.font_bdf.proofs.ListedLemmas.{columns_are}
use Rattle.font_bdf.proofs.listed.columns_in.Goals as goal

pub returns : goal.returns
returns c =
    columns_are c.args.heading.now c.in_ok-number.number c.in_ok-width.width c.in_ok-bitmap.bitmap c.column_named-count.result
    c.in_ok-number.ensures c.in_ok-width.ensures c.in_ok-bitmap.ensures c.column_named-count.ensures.column
