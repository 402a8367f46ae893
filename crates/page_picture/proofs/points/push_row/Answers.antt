use Rattle.std.proofs.Common.{◌++◌, sym, ap, ◌∙◌, append-nil}
use Rattle.octet_text.proofs.TextLemmas
use Rattle.page_picture.specs.Dots.{value_at}
use Rattle.page_picture.proofs.DotLemmas
use Rattle.page_picture.proofs.points.push_row.Goals as goal

pub loop-line-init : goal.loop-line-init
loop-line-init c =
    let old = c.args.points.now.items in
    sym (append-nil old) ∙ ap (λ l. old ++ l) (sym (DotLemmas.row_none c.args.side (value_at c.args.colours.now c.args.width) c.args.width c.args.row))

pub loop-line-preserved : goal.loop-line-preserved
loop-line-preserved c =
    TextLemmas.grown _ _ _ _ _ _ c.loop-line.invariant c.in_ok-push_line.ensures (DotLemmas.row_more c.args.side (value_at c.args.colours.now c.args.width) c.args.width c.args.row c.loop-line.line)
