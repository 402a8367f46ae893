use Rattle.std.proofs.Common.{◌≡◌, ◌++◌, ◌+◌, ◌*◌, get_or, sym, ap, ◌∙◌, append-nil}
use Rattle.octet_text.proofs.TextLemmas
use Rattle.page_picture.specs.Dots.{dot_line, value_at}
use Rattle.page_picture.proofs.DotLemmas
use Rattle.page_picture.proofs.points.push_line.Goals as goal

pub loop-column-init : goal.loop-column-init
loop-column-init c =
    let old = c.args.points.now.items in
    sym (append-nil old) ∙ ap (λ l. old ++ l) (sym (DotLemmas.line_none c.args.side (value_at c.args.colours.now c.args.width) c.args.row c.args.line))

pub loop-column-preserved : goal.loop-column-preserved
loop-column-preserved c =
    let colours = c.args.colours.now in
    let place : c.from.result * c.from-2.result + c.from-in-loop-column.result ≡ c.args.width * c.args.row + c.loop-column.column =
    ap (λ w. w * c.from-2.result + c.from-in-loop-column.result) c.from.ensures ∙ ap (λ r. c.args.width * r + c.from-in-loop-column.result) c.from-2.ensures ∙ ap (λ n. c.args.width * c.args.row + n) c.from-in-loop-column.ensures in
    let next = c.in_ok-push_dot_line.ensures ∙ ap (λ n. c.loop-column.points.items ++ dot_line c.args.side (get_or colours n 0) c.args.line c.args.side) place in
    TextLemmas.grown _ _ _ _ _ _ c.loop-column.invariant next (DotLemmas.line_more c.args.side (value_at colours c.args.width) c.args.row c.args.line c.loop-column.column)
