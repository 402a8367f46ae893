use Rattle.std.proofs.Common.{◌++◌, sym, ap, ◌∙◌, append-nil}
use Rattle.octet_text.proofs.TextLemmas
use Rattle.page_picture.specs.Colours.{colour_at}
use Rattle.page_picture.specs.Palette.{shares}
use Rattle.page_picture.proofs.DotLemmas
use Rattle.page_picture.proofs.ppm.push_row.Goals as goal

pub loop-line-init : goal.loop-line-init
loop-line-init c =
    let old = c.args.text.now.items in
    sym (append-nil old) ∙ ap (λ l. old ++ l) (DotLemmas.painted_none (shares c.args.classic) _ (DotLemmas.row_none c.args.side (colour_at c.args.colours.now) c.args.colours.now.width c.args.row))

pub loop-line-preserved : goal.loop-line-preserved
loop-line-preserved c =
    TextLemmas.grown _ _ _ _ _ _ c.loop-line.invariant c.in_ok-push_line.ensures (DotLemmas.painted_more (shares c.args.classic) _ _ _ (DotLemmas.row_more c.args.side (colour_at c.args.colours.now) c.args.colours.now.width c.args.row c.loop-line.line))
