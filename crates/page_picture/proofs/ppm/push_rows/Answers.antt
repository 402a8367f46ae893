use Rattle.std.proofs.Common.{◌++◌, sym, ap, ◌∙◌, append-nil}
use Rattle.octet_text.proofs.TextLemmas
use Rattle.page_picture.specs.Colours.{colour_at}
use Rattle.page_picture.specs.Palette.{shares}
use Rattle.page_picture.proofs.DotLemmas
use Rattle.page_picture.proofs.ppm.push_rows.Goals as goal

pub loop-row-init : goal.loop-row-init
loop-row-init c =
    let old = c.args.text.now.items in
    sym (append-nil old) ∙ ap (λ l. old ++ l) (DotLemmas.painted_none (shares c.args.classic) _ (DotLemmas.rows_none c.args.side (colour_at c.args.colours.now) c.args.colours.now.width))

pub loop-row-preserved : goal.loop-row-preserved
loop-row-preserved c =
    TextLemmas.grown _ _ _ _ _ _ c.loop-row.invariant c.in_ok-push_row.ensures (DotLemmas.painted_more (shares c.args.classic) _ _ _ (DotLemmas.rows_more c.args.side (colour_at c.args.colours.now) c.args.colours.now.width c.loop-row.row))
