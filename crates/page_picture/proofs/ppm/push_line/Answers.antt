use Rattle.std.proofs.Common.{◌++◌, sym, ap, ◌∙◌, append-nil}
use Rattle.std.specs.List.{flat_map}
use Rattle.page_picture.specs.Dots.{dot_line}
use Rattle.octet_text.proofs.TextLemmas
use Rattle.page_picture.specs.Colours.{colour_at}
use Rattle.page_picture.specs.Palette.{shares}
use Rattle.page_picture.proofs.DotLemmas
use Rattle.page_picture.proofs.ppm.push_line.Goals as goal

pub loop-column-init : goal.loop-column-init
loop-column-init c =
    let old = c.args.text.now.items in
    sym (append-nil old) ∙ ap (λ l. old ++ l) (DotLemmas.painted_none (shares c.args.classic) _ (DotLemmas.line_none c.args.side (colour_at c.args.colours.now) c.args.row c.args.line))

pub loop-column-preserved : goal.loop-column-preserved
loop-column-preserved c =
    let next = c.in_ok-push_dot_line.ensures ∙ ap (λ n. c.loop-column.text.items ++ flat_map (shares c.args.classic) (dot_line c.args.side n c.args.line c.args.side)) c.colour.ensures.colour in
    TextLemmas.grown _ _ _ _ _ _ c.loop-column.invariant next (DotLemmas.painted_more (shares c.args.classic) _ _ _ (DotLemmas.line_more c.args.side (colour_at c.args.colours.now) c.args.row c.args.line c.loop-column.column))
