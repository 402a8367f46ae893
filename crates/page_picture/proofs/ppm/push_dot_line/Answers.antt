use Rattle.std.proofs.Common.{◌++◌, sym, ap, ◌∙◌, append-nil}
use Rattle.octet_text.proofs.TextLemmas
use Rattle.page_picture.specs.Palette.{shares}
use Rattle.page_picture.proofs.DotLemmas
use Rattle.page_picture.proofs.ppm.push_dot_line.Goals as goal

pub loop-point-init : goal.loop-point-init
loop-point-init c =
    let old = c.args.text.now.items in
    sym (append-nil old) ∙ ap (λ l. old ++ l) (DotLemmas.painted_none (shares c.args.classic) _ (DotLemmas.dot_none c.args.side c.args.colour c.args.line))

pub loop-point-preserved : goal.loop-point-preserved
loop-point-preserved c =
    let next = c.in_ok-push_octets.ensures.text ∙ ap (λ l. c.loop-point.text.items ++ l) (c.shares.ensures ∙ ap (shares c.args.classic) c.point_of.ensures.number) in
    TextLemmas.grown _ _ _ _ _ _ c.loop-point.invariant next (DotLemmas.painted_one (shares c.args.classic) _ _ _ (DotLemmas.dot_more c.args.side c.args.colour c.args.line c.loop-point.point))
