use Rattle.std.proofs.Common.{◌++◌, sym, ap, ◌∙◌, append-nil}
use Rattle.octet_text.proofs.TextLemmas
use Rattle.page_picture.specs.Colours.{colour_at}
use Rattle.message_report.proofs.BlockLemmas
use Rattle.message_report.proofs.blocks.push_lines.Goals as goal

pub loop-line-init : goal.loop-line-init
loop-line-init c =
    let old = c.args.text.now in
    let colours = c.args.colours.now in
    sym (append-nil old) ∙ ap (λ l. old ++ l) (sym (BlockLemmas.lines_none c.args.shares.now (colour_at colours) colours.width colours.height))

pub loop-line-preserved : goal.loop-line-preserved
loop-line-preserved c =
    let colours = c.args.colours.now in
    TextLemmas.grown _ _ _ _ _ _ c.loop-line.invariant c.in_ok-push_two_rows.ensures (BlockLemmas.lines_more c.args.shares.now (colour_at colours) colours.width colours.height c.loop-line.line)
