use Rattle.std.proofs.Common.{◌++◌, ◌+◌, sym, ap, ◌∙◌, append-nil}
use Rattle.octet_text.proofs.TextLemmas
use Rattle.page_picture.specs.Colours.{colour_at}
use Rattle.message_report.specs.Blocks.{colour_within}
use Rattle.message_report.proofs.BlockLemmas
use Rattle.message_report.proofs.blocks.push_blocks.Goals as goal

pub loop-column-init : goal.loop-column-init
loop-column-init c =
    let old = c.args.text.now in
    let colours = c.args.colours.now in
    let none = BlockLemmas.blocks_none c.args.shares.now (colour_within (colour_at colours) colours.height c.args.row) (colour_within (colour_at colours) colours.height (c.args.row + 1)) in
    sym (append-nil old) ∙ ap (λ l. old ++ l) (sym none)

pub loop-column-preserved : goal.loop-column-preserved
loop-column-preserved c =
    let colours = c.args.colours.now in
    let more = BlockLemmas.blocks_more c.args.shares.now (colour_within (colour_at colours) colours.height c.args.row) (colour_within (colour_at colours) colours.height (c.args.row + 1)) c.loop-column.column in
    TextLemmas.grown _ _ _ _ _ _ c.loop-column.invariant c.in_ok-push_block.ensures more
