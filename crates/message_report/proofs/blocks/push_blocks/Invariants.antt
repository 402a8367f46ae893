use Rattle.std.proofs.Common.{◌≡◌, ◌++◌, ◌+◌}
use Rattle.page_picture.specs.Colours.{colour_at}
use Rattle.message_report.specs.Blocks.{blocks_text, colour_within}
use Rattle.message_report.proofs.blocks.push_blocks.Given as goal

abbrev pub invariant-loop-column : goal.invariant-loop-column
invariant-loop-column l =
    l.text ≡ l.fn.text ++ blocks_text l.shares (colour_within (colour_at l.colours) l.colours.height l.row) (colour_within (colour_at l.colours) l.colours.height (l.row + 1)) l.column
