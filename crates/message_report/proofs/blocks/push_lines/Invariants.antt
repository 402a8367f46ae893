use Rattle.std.proofs.Common.{◌≡◌, ◌++◌}
use Rattle.page_picture.specs.Colours.{colour_at}
use Rattle.message_report.specs.Blocks.{lines_text}
use Rattle.message_report.proofs.blocks.push_lines.Given as goal

abbrev pub invariant-loop-line : goal.invariant-loop-line
invariant-loop-line l = l.text ≡ l.fn.text ++ lines_text l.shares (colour_at l.colours) l.colours.width l.colours.height l.line
