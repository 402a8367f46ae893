use Rattle.std.proofs.Common.{◌≡◌, ◌++◌}
use Rattle.page_picture.specs.Rows.{rows_text}
use Rattle.message_report.specs.Pictures.{mark_at}
use Rattle.message_report.proofs.marks.push_rows.Given as goal

abbrev pub invariant-loop-row : goal.invariant-loop-row
invariant-loop-row l = l.text ≡ l.fn.text ++ rows_text (mark_at l.colours) l.colours.width l.row
