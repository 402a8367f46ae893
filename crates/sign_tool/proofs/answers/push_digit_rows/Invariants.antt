use Rattle.std.proofs.Common.{◌≡◌, ◌++◌}
use Rattle.sign_tool.specs.ServedTexts.{digit_rows}
use Rattle.sign_tool.proofs.answers.push_digit_rows.Given as goal

abbrev pub invariant-loop-row : goal.invariant-loop-row
invariant-loop-row l = (l.text.begun ≡ l.fn.text.begun ++ digit_rows l.width l.colours l.row) × (l.text.whole ≡ l.fn.text.whole)
