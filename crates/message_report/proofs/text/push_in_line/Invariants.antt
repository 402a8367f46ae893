use Rattle.std.proofs.Common.{◌≡◌, ◌++◌, ℕ, List}
use Rattle.message_report.specs.Words.{IsOneLine}
use Rattle.message_report.proofs.text.push_in_line.Given as goal

abbrev pub invariant-loop-octet : goal.invariant-loop-octet
invariant-loop-octet l = (line : List ℕ) × IsOneLine line × (l.text ≡ l.fn.text ++ line)
