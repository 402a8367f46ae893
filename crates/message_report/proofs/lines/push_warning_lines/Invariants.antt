use Rattle.std.proofs.Common.{◌≡◌, ◌++◌, ℕ, List, take}
use Rattle.message_report.specs.Explanation.{IsWarnings}
use Rattle.message_report.proofs.lines.push_warning_lines.Given as goal

abbrev pub invariant-loop-warning : goal.invariant-loop-warning
invariant-loop-warning l = (told : List ℕ) × (l.text ≡ l.fn.text ++ told) × IsWarnings l.fn.name l.line (take l.warning-index l.warnings) told
