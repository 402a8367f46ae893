use Rattle.std.proofs.Common.{◌≡◌, ◌++◌, ℕ, List, take}
use Rattle.message_report.specs.Notes.{AreWarned}
use Rattle.message_report.proofs.text.push_each_warning.Given as goal

abbrev pub invariant-loop-warning : goal.invariant-loop-warning
invariant-loop-warning l = (told : List ℕ) × (l.text ≡ l.fn.text ++ told) × AreWarned (take l.warning-index l.warnings) told
