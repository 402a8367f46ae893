use Rattle.std.proofs.Common.{◌≡◌, ◌++◌, List, All}
use Rattle.message_words.specs.Warned.{IsSeen}
use Rattle.message_words.specs.declared.warnings.Warning.{Warning}
use Rattle.message_words.proofs.warnings.add_seen.Given as goal

abbrev pub invariant-loop-warning : goal.invariant-loop-warning
invariant-loop-warning l = (more : List Warning) × All (IsSeen l.told) more × (l.found.items ≡ l.fn.found.items ++ more)
