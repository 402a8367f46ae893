use Rattle.std.proofs.Common.{◌≡◌, ◌++◌, replicate}
use Rattle.message_report.proofs.refusal.push_caret.Given as goal

-- a space for each turn so far
abbrev pub invariant-loop : goal.invariant-loop
invariant-loop l = l.text ≡ l.fn.text ++ replicate l.counter 32
