use Rattle.std.proofs.Common.{◌≡◌, ◌++◌, drop}
use Rattle.sign_tool.specs.Replies.{numbers_text}
use Rattle.sign_tool.proofs.replies.push_numbers.Given as goal

abbrev pub invariant-loop-number : goal.invariant-loop-number
invariant-loop-number l = (l.text.begun ++ numbers_text (drop l.number-index l.numbers) ≡ l.fn.text.begun ++ numbers_text l.numbers) × (l.text.whole ≡ l.fn.text.whole)
