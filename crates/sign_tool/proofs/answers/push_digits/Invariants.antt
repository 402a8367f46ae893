use Rattle.std.proofs.Common.{◌≡◌, ◌++◌, drop}
use Rattle.sign_tool.specs.ServedTexts.{digits_text}
use Rattle.sign_tool.proofs.answers.push_digits.Given as goal

abbrev pub invariant-loop-colour : goal.invariant-loop-colour
invariant-loop-colour l = (l.text.begun ++ digits_text (drop l.colour-index l.colours) ≡ l.fn.text.begun ++ digits_text l.colours) × (l.text.whole ≡ l.fn.text.whole)
