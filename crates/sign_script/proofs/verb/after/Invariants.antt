use Rattle.std.proofs.Common.{◌≡◌, take}
use Rattle.sign_script.proofs.verb.after.Given as goal

abbrev pub invariant-loop-index : goal.invariant-loop-index
invariant-loop-index l = take l.index l.line ≡ take l.index l.word
