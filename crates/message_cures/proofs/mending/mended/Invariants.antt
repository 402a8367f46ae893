use Rattle.std.proofs.Common.{◌≡◌, ◌+◌}
use Rattle.message_cures.specs.Cures.{Tries, texts}
use Rattle.message_cures.proofs.mending.mended.Given as goal

abbrev pub invariant-loop-change : goal.invariant-loop-change
invariant-loop-change l = Tries l.judge (texts l.fn.refused.items) (texts l.refused.items) l.fn.judged l.judged 0 × (l.judged ≡ l.fn.judged + l._change)
