use Rattle.latsefur_c.proofs.JudgedLemmas.{AreJudgedBelow}
use Rattle.latsefur_c.proofs.export.latsefur_check_all.Given as goal

abbrev pub invariant-loop-place : goal.invariant-loop-place
invariant-loop-place l = AreJudgedBelow l.sign l.texts l.fn.verdicts l.verdicts l.place
