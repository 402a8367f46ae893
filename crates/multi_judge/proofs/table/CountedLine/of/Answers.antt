use Rattle.multi_judge.proofs.Lemmas.{arith, common_steps, kept_width_is, none_of_later, present_known}
use Rattle.multi_judge.proofs.table.CountedLine.of.Goals as goal

pub returns-clause-entry : goal.returns-clause-entry
returns-clause-entry c = grind (arith, common_steps, none_of_later, kept_width_is, present_known)
