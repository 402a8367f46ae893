use Rattle.multi_judge.proofs.Lemmas.{common_steps, rules, arith, pass_undefined, no_cell}
use Rattle.multi_judge.proofs.pass.Pass.judge_item.Goals as goal

pub returns-in-None-clause-judged : goal.returns-in-None-clause-judged
returns-in-None-clause-judged g c = first_of (search (rules, no_cell, pass_undefined), grind (arith, common_steps, no_cell, pass_undefined))
