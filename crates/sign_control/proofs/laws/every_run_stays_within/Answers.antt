use Rattle.sign_control.proofs.BudgetLemmas as lemmas
use Rattle.sign_control.proofs.laws.every_run_stays_within.Goals as goal

pub returns : goal.returns
returns c = lemmas.every_run_stays_within
