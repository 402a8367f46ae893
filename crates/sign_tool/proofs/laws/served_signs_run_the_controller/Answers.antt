use Rattle.sign_tool.proofs.AlikeLemmas
use Rattle.sign_tool.proofs.ServedLemmas
use Rattle.sign_tool.proofs.laws.served_signs_run_the_controller.Goals as goal

pub returns-clause-one : goal.returns-clause-one
returns-clause-one c = ServedLemmas.one_reply_each

pub returns-clause-state : goal.returns-clause-state
returns-clause-state c = ServedLemmas.serves_on

pub returns-clause-commands : goal.returns-clause-commands
returns-clause-commands c = ServedLemmas.commands_run

pub returns-clause-scripts : goal.returns-clause-scripts
returns-clause-scripts c = AlikeLemmas.serves_as_runs
