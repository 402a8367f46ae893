use Rattle.sign_tool.proofs.ScriptLemmas
use Rattle.sign_tool.proofs.laws.scripts_run_the_controller.Goals as goal

pub returns-clause-commands : goal.returns-clause-commands
returns-clause-commands c = ScriptLemmas.replies_as_run

pub returns-clause-state : goal.returns-clause-state
returns-clause-state c = ScriptLemmas.carries_on
