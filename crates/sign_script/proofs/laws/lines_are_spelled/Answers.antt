use Rattle.sign_script.proofs.AskLemmas.{found, only}
use Rattle.sign_script.proofs.laws.lines_are_spelled.Goals as goal

pub returns-clause-found : goal.returns-clause-found
returns-clause-found c = found

pub returns-clause-only : goal.returns-clause-only
returns-clause-only c = only
