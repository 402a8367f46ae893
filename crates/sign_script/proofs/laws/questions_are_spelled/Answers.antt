use Rattle.sign_script.proofs.Asked.{question_found, question_only}
use Rattle.sign_script.proofs.laws.questions_are_spelled.Goals as goal

pub returns-clause-found : goal.returns-clause-found
returns-clause-found c = question_found

pub returns-clause-only : goal.returns-clause-only
returns-clause-only c = question_only
