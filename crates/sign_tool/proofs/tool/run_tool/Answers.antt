use Rattle.sign_tool.proofs.ToolLemmas
use Rattle.sign_tool.proofs.tool.run_tool.Goals as goal

pub returns-clause-whole : goal.returns-clause-whole
returns-clause-whole g c = λ own. ToolLemmas.whole _ _ _ _ _ _ _ _ c.run.ensures own

pub returns-clause-read : goal.returns-clause-read
returns-clause-read g c = λ e. ToolLemmas.read _ _ _ _ _ _ _ _ e c.run.ensures

pub returns-clause-front : goal.returns-clause-front
returns-clause-front g c = λ which. ToolLemmas.front _ _ _ _ _ _ _ _ which c.run.ensures

pub returns-clause-lines : goal.returns-clause-lines
returns-clause-lines g c = λ e. ToolLemmas.lines _ _ _ _ _ _ _ _ e c.run.ensures
