use Rattle.sign_tool.proofs.ServeClauses
use Rattle.sign_tool.proofs.serving.serve.Goals as goal

pub returns-clause-whole : goal.returns-clause-whole
returns-clause-whole g c = ServeClauses.whole _ _ _ _ _ _ c.serve_both.ensures

pub returns-clause-read : goal.returns-clause-read
returns-clause-read g c = λ e. ServeClauses.read _ _ _ _ _ _ e c.serve_both.ensures

pub returns-clause-front : goal.returns-clause-front
returns-clause-front g c = λ which. ServeClauses.front _ _ _ _ _ _ which c.serve_both.ensures

pub returns-clause-lines : goal.returns-clause-lines
returns-clause-lines g c = λ e. ServeClauses.lines _ _ _ _ _ _ e c.serve_both.ensures

pub returns-clause-only : goal.returns-clause-only
returns-clause-only g c = ServeClauses.only _ _ _ _ _ _ c.serve_both.ensures

pub returns-clause-long : goal.returns-clause-long
returns-clause-long g c = λ e. ServeClauses.long _ _ _ _ _ _ e c.serve_both.ensures
