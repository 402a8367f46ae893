use Rattle.multi_judge.proofs.Lemmas.{filled_start}
use Rattle.multi_judge.proofs.pass.Pass.new.Goals as goal

pub returns-clause-filled : goal.returns-clause-filled
returns-clause-filled c sign items st none = filled_start sign items c.args.state st none
