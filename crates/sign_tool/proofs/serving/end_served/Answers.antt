use Rattle.sign_tool.proofs.ServingSteps
use Rattle.sign_tool.proofs.serving.end_served.Goals as goal

pub returns-in-Err-clause-ends : goal.returns-in-Err-clause-ends
returns-in-Err-clause-ends g c =
    ServingSteps.refused_at_end c.args.server.now c.args.is_cut c.args.line.now c.args.ready.now.whole _ _ _ _ c.in-Err.ensures.last c.say_refused.ensures.ends
