use Rattle.std.proofs.Common.{[], refl}
use Rattle.std.proofs.lemmas.Result.{err_from_is_err_and}
use Rattle.sign_tool.proofs.ServingSteps
use Rattle.sign_tool.proofs.TalkLemmas
use Rattle.sign_tool.proofs.serving.serve_talk.Goals as goal

pub returns-in_err-ready : goal.returns-in_err-ready
returns-in_err-ready g c =
    let p = err_from_is_err_and c.from_residual.result c.from_residual.ensures.1 in
    record {
      serves = rw (p.1, p.2) (ServingSteps.serves_none _ _ _ _ refl);
      timely = rw p.1 (TalkLemmas.in_time _ _ [] [] p.0 (TalkLemmas.begins _ _ (g.met.T.Talk.rests c.args.talk.now)));
      same = (refl, refl);
    }

pub returns-in_err-server : goal.returns-in_err-server
returns-in_err-server g c =
    let p = err_from_is_err_and c.from_residual-in_err-server.result c.from_residual-in_err-server.ensures.1 in
    record {
      serves = rw (p.1, p.2) (ServingSteps.serves_none _ _ _ _ refl);
      timely = rw p.1 (TalkLemmas.in_time _ _ [] [] p.0 (TalkLemmas.begins _ _ (g.met.T.Talk.rests c.args.talk.now)));
      same = (refl, refl);
    }
