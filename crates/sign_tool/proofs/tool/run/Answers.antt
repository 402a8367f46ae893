use Rattle.std.proofs.lemmas.Result.{err_from_is_err_and}
use Rattle.sign_tool.proofs.StartLemmas
use Rattle.sign_tool.proofs.tool.run.Goals as goal

pub returns-in_err-start : goal.returns-in_err-start
returns-in_err-start g c =
    let p = err_from_is_err_and c.from_residual.result c.from_residual.ensures.1 in
    rw (p.1, p.2) (StartLemmas.Runs-failed c.args.mode c.args.sample _ _ _ _ c.in_err-start.ensures.starts)

pub returns : goal.returns
returns g c =
    let (taken, took, leads) = c.in_ok-start.ensures.starts in
    StartLemmas.Runs-behind c.args.mode c.args.sample _ _ _ _ _ taken c.in_ok-start.start.setup c.in_ok-start.start.place took leads _ c.run_on.ensures
