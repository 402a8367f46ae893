use Rattle.std.proofs.Common.{refl}
use Rattle.std.proofs.lemmas.Result.{err_from_is_err_and}
use Rattle.sign_tool.proofs.ScriptLemmas
use Rattle.sign_tool.proofs.StartLemmas
use Rattle.sign_tool.proofs.tool.run_on.Goals as goal

pub returns-in_err-answer-in-Show : goal.returns-in_err-answer-in-Show
returns-in_err-answer-in-Show g c =
    let p = err_from_is_err_and c.from_residual.result c.from_residual.ensures.1 in
    rw (p.1, p.2) (StartLemmas.Runs-unread _ _ _ _ _ _ _ refl)

pub returns-in_err-answer-in-Run : goal.returns-in_err-answer-in-Run
returns-in_err-answer-in-Run g c =
    let p = err_from_is_err_and c.from_residual-in_err-answer-in-Run.result c.from_residual-in_err-answer-in-Run.ensures.1 in
    rw (p.1, p.2) (StartLemmas.Runs-unread _ _ _ _ _ _ _ refl)

pub returns-in_ok-answer-in-Show : goal.returns-in_ok-answer-in-Show
returns-in_ok-answer-in-Show g c =
    StartLemmas.Runs-showing c.args.mode c.args.start.setup c.in-Show.colour c.in-Show.clock _ _ _ c.in_ok-answer-in-Show.answer _ _ _ _ _ c.in-Show.is c.in_ok-answer-in-Show.ensures c.answer_lines-in-Show.ensures.runs

pub returns-in_ok-answer-in-Run : goal.returns-in_ok-answer-in-Run
returns-in_ok-answer-in-Run g c =
    let made = c.in_ok-answer-in-Run.answer.controller in
    ScriptLemmas.Runs-running c.args.mode c.args.start.setup _ _ _ made.sign made.state _ _ _ _ _ c.in-Run.is c.in_ok-answer-in-Run.ensures.sign c.in_ok-answer-in-Run.ensures.state c.answer_lines-in-Run.ensures.runs

pub returns-in-Check : goal.returns-in-Check
returns-in-Check g c =
    StartLemmas.Runs-checking c.args.mode c.args.start.setup _ _ _ c.new.result _ _ _ _ _ c.in-Check.is c.new.ensures c.answer_lines.ensures.runs
