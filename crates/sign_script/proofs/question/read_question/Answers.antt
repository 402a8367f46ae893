use Rattle.std.proofs.Common.{◌≡◌, rules}
use Rattle.sign_script.specs.Fields.{Gives}
use Rattle.sign_script.specs.Questions.{bare_question, more_asked, question_of}
use Rattle.sign_script.proofs.Asked.{gives_unasked, question_bad}
use Rattle.sign_script.proofs.question.read_question.Goals as goal

pub returns-in-Err-Bad-clause-bad : goal.returns-in-Err-Bad-clause-bad
returns-in-Err-Bad-clause-bad c =
    let more : question_of c.args.line.now ≡ more_asked c.args.line.now = question_bad c.args.line.now c.in-Err-Bad.field-0 c.in-Err-Bad.field-0-is c.in-Err-Bad.ensures.asked in
    let asked : Gives bare_question c.ok_or.result (question_of c.args.line.now) = search rules in
    gives_unasked c.ok_or.result c.args.line.now asked
