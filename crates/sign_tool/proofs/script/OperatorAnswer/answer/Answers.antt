use Rattle.std.proofs.Common.{refl}
use Rattle.sign_tool.proofs.ScriptLemmas
use Rattle.sign_tool.proofs.script.OperatorAnswer.answer.Goals as goal

pub returns : goal.returns
returns c =
    let old = c.args.self.now.controller in
    let new = c.answer_line.new.controller in
    let line = ScriptLemmas.answers_line old.sign old.state new.state c.args.line.now c.args.text.now.begun c.answer_line.new.text.begun _ c.answer_line.result refl c.answer_line.ensures.told in
    record {
      answered = rw c.answer_line.ensures.sign line;
      whole = c.answer_line.ensures.whole;
    }
