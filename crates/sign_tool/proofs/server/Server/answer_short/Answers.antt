use Rattle.std.proofs.Common.{◌≡◌, ◌++◌, OnOk, subst, ap, sym, ◌∙◌}
use Rattle.std.proofs.lemmas.Bool.{le-ltb}
use Rattle.sign_tool.specs.Script.{Told}
use Rattle.sign_tool.specs.Served.{told_line, told_or_bad, told_question}
use Rattle.sign_tool.proofs.SavedLemmas.{bare_told}
use Rattle.sign_tool.proofs.server.Server.answer_short.Goals as goal

pub returns-in-Ok-clause-text : goal.returns-in-Ok-clause-text
returns-in-Ok-clause-text c =
    let sign = c.self.inside.controller.sign in
    let state = c.self.inside.controller.state in
    let line = c.args.line.now in
    let asked : told_line sign state line ≡ told_question sign state c.in-Ok.question =
    rw (le-ltb _ _ c.requires.short) (ap (told_or_bad sign state) c.in-Ok.ensures.asked ∙ bare_told sign state c.in-Ok.question) in
    let P : Told → Type 0 = λ t. OnOk c.push_question.result (c.push_question.new.text.begun ≡ c.args.text.now.begun ++ t.text) in
    rw (← c.self.view_is) (subst P (sym asked) c.push_question.ensures.text)
