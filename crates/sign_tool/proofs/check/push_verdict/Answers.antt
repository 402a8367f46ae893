use Rattle.std.proofs.Common.{◌≡◌, ◌++◌, OnOk, arith, refl, sym, ap, subst}
use Rattle.multi_token.specs.Counted.{Counted}
use Rattle.multi_meaning.specs.Codes.{code_of}
use Rattle.sign_tool.specs.Reply.{pages_text}
use Rattle.sign_tool.proofs.ReplyLemmas
use Rattle.sign_tool.proofs.check.push_verdict.Goals as goal

pub returns-in-Ok-clause-text : goal.returns-in-Ok-clause-text
returns-in-Ok-clause-text c =
    let octets = ap (λ (s : Counted). s.octets) c.new.ensures in
    let sign = c.args.judge.now in
    let answer = ReplyLemmas.answer_accepted pages_text sign c.args.line.now sign _ c.in-Ok.pages (omega arith) refl octets c.in-Ok.ensures.accepted in
    subst (λ l. OnOk c.push_pages.result (c.push_pages.new.text.begun ≡ c.args.text.now.begun ++ l)) (sym answer) c.push_pages.ensures.text

pub returns-in-Err-clause-text : goal.returns-in-Err-clause-text
returns-in-Err-clause-text c =
    let octets = ap (λ (s : Counted). s.octets) c.new.ensures in
    let offence = c.in-Err.offence in
    let answer = ReplyLemmas.answer_refused pages_text c.args.judge.now c.args.line.now _ (code_of offence.error) offence.at (omega arith) octets c.in-Err.ensures.refused in
    subst (λ l. OnOk c.push_refused.result (c.push_refused.new.text.begun ≡ c.args.text.now.begun ++ l)) (sym answer) (rw (← c.code.ensures) c.push_refused.ensures.text)
