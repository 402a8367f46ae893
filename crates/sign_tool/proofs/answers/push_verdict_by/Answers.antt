use Rattle.std.proofs.Common.{◌≡◌, ◌++◌, OnOk, arith, sym, ap, ◌∙◌, subst}
use Rattle.multi_token.specs.Counted.{Counted}
use Rattle.sign_font.specs.Defaults.{under}
use Rattle.sign_tool.specs.Reply.{pages_text}
use Rattle.sign_tool.proofs.ReplyLemmas
use Rattle.sign_tool.proofs.answers.push_verdict_by.Goals as goal

pub returns-in-Ok-clause-text : goal.returns-in-Ok-clause-text
returns-in-Ok-clause-text c =
    let judge = under c.args.sign.now c.args.defaults in
    let octets = c.in-Ok.ensures.kept.1 ∙ ap (λ (s : Counted). s.octets) c.new.ensures in
    let answer = ReplyLemmas.answer_accepted pages_text judge c.args.line.now _ _ c.pages.result (omega arith) c.in-Ok.ensures.kept.0 octets c.pages.ensures in
    subst (λ l. OnOk c.push_pages.result (c.push_pages.new.text.begun ≡ c.args.text.now.begun ++ l)) (sym answer) c.push_pages.ensures.text

pub returns-in-Err-clause-text : goal.returns-in-Err-clause-text
returns-in-Err-clause-text c =
    let judge = under c.args.sign.now c.args.defaults in
    let octets = ap (λ (s : Counted). s.octets) c.new.ensures in
    let answer = ReplyLemmas.answer_refused pages_text judge c.args.line.now _ c.in-Err.fault.code c.in-Err.fault.at (omega arith) octets c.in-Err.ensures.refused in
    subst (λ l. OnOk c.push_refused.result (c.push_refused.new.text.begun ≡ c.args.text.now.begun ++ l)) (sym answer) c.push_refused.ensures.text
