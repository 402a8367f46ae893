use Rattle.std.proofs.Common.{◌≡◌, ◌++◌, OnOk, arith, refl, sym, ap, ◌∙◌, subst}
use Rattle.multi_token.specs.Counted.{Counted}
use Rattle.sign_font.specs.Sign.{SignData}
use Rattle.multi_meaning.specs.Times.{shown}
use Rattle.multi_meaning.specs.Verdict.{Accepted, IsVerdict, Refused}
use Rattle.sign_tool.specs.Frame.{frame_text, head_text}
use Rattle.sign_tool.proofs.FrameLemmas
use Rattle.sign_tool.proofs.ReplyLemmas
use Rattle.sign_tool.proofs.show.push_shown.Goals as goal

pub returns-in-Ok-clause-ok : goal.returns-in-Ok-clause-ok
returns-in-Ok-clause-ok c =
    let sign = c.args.sign.now in
    let judge = c.new.result in
    let same = c.new.ensures in
    let old = c.args.text.now.begun in
    let octets = c.new-source.result.octets in
    let given = ap (λ (s : Counted). s.octets) c.new-source.ensures in
    let plane = c.draw_shown.new.plane in
    let (pages, accepted) = c.in-Ok.ensures.accepted in
    let frame = FrameLemmas.frame_of old (old ++ head_text c.in-Ok.shown) judge octets c.args.clock c.args.colour c.in-Ok.shown plane (c.in-Ok.ensures.shown.0 ∙ ap (shown judge octets) c.from.ensures) c.in-Ok.ensures.shown.1
    c.draw_shown.ensures.size refl in
    let answer = FrameLemmas.answer_of_frame old sign judge c.args.line.now octets pages c.args.colour c.args.clock (omega arith) same given (subst (λ (s : SignData). IsVerdict s octets (Accepted pages)) same accepted) in
    subst (λ l. OnOk c.push_frame.result (c.push_frame.new.text.begun ≡ l)) (frame ∙ answer) c.push_frame.ensures.text

pub returns-in-Err-clause-ok : goal.returns-in-Err-clause-ok
returns-in-Err-clause-ok c =
    let sign = c.args.sign.now in
    let line = c.args.line.now in
    let octets = c.new-source.result.octets in
    let given = ap (λ (s : Counted). s.octets) c.new-source.ensures in
    let code = c.code.result in
    let refused = subst (λ (s : SignData). IsVerdict s octets (Refused code c.in-Err.offence.at)) c.new.ensures (rw c.code.ensures c.in-Err.ensures.refused) in
    let answer = ReplyLemmas.answer_refused (λ pages. frame_text sign line c.args.colour (shown sign line c.args.clock)) sign line octets code c.in-Err.offence.at (omega arith) given refused in
    subst (λ l. OnOk c.push_refused.result (c.push_refused.new.text.begun ≡ c.args.text.now.begun ++ l)) (sym answer) c.push_refused.ensures.text
