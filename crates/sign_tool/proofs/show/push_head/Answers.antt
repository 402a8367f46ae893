use Rattle.std.proofs.Common.{◌≡◌, ◌+◌, ◌++◌, ◌∷◌, ◌∙◌, [], OnOk, ap, codes, decimal, subst, sym}
use Rattle.std.proofs.lemmas.Fmt.{decimal_digit}
use Rattle.sign_tool.specs.Frame.{head_text}
use Rattle.sign_tool.proofs.show.push_head.Goals as goal

pub returns-then-phase-lt10-clause-text : goal.returns-then-phase-lt10-clause-text
returns-then-phase-lt10-clause-text c =
    let page = c.in-Page.page in
    let phase = c.in-Page.phase in
    let head = ap head_text c.in-Page.is
    ∙ ap (λ l. codes "page " ++ l ++ codes " phase " ++ decimal phase ++ codes "\n") (decimal_digit page c.if-page-lt10.true)
    ∙ ap (λ l. codes "page " ++ ((48 + page) ∷ []) ++ codes " phase " ++ l ++ codes "\n") (decimal_digit phase c.if-phase-lt10.true)
    ∙ sym c.short_head.ensures in
    subst (λ l. OnOk c.push_short.result (c.push_short.new.text.begun ≡ c.args.text.now.begun ++ l)) (sym head) c.push_short.ensures.text
