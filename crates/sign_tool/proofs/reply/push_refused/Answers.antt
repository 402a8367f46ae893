use Rattle.std.proofs.Common.{◌≡◌, ◌+◌, ◌++◌, ◌∷◌, ◌∙◌, [], OnOk, ap, codes, decimal, subst, sym}
use Rattle.std.proofs.lemmas.Fmt.{decimal_digit}
use Rattle.sign_tool.proofs.reply.push_refused.Goals as goal

pub returns-then-at-lt10-clause-text : goal.returns-then-at-lt10-clause-text
returns-then-at-lt10-clause-text c =
    let code = c.args.code in
    let at = c.args.at in
    let whole = ap (λ l. codes "error " ++ l ++ codes " " ++ decimal at ++ codes "\n") (decimal_digit code c.if-code-lt10.true)
    ∙ ap (λ l. codes "error " ++ ((48 + code) ∷ []) ++ codes " " ++ l ++ codes "\n") (decimal_digit at c.if-at-lt10.true)
    ∙ sym c.short_refusal.ensures in
    subst (λ l. OnOk c.push_short.result (c.push_short.new.text.begun ≡ c.args.text.now.begun ++ l)) (sym whole) c.push_short.ensures.text
