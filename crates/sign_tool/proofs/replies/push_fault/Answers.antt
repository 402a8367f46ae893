use Rattle.std.proofs.Common.{◌≡◌, ◌++◌, ◌∙◌, OnOk, ap, codes, subst, sym}
use Rattle.std.proofs.lemmas.Fmt.{decimal_digit}
use Rattle.sign_tool.proofs.replies.push_fault.Goals as goal

pub returns-then-code-lt10-clause-text : goal.returns-then-code-lt10-clause-text
returns-then-code-lt10-clause-text c =
    let told = ap (λ l. codes "refused " ++ l ++ codes "\n") (decimal_digit c.args.code c.if-code-lt10.true) ∙ sym c.short_fault.ensures in
    subst (λ l. OnOk c.push_short.result (c.push_short.new.text.begun ≡ c.args.text.now.begun ++ l)) (sym told) c.push_short.ensures.text
