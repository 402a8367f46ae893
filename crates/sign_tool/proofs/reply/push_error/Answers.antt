use Rattle.std.proofs.Common.{◌≡◌, ◌++◌, ◌∷◌, [], OnOk, sym, subst}
use Rattle.std.proofs.lemmas.Fmt.{decimal_digit}
use Rattle.sign_tool.proofs.reply.push_error.Goals as goal

pub returns-then-code-lt10-clause-text : goal.returns-then-code-lt10-clause-text
returns-then-code-lt10-clause-text c =
    subst (λ l. OnOk c.push_short.result (c.push_short.new.text.begun ≡ c.args.text.now.begun ++ 101 ∷ 114 ∷ 114 ∷ 111 ∷ 114 ∷ 32 ∷ (l ++ 32 ∷ []))) (sym (decimal_digit c.args.code c.if-code-lt10.true)) c.push_short.ensures.text
