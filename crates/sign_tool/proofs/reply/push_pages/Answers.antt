use Rattle.std.proofs.Common.{◌≡◌, ◌++◌, ◌∷◌, [], OnOk, sym, subst}
use Rattle.std.proofs.lemmas.Fmt.{decimal_digit}
use Rattle.sign_tool.proofs.reply.push_pages.Goals as goal

pub returns-then-pages-lt10-clause-text : goal.returns-then-pages-lt10-clause-text
returns-then-pages-lt10-clause-text c =
    subst (λ l. OnOk c.push_short.result (c.push_short.new.text.begun ≡ c.args.text.now.begun ++ 111 ∷ 107 ∷ 32 ∷ (l ++ 10 ∷ []))) (sym (decimal_digit c.args.pages c.if-pages-lt10.true)) c.push_short.ensures.text
