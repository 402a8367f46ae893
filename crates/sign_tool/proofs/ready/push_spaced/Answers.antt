use Rattle.std.proofs.Common.{◌≡◌, ◌++◌, ◌∷◌, OnOk, sym, subst}
use Rattle.std.proofs.lemmas.Fmt.{decimal_digit}
use Rattle.sign_tool.proofs.ready.push_spaced.Goals as goal

pub returns-then-number-lt10-clause-text : goal.returns-then-number-lt10-clause-text
returns-then-number-lt10-clause-text c =
    subst (λ l. OnOk c.push_short.result (c.push_short.new.text.begun ≡ c.args.text.now.begun ++ 32 ∷ l)) (sym (decimal_digit c.args.number c.if-number-lt10.true)) c.push_short.ensures.text
