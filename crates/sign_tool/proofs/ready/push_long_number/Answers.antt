use Rattle.std.proofs.Common.{◌≡◌, ◌++◌, OnOk, subst}
use Rattle.sign_tool.proofs.ready.push_long_number.Goals as goal

pub returns-then-number-lt100-clause-text : goal.returns-then-number-lt100-clause-text
returns-then-number-lt100-clause-text c =
    subst (λ l. OnOk c.push_short.result (c.push_short.new.text.begun ≡ c.args.text.now.begun ++ l)) c.two_digits.ensures c.push_short.ensures.text
