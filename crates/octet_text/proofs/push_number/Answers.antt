use Rattle.std.proofs.Common.{◌≡◌, ◌++◌, OnOk, sym, subst}
use Rattle.std.proofs.lemmas.Fmt.{decimal_digit}
use Rattle.octet_text.proofs.push_number.Goals as goal

pub returns-then-number-lt10 : goal.returns-then-number-lt10
returns-then-number-lt10 c =
    subst (λ l. OnOk c.push_octet.result (c.push_octet.new.text.items ≡ c.args.text.now.items ++ l)) (sym (decimal_digit c.args.number c.if-number-lt10.true)) c.push_octet.ensures.text
