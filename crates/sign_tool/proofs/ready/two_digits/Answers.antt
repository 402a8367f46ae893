use Rattle.std.proofs.Common.{◌+◌, ◌++◌, ◌∷◌, ◌/◌, ◌%◌, ◌∙◌, [], ap, sym, arith}
use Rattle.std.proofs.lemmas.Fmt.{decimal_digit, decimal_step}
use Rattle.sign_tool.proofs.ready.two_digits.Goals as goal

pub returns : goal.returns
returns c =
    let number = c.args.number in
    sym (decimal_step number c.requires.two.0 (omega (arith, c.requires.two.1)) ∙ ap (λ l. l ++ ((48 + number % 10) ∷ [])) (decimal_digit (number / 10) (omega (arith, c.requires.two.1))))
