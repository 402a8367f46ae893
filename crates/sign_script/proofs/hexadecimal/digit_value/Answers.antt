use Rattle.std.proofs.Common.{ap, ◌∙◌, arith}
use Rattle.std.proofs.lemmas.List.FromFn.{get_or-map-range_with_len}
use Rattle.hex.specs.Hex.{hex_digit_value}
use Rattle.sign_script.specs.internal.Hexadecimal.{digit_value}
use Rattle.sign_script.proofs.HexadecimalLemmas.{small_value, value_small}
use Rattle.sign_script.proofs.hexadecimal.digit_value.Goals as goal

pub returns-clause-value : goal.returns-clause-value
returns-clause-value c = get_or-map-range_with_len digit_value 0 256 c.from.result c.from.result 0 (omega (arith, c.from.ensures)) (omega arith) ∙ ap digit_value c.from.ensures

pub returns-clause-small : goal.returns-clause-small
returns-clause-small c =
    let digit = c.args.digit in
    rw (get_or-map-range_with_len digit_value 0 256 c.from.result c.from.result 0 (omega (arith, c.from.ensures)) (omega arith) ∙ ap digit_value c.from.ensures)
    (value_small (hex_digit_value digit) (small_value digit))
