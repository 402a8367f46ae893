use Rattle.std.proofs.Common.{◌≡◌, suc, ◌+◌, ◌*◌, ◌^◌, ◌<◌, length, get_or, arith, ap, ◌∙◌}
use Rattle.std.proofs.Math.Nat.{pow-suc}
use Rattle.sign_script.proofs.LeadingLemmas.{digit_told, digits_more, number_more}
use Rattle.sign_script.proofs.fields.leading_number.Goals as goal

pub loop-index-preserved : goal.loop-index-preserved
loop-index-preserved c =
    let text = c.args.text.now in
    let i = c.loop-index.index in
    let before = c.loop-index.invariant in
    let octet = get_or text i 0 in
    let digit = digit_told octet c.from-digit.result c.from-digit.ensures (omega (arith, c.type_inv.text i)) c.if-digit-gt9.false in
    let least = digit.0 in
    let most = digit.1 in
    let there : i < length text = grind (arith, c.loop-index-test.true, c.min-end.ensures) in
    record {
      digits = digits_more text i there before.digits (grind (arith, least, most));
      value = ap (λ d. c.loop-index.number * 10 + d) digit.2 ∙ number_more text i c.loop-index.number there before.value least most;
      small = omega (arith, before.small, digit.2, most, least, ap (λ n. 10 ^ n) (let e : i + 1 ≡ suc i = omega arith in e), pow-suc 10 i);
    }
