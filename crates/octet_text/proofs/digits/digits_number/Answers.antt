use Rattle.std.proofs.Common.{◌≡◌, suc, ◌+◌, ◌*◌, ◌^◌, arith, ap, ◌∙◌}
use Rattle.std.proofs.Math.Nat.{pow-suc}
use Rattle.octet_text.proofs.DigitLemmas.{digits_more, number_more}
use Rattle.octet_text.proofs.digits.digits_number.Goals as goal

pub loop-octet-preserved : goal.loop-octet-preserved
loop-octet-preserved c =
    let ds = c.args.digits.now in
    let i = c.loop-octet.octet-index in
    let before = c.loop-octet.invariant in
    let least = c.if-octet-lt48.false in
    let most = c.if-octet-gt57.false in
    let there = c.loop-octet-test.true in
    record {
      all = digits_more ds i there before.all (grind (arith, least, most));
      number = ap (λ d. c.loop-octet.number * 10 + d) c.from.ensures ∙ number_more ds i c.loop-octet.number there before.number least most;
      small = omega (arith, before.small, c.from.ensures, most, least, ap (λ n. 10 ^ n) (let e : i + 1 ≡ suc i = omega arith in e), pow-suc 10 i);
      short = before.short;
    }
