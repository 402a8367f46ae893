use Rattle.std.proofs.Common.{◌≡◌, Some, get_or, refl, arith, sym, ◌∙◌}
use Rattle.std.specs.Char.{to_ascii_lowercase}
use Rattle.multi_tag.specs.Part.{digit_of}
use Rattle.multi_tag.proofs.CutLemmas.{one_digit_more, digits_small, digit_small, small_front}
use Rattle.multi_tag.proofs.number.read_numeral.Goals as goal

pub overflow_mul-value : goal.overflow_mul-value
overflow_mul-value c =
    let i = c.loop.invariant in
    let test = c.loop-test.true in
    let product = digits_small _ _ _ _ _ i.digits i.base (omega arith) in
    rw c.unwrap_or.ensures (omega (arith, product))

pub overflow_add-value : goal.overflow_add-value
overflow_add-value c =
    let i = c.loop.invariant in
    let test = c.loop-test.true in
    let product = digits_small _ _ _ _ _ i.digits i.base (omega arith) in
    let digit = digit_small c.args.base c.in-Some.digit (to_ascii_lowercase (get_or c.loop.rest.now 0 0)) (sym c.digit_of.ensures ∙ c.in-Some.is) in
    let base = i.base in
    rw c.unwrap_or.ensures (omega (arith, product, digit))

pub loop-preserved : goal.loop-preserved
loop-preserved c =
    let i = c.loop.invariant in
    let digit : digit_of c.args.base (to_ascii_lowercase (get_or c.loop.rest.now 0 0)) ≡ Some c.in-Some.digit = sym c.digit_of.ensures ∙ c.in-Some.is in
    let digits = rw (small_front c.loop.rest.now _ c.in-len1-up.len_at_least refl) at i.digits in
    record {
      digits = rw c.unwrap_or.ensures (one_digit_more _ _ _ _ _ _ _ digits digit);
      least = i.least;
      base = i.base;
      most = i.most;
    }
