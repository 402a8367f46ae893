use Rattle.std.proofs.Common.{◌≢◌, ℕ, ◌*◌, ◌%◌, ◌<◌, ◌≤◌, subst, arith}
use Rattle.message_film.specs.Period.{IsCommonTime}
use Rattle.message_film.proofs.FlashLemmas
use Rattle.message_film.proofs.period.common_time.Goals as goal

pub returns : goal.returns
returns c =
    let step = c.from-step.result in
    let time = c.from-time.result in
    let some : 1 ≤ time = omega (arith, c.if-time-eq0.false) in
    let last = c.loop-times-test.false in
    let least : (fewer : ℕ) → 1 ≤ fewer → fewer < time → fewer * step % time ≢ 0 = λ fewer one less. c.loop-times.invariant fewer one (omega (arith, less, last)) in
    subst (λ n. IsCommonTime c.args.tenths n (time * step)) c.from-time.ensures
    (subst (λ n. IsCommonTime n time (time * step)) c.from-step.ensures (FlashLemmas.found_last step time some least))
