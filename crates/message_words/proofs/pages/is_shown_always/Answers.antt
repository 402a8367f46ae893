use Rattle.std.proofs.Common.{◌+◌, ◌<◌, get_or, sym, arith}
use Rattle.message_words.proofs.WarnedLemmas
use Rattle.message_words.proofs.pages.is_shown_always.Goals.{then-one-gt0-via-then-one-gt0, then-one-gt0-via-else-one-gt0+then-one-gt0-2}
use Rattle.message_words.proofs.pages.is_shown_always.Goals as goal

pub returns-then-one-gt0 : goal.returns-then-one-gt0
returns-then-one-gt0 c =
    let times = c.args.times.now in
    let i = c.loop-one.one-index in
    let one = get_or times i (record { on = 0; off = 0 }) in
    let some : 0 < one.on + one.off = elim c.then-one-gt0.branch [
      | then-one-gt0-via-then-one-gt0 w ↦ let h = w.if-one-gt0.true in omega (arith, h)
      | then-one-gt0-via-else-one-gt0+then-one-gt0-2 w ↦ let h = w.if-one-gt0-2.true in omega (arith, h)
    ] in
    sym (WarnedLemmas.has_time times i (record { on = 0; off = 0 }) c.loop-one-test.true c.if-times-eq1.false some)
