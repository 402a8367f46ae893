use Rattle.std.proofs.Common.{◌≡◌, ◌+◌, ◌*◌, ◌∙◌, fold, take, ap, arith}
use Rattle.message_store.specs.Crc.{octet_step}
use Rattle.message_store.proofs.CrcLemmas.{pair_more}
use Rattle.message_store.proofs.crc.with_text.Goals as goal

pub loop-pair-preserved : goal.loop-pair-preserved
loop-pair-preserved c =
    let text = c.args.text.now in
    let pair = c.loop-pair.pair in
    let next : 2 * pair + 2 ≡ 2 * (pair + 1) = omega arith in
    c.with_pair-register.ensures
    ∙ pair_more text c.args.register c.loop-pair.register (2 * pair) (omega (arith, c.loop-pair-test.true)) c.loop-pair.invariant
    ∙ ap (λ n. fold octet_step c.args.register (take n text)) next
