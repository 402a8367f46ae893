use Rattle.std.proofs.Common.{◌∙◌, ap, bit_xor}
use Rattle.message_store.specs.Crc.{octet_step}
use Rattle.message_store.proofs.CrcLemmas.{pair-is}
use Rattle.message_store.proofs.crc.with_pair.Goals as goal

pub returns : goal.returns
returns c =
    let combined = bit_xor c.args.register c.from.result in
    ap (λ x. bit_xor x c.eight_of.result) c.sixteen_of.ensures
    ∙ ap (bit_xor _) c.eight_of.ensures
    ∙ pair-is combined c.args.second
    ∙ ap (λ o. octet_step (octet_step c.args.register o) c.args.second) c.from.ensures
