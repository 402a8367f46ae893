use Rattle.std.proofs.Common.{◌/◌, ◌∙◌, ap, sym, bit_xor}
use Rattle.message_store.specs.Crc.{octet_step}
use Rattle.message_store.proofs.CrcLemmas.{eight-is}
use Rattle.message_store.proofs.crc.with_octet.Goals as goal

pub returns : goal.returns
returns c =
    let combined = bit_xor c.args.register c.from.result in
    ap (bit_xor (combined / 256)) c.eight_of.ensures ∙ sym (eight-is combined) ∙ ap (octet_step c.args.register) c.from.ensures
