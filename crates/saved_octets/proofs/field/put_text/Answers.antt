use Rattle.std.proofs.Common.{◌+◌, ◌∙◌, ap, length, refl, arith}
use Rattle.byteorder.specs.Endian.{big_bytes}
use Rattle.saved_octets.specs.Field.{placed}
use Rattle.saved_octets.proofs.PlacedLemmas.{placed_more}
use Rattle.saved_octets.proofs.field.put_text.Goals as goal

pub returns : goal.returns
returns c = record {
  put = placed_more c.args.buffer.now c.put.new.buffer c.put-2.new.buffer (big_bytes 2 (length c.args.text.now)) c.args.text.now c.args.at (c.args.at + 2)
      (c.put.ensures.put ∙ ap (placed c.args.buffer.now c.args.at) c.to_be_bytes.ensures) refl (omega (arith, c.requires.room)) c.put-2.ensures.put;
}
