use Rattle.std.proofs.Common.{arith, refl}
use Rattle.hex.specs.Hex.{encode_with}
use Rattle.sign_tool.proofs.HexadecimalLemmas.{all_written, one_written}
use Rattle.sign_tool.proofs.hexadecimal.write_hex.Goals as goal

pub loop-index-init : goal.loop-index-init
unfolding encode_with
loop-index-init c = refl

pub loop-index-preserved : goal.loop-index-preserved
loop-index-preserved c =
    let i = c.loop-index.index in
    one_written c.args.octets.now c.loop-index.digits i c.pair_of-pair.result (omega arith) (omega (arith, c.type_inv.octets i)) (omega (arith, c.requires)) c.pair_of-pair.ensures c.loop-index.invariant

pub returns : goal.returns
returns c = all_written c.args.octets.now c.loop-index.digits c.loop-index.index (omega arith) (omega (arith, c.requires)) c.loop-index.invariant
