use Rattle.std.proofs.Common.{length, arith, refl}
use Rattle.sign_script.proofs.HexadecimalLemmas.{finished, none_before, one_value}
use Rattle.sign_script.proofs.hexadecimal.read_octets.Goals as goal

pub loop-index-init : goal.loop-index-init
loop-index-init c = record { so_far = λ small. none_before _; none = λ large. absurd (omega (arith, large)) }

pub loop-index-preserved : goal.loop-index-preserved
loop-index-preserved c =
    one_value c.args.digits.now c.loop-index.octets c.loop-index.index c.loop-index.seen c.pair_value-value.result _ (omega arith) (omega arith) refl
    c.pair_value-value.ensures c.loop-index.invariant

pub returns : goal.returns
returns c =
    finished c.args.digits.now c.loop-index.octets (length c.args.octets.now) c.loop-index.index c.loop-index.seen c.if-digits-octets.false c.if-digits-eq1.false
    (omega arith) (omega arith) c.loop-index.invariant
