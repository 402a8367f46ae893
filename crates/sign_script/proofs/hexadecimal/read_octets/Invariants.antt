use Rattle.sign_script.proofs.HexadecimalLemmas.{ReadsPairs}
use Rattle.sign_script.proofs.hexadecimal.read_octets.Given as goal

abbrev pub invariant-loop-index : goal.invariant-loop-index
invariant-loop-index l = ReadsPairs l.fn.digits l.octets l.index l.seen
