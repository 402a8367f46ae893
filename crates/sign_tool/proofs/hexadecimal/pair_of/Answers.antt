use Rattle.std.proofs.Common.{◌∙◌, ap, arith}
use Rattle.std.proofs.lemmas.List.FromFn.{get_or-map-range_with_len}
use Rattle.sign_tool.specs.internal.Hexadecimal.{pair_of}
use Rattle.sign_tool.proofs.hexadecimal.pair_of.Goals as goal

pub returns : goal.returns
returns c = get_or-map-range_with_len pair_of 0 256 c.from.result c.from.result 0 (omega (arith, c.from.ensures)) (omega arith) ∙ ap pair_of c.from.ensures
