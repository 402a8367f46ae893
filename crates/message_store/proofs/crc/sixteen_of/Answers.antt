use Rattle.std.proofs.Common.{◌∙◌, ap, arith, ℕ}
use Rattle.std.proofs.lemmas.List.FromFn.{get_or-map-range_with_len}
use Rattle.message_store.specs.Crc.{four_steps}
use Rattle.message_store.proofs.crc.sixteen_of.Goals as goal

-- what the table has at each place
abbrev sixteen : ℕ → ℕ
sixteen n = four_steps (four_steps (four_steps (four_steps n)))

pub returns : goal.returns
returns c = get_or-map-range_with_len sixteen 0 256 c.from.result c.from.result 0 (omega (arith, c.from.ensures)) (omega arith) ∙ ap sixteen c.from.ensures
