use Rattle.std.proofs.Common.{◌-◌, ◌%◌, ◌/◌, get_or}
use Rattle.std.proofs.lemmas.Nat.Bits.{shr_and_one}
use Rattle.page_plane.specs.Octets.{is_bit_set}
use Rattle.page_plane.proofs.octets.bit.Goals as goal

pub returns : goal.returns
unfolding is_bit_set
returns c = rw (shr_and_one (get_or c.args.octets.now (c.args.place / 8) 0) (7 - c.args.place % 8))
