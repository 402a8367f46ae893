use Rattle.std.proofs.Common.{◌-◌, ◌%◌}
use Rattle.std.proofs.lemmas.Nat.Bits.{shr_and_one}
use Rattle.page_picture.proofs.write.has_bit.Goals as goal

pub returns : goal.returns
returns c = rw (shr_and_one c.args.octet (7 - c.args.column % 8))
