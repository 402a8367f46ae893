use Rattle.std.proofs.Common.{◌≡◌}
use Rattle.std.specs.List.{flat_map, range_with_len}
use Rattle.page_picture.specs.Palette.{shares}
use Rattle.page_picture.proofs.palette.palette_of.Given as goal

abbrev pub invariant-loop-number : goal.invariant-loop-number
invariant-loop-number l = l.octets.items ≡ flat_map (shares l.classic) (range_with_len 0 l.number)
