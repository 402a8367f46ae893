use Rattle.std.proofs.Common.{◌≡◌, take}
use Rattle.std.specs.List.{flat_map}
use Rattle.font_bdf.specs.Listed.{counted}
use Rattle.font_bdf.proofs.listed.text_of.Given as goal

abbrev pub invariant-loop-octet : goal.invariant-loop-octet
invariant-loop-octet l = l.text.items ≡ flat_map counted (take l.octet-index l.octets)
