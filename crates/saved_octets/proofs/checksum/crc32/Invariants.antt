use Rattle.std.proofs.Common.{◌≡◌, take}
use Rattle.std.specs.Prelude.{fold}
use Rattle.saved_octets.specs.Checksum.{octet_step}
use Rattle.saved_octets.proofs.checksum.crc32.Given as goal

abbrev pub invariant-loop-octet : goal.invariant-loop-octet
invariant-loop-octet l = l.register ≡ fold octet_step 0xFFFFFFFF (take l.octet-index l.octets)
