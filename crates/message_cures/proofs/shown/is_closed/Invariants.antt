use Rattle.std.proofs.Common.{◌≡◌, drop}
use Rattle.message_cures.specs.Shown.{is_closed}
use Rattle.message_cures.proofs.shown.is_closed.Given as goal

abbrev pub invariant-loop-octet : goal.invariant-loop-octet
invariant-loop-octet l = is_closed l.octets ≡ is_closed (drop l.octet-index l.octets)
