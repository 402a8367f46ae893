use Rattle.std.proofs.Common.{◌≡◌, ◌-◌}
use Rattle.saved_octets.specs.Slots.{slots_in}
use Rattle.saved_octets.specs.internal.Reading.{rest_of}
use Rattle.saved_octets.proofs.table.behind_slots.Given as goal

abbrev pub invariant-loop : goal.invariant-loop
invariant-loop l = rest_of (slots_in l.limits (l.limits.slots - l.counter) l.left l.rest) ≡ rest_of (slots_in l.limits l.limits.slots l.limits.bytes l.octets)
