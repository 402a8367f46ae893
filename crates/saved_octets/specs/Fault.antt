-- The numbers of the refusals of saved octets.
use Rattle.std.specs.Prelude.{ℕ}
use Rattle.saved_octets.specs.declared.fault.StateFault.{StateFault}
use Rattle.saved_octets.specs.declared.fault.StateFault.TheVariants.{Length, Version, Checksum, Value, TooLong, NoSpace, Slots, Defaults, Text}

-- the number of a refusal (own)
abbrev pub fault_code : StateFault → ℕ
fault_code Length = 1
fault_code Version = 2
fault_code Checksum = 3
fault_code Value = 4
fault_code TooLong = 5
fault_code NoSpace = 6
fault_code Slots = 7
fault_code Defaults = 8
fault_code Text = 9
