-- The numbers by which refusals are known outside.
use Rattle.std.specs.Prelude.{ℕ}
use Rattle.message_store.specs.declared.fault.StoreFault.{StoreFault}
use Rattle.message_store.specs.declared.fault.StoreFault.TheVariants as fault

-- the number of a refusal (own)
abbrev pub fault_code : StoreFault → ℕ
fault_code fault.MemoryType = 1
fault_code fault.Number = 2
fault_code fault.ReadOnly = 3
fault_code fault.WrongState = 4
fault_code fault.BadValue = 5
fault_code fault.TooLong = 6
fault_code fault.NoSpace = 7
