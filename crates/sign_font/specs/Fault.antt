-- The numbers of the faults.
use Rattle.std.specs.Prelude.{ℕ}
use Rattle.sign_font.specs.declared.fault.DefaultFault.{DefaultFault}
use Rattle.sign_font.specs.declared.fault.DefaultFault.TheVariants.{Value, FontUnknown}
use Rattle.sign_font.specs.declared.fault.SignFault.{SignFault}
use Rattle.sign_font.specs.declared.fault.SignFault.TheVariants.{BadSize, BadFont, BadCell, BadDefault, BadLimit, Memory}

-- the number by which a fault is known outside (own)
abbrev pub code_of : SignFault → ℕ
code_of BadSize = 1
code_of BadFont = 2
code_of BadCell = 3
code_of BadDefault = 4
code_of BadLimit = 5
code_of Memory = 6

-- the number of a refusal of defaults (own)
abbrev pub default_code : DefaultFault → ℕ
default_code Value = 9
default_code FontUnknown = 10
