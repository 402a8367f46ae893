-- The sign of a sign file, and the numbers that say why there is none.
use Rattle.std.specs.Prelude.{◌≡◌, ◌⊎◌, ℕ, List, Option, Some, None, is_none, if◌then◌else◌}
use Rattle.sign_font.specs.Limits.{first_fault}
use Rattle.sign_font.specs.Sign.{SignData}
use Rattle.sign_font.specs.declared.fault.SignFault.{SignFault}
use Rattle.sign_font.specs.declared.fault.SignFault.TheVariants as faults
use Rattle.sign_file.specs.Keys.{◌>>=◌}
use Rattle.sign_file.specs.SignFile.{FileData, file_of_octets}

-- the sign of a file, if it has no fault; the message table isn't looked at (own)
abbrev pub sound_sign : FileData → Option SignData
sound_sign file = if is_none (first_fault file.sign) then Some file.sign else None

-- the sign that octets describe, if they are a sign file and its sign has no fault (own)
unfoldable pub sign_of_file : List ℕ → Option SignData
sign_of_file octets = file_of_octets octets >>= sound_sign

-- there is no sign: memory was refused (2), or the octets are no sign file (3), or the sign of the file has a fault (4) (own)
abbrev pub HasNoSign : List ℕ → ℕ → Type 0
HasNoSign octets outcome =
    (outcome ≡ 2)
    ⊎ ((outcome ≡ 3) × (file_of_octets octets ≡ None))
    ⊎ ((outcome ≡ 4) × ((file : FileData) × (file_of_octets octets ≡ Some file) × (sign_of_file octets ≡ None)))

-- the number for a sign that isn't made (own)
abbrev pub why_unmade : SignFault → ℕ
why_unmade faults.Memory = 2
why_unmade faults.BadSize = 4
why_unmade faults.BadFont = 4
why_unmade faults.BadCell = 4
why_unmade faults.BadDefault = 4
why_unmade faults.BadLimit = 4
