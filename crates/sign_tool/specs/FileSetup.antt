-- What a sign file sets up for a run, or the fault of a run for which it sets up nothing.
use Rattle.std.specs.Prelude.{ℕ, List, if◌then◌else◌, Option, None, Some, Result, Ok, Err}
use Rattle.sign_font.specs.Fault.{code_of}
use Rattle.sign_font.specs.Limits.{first_fault}
use Rattle.sign_font.specs.declared.fault.SignFault.{SignFault}
use Rattle.message_store.specs.Limits.{can_be_made, made}
use Rattle.sign_file.specs.SignFile.{FileData, file_of_octets}
use Rattle.tool_streams.specs.declared.fault.ToolFault.{ToolFault}
use Rattle.tool_streams.specs.declared.fault.ToolFault.TheVariants.{BadSign, SignRefused}
use Rattle.sign_tool.specs.declared.setup.Setup.{Setup}

-- A sign and its message store, in which no slot is used; limits that no store has are fault 5, as those of the sign's
-- pages are (own).
abbrev pub with_store : FileData → Result Setup ToolFault
with_store file =
    if can_be_made file.limits file.permanents then Ok (record { sign = file.sign; store = made file.limits file.permanents })
    else Err (SignRefused 5)

-- A sign without a fault has its store; else the fault is the number of the sign's first one (own).
abbrev pub unless_refused : FileData → Option SignFault → Result Setup ToolFault
unless_refused file None = with_store file
unless_refused file (Some fault) = Err (SignRefused (code_of fault))

-- What a file sets up, which is judged when all keys are read, the sign first (own).
abbrev pub judged : Option FileData → Result Setup ToolFault
judged None = Err BadSign
judged (Some file) = unless_refused file (first_fault file.sign)

-- What the sign file that these octets are sets up, or why it sets up nothing (own).
unfoldable pub setup_of_octets : List ℕ → Result Setup ToolFault
setup_of_octets octets = judged (file_of_octets octets)
