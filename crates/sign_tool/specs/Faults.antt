-- The faults of a run that has no sign.
use Rattle.sign_font.specs.Fault.{code_of}
use Rattle.sign_font.specs.declared.fault.SignFault.{SignFault}
use Rattle.sign_font.specs.declared.fault.SignFault.TheVariants as sign_faults
use Rattle.message_store.specs.declared.fault.StoreMade.{StoreMade}
use Rattle.message_store.specs.declared.fault.StoreMade.TheVariants as store_faults
use Rattle.sign_file.specs.declared.fault.FileFault.{FileFault}
use Rattle.sign_file.specs.declared.fault.FileFault.TheVariants as file_faults
use Rattle.tool_streams.specs.declared.fault.ToolFault.{ToolFault}
use Rattle.tool_streams.specs.declared.fault.ToolFault.TheVariants as tool_faults
use Rattle.tool_streams.specs.declared.fault.ToolFault.TheVariants.{BadSign, SignRefused}

-- The fault of a run whose sign file isn't read (own).
abbrev pub unread : FileFault → ToolFault
unread file_faults.Bad = BadSign
unread file_faults.Memory = tool_faults.Memory

-- The fault of a run whose sign is refused, or has no memory (own).
abbrev pub refusal : SignFault → ToolFault
refusal sign_faults.Memory = tool_faults.Memory
refusal fault = SignRefused (code_of fault)

-- The fault of a run whose store isn't made (own).
abbrev pub unmade : StoreMade → ToolFault
unmade store_faults.BadLimit = SignRefused 5
unmade store_faults.Memory = tool_faults.Memory
