-- What one step over a reader or a writer does.
use Rattle.std.specs.Prelude.{◌≡◌, ℕ, ◌+◌, ◌<◌, ◌≤◌, List, [], ◌∷◌, ◌++◌, length, Option, None, Some, Result, Ok, Err, take, codes}
use Rattle.std.specs.Io.KnownBytes.{Consumes, Keeps, Appends, IsAtEnd}
use Rattle.tool_streams.specs.declared.fault.ToolFault.{ToolFault}
use Rattle.tool_streams.specs.declared.fault.ToolFault.TheVariants as faults
use Rattle.tool_streams.specs.declared.lines.NextLine.{NextLine}
use Rattle.tool_streams.specs.declared.lines.NextLine.TheVariants.{Line, TooLong, Unfinished, End, InputTooLong}
use Rattle.tool_streams.specs.Lines.{IsOneLine, input_limit, text_of}

-- One octet is taken, or none at the end, or none where the reader fails (own).
abbrev pub TakesOctet : Option (List ℕ) → Option (List ℕ) → Result (Option ℕ) ToolFault → Type 0
TakesOctet old new (Ok None) = Consumes old new [] × IsAtEnd new
TakesOctet old new (Ok (Some octet)) = Consumes old new (octet ∷ [])
TakesOctet old new (Err e) = (e ≡ faults.Read) × Keeps old new

-- A reader fails within a line, and otherwise the only fault is that memory was refused (own).
abbrev pub FailsAfter : List ℕ → ToolFault → Type 0
FailsAfter taken faults.Read = IsOneLine taken
FailsAfter taken faults.Memory = Unit {0}
FailsAfter taken e = e ≡ faults.Memory

-- This much is taken to find the next line, `line`, where `left` more octets may be taken as lines (own).
abbrev pub TakesLine : Option (List ℕ) → Option (List ℕ) → ℕ → ℕ → List ℕ → Result NextLine ToolFault → Type 0
TakesLine old new left left' line (Ok Line) =
    Consumes old new (line ++ 10 ∷ []) × IsOneLine line × (length line + 1 + left' ≡ left) × (length (text_of line) ≤ 8300)
TakesLine old new left left' line (Ok TooLong) = (taken : List ℕ)
    × Consumes old new (taken ++ 10 ∷ []) × IsOneLine taken × (length taken + 1 ≤ left) × (8300 < length (text_of taken))
TakesLine old new left left' line (Ok Unfinished) = (taken : List ℕ)
    × Consumes old new taken × IsAtEnd new × IsOneLine taken × (length taken ≤ left) × (0 < length taken)
TakesLine old new left left' line (Ok End) = Consumes old new [] × IsAtEnd new
TakesLine old new left left' line (Ok InputTooLong) = (taken : List ℕ) × (octet : ℕ)
    × Consumes old new (taken ++ octet ∷ []) × IsOneLine taken × (length taken ≡ left)
TakesLine old new left left' line (Err e) = (taken : List ℕ)
    × Consumes old new taken × (length taken ≤ left) × FailsAfter taken e

-- Where the input ends within a line, the first 8,301 octets of that line are kept (own).
abbrev pub KeepsUnfinished : Option (List ℕ) → Option (List ℕ) → ℕ → List ℕ → Result NextLine ToolFault → Type 0
KeepsUnfinished old new left line (Ok Unfinished) = (taken : List ℕ)
    × Consumes old new taken × IsAtEnd new × IsOneLine taken × (length taken ≤ left) × (0 < length taken) × (line ≡ take 8301 taken)
KeepsUnfinished old new left line result = Unit {0}

-- A fault at a line: the line with this number, where `left` more octets may be taken as lines, is too long, or is cut off by the end
-- of the input, or the input goes on past its limit; or the reader or the writer failed, or memory was refused (own).
abbrev pub IsLineFault : ℕ → ℕ → List ℕ → Option (List ℕ) → ToolFault → Type 0
IsLineFault number left more input (faults.LineTooLong line) =
    (line ≡ number)
    × ((taken : List ℕ) × (more ≡ taken ++ 10 ∷ []) × IsOneLine taken × (length more ≤ left) × (8300 < length (text_of taken)))
IsLineFault number left more input (faults.BadLine line) =
    (line ≡ number) × IsOneLine more × (0 < length more) × (length more ≤ left) × IsAtEnd input
IsLineFault number left more input faults.InputTooLong =
    (taken : List ℕ) × (octet : ℕ) × (more ≡ taken ++ octet ∷ []) × IsOneLine taken × (length taken ≡ left)
IsLineFault number left more input faults.Read = IsOneLine more
IsLineFault number left more input faults.Write = Unit {0}
IsLineFault number left more input faults.Memory = Unit {0}
IsLineFault number left more input e = ⊥

-- Why a whole input isn't read of which these octets are: there are more than an input may have, or the reader failed, or memory was
-- refused (own).
abbrev pub StopsAfter : List ℕ → ToolFault → Type 0
StopsAfter octets faults.InputTooLong = input_limit < length octets
StopsAfter octets faults.Read = Unit {0}
StopsAfter octets faults.Memory = Unit {0}
StopsAfter octets e = ⊥

-- A fault where a whole input is read: no more than 4,096 octets are taken past those that an input may have (own).
abbrev pub IsReadFault : Option (List ℕ) → Option (List ℕ) → ToolFault → Type 0
IsReadFault old new fault =
    (octets : List ℕ) × Consumes old new octets × (length octets ≤ input_limit + 4096) × StopsAfter octets fault

-- A sign file is read to its end, and octets are those of the file, a line feed that ends its last line, and a line with the mark (own).
abbrev pub IsSignPart : Option (List ℕ) → Option (List ℕ) → List ℕ → Type 0
IsSignPart old new front =
    (octets : List ℕ) × Consumes old new octets × IsAtEnd new × (length octets ≤ input_limit) × (front ≡ octets ++ codes "\n%%\n")

-- A writer takes all of the octets, or where it fails some of them, from the front (own).
abbrev pub WritesWhole : Option (List ℕ) → Option (List ℕ) → List ℕ → Result (Unit {0}) ToolFault → Type 0
WritesWhole old new octets (Ok done) = Appends old new octets
WritesWhole old new octets (Err e) =
    (e ≡ faults.Write) × (sent : List ℕ) × (unsent : List ℕ) × Appends old new sent × (sent ++ unsent ≡ octets)
