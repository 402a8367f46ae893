-- The octets of an input that are read in blocks.
use Rattle.std.specs.Prelude.{◌≡◌, ℕ, ◌+◌, ◌<◌, ◌≤◌, Bool, true, false, List, [], ◌∷◌, ◌++◌, length, take, drop, Option, None, Some, Result, Ok, Err}
use Rattle.std.specs.Io.KnownBytes.{Consumes, IsAtEnd, Keeps, prepend_known}
use Rattle.tool_streams.specs.declared.fault.ToolFault.{ToolFault}
use Rattle.tool_streams.specs.declared.fault.ToolFault.TheVariants as faults
use Rattle.tool_streams.specs.declared.lines.NextLine.TheVariants as next
use Rattle.tool_streams.specs.Lines.{IsOneLine}
use Rattle.tool_streams.specs.Streams.{TakesLine}

-- A read adds the octets that it takes to those that wait, and takes none only at the end; a failed read takes none (own).
abbrev pub ReadsMore : Option (List ℕ) → Option (List ℕ) → List ℕ → List ℕ → ℕ → Result ℕ ToolFault → Type 0
ReadsMore old new held held' most (Ok count) = (more : List ℕ)
    × Consumes old new more × (held' ≡ held ++ more) × (length more ≡ count) × (count ≤ most) × (count ≡ 0 → IsAtEnd new)
ReadsMore old new held held' most (Err e) = (e ≡ faults.Read) × Keeps old new

-- ---- the first line

-- The first line ends at this place, or there is no line feed (own).
abbrev pub IsLineEnd : List ℕ → Option ℕ → Type 0
IsLineEnd octets None = IsOneLine octets
IsLineEnd octets (Some end) = (end < length octets) × IsOneLine (take end octets) × (octets ≡ take end octets ++ 10 ∷ drop (end + 1) octets)

-- Octets begin with this line and its line feed, and the others follow (own).
pub record Begins (octets line others : List ℕ) : Type 0 where
  pub stands : octets ≡ line ++ 10 ∷ others
  pub one : IsOneLine line

-- ---- no whole line

-- A run ends with this fault before its next line, which has this number (own).
abbrev pub EndsWith : Option (List ℕ) → Option (List ℕ) → ℕ → ℕ → ToolFault → Type 0
EndsWith old new number left (faults.LineTooLong line) = (line ≡ number) × TakesLine old new left left [] (Ok next.TooLong)
EndsWith old new number left (faults.BadLine line) = (line ≡ number) × TakesLine old new left left [] (Ok next.Unfinished)
EndsWith old new number left faults.InputTooLong = TakesLine old new left left [] (Ok next.InputTooLong)
EndsWith old new number left e = TakesLine old new left left [] (Err e)

-- There are more octets than those that were held, or the run ends before its next line, well or with a fault (own).
abbrev pub ReadsOn : Option (List ℕ) → Option (List ℕ) → ℕ → ℕ → List ℕ → List ℕ → Result Bool ToolFault → Type 0
ReadsOn old new number left held held' (Ok true) = (more : List ℕ)
    × Consumes old new more × (held' ≡ held ++ more) × (0 < length more) × (length held' ≤ left + 1)
ReadsOn old new number left held held' (Ok false) = TakesLine (prepend_known held old) new left left [] (Ok next.End)
ReadsOn old new number left held held' (Err e) = EndsWith (prepend_known held old) new number left e

-- Where the input ends within a line, its octets are held, or the first 8,301 of them at least (own).
abbrev pub HoldsUnfinished : Option (List ℕ) → Option (List ℕ) → ℕ → List ℕ → ToolFault → Type 0
HoldsUnfinished old new left held (faults.BadLine line) = (taken : List ℕ)
    × Consumes old new taken × IsAtEnd new × IsOneLine taken × (length taken ≤ left) × (0 < length taken)
    × (take 8301 held ≡ take 8301 taken)
HoldsUnfinished old new left held e = Unit {0}
