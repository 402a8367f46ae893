-- What is told of a sign file.
use Rattle.std.specs.Prelude.{◌≡◌, ◌⊎◌, ◌↔◌, ℕ, ◌≤◌, ◌==◌, true, List, [], ◌++◌, length, Option, Result, Ok, Err}
use Rattle.std.specs.Io.KnownBytes.{Appends, Consumes, IsAtEnd}
use Rattle.sign_report.specs.Permanents.{is_sound}
use Rattle.sign_report.specs.Setup.{is_taken, sign_taken}
use Rattle.sign_words.specs.Told.{IsTold}
use Rattle.sign_words.specs.declared.findings.Finding.{Finding}
use Rattle.sign_words.specs.declared.findings.Findings.{Findings}
use Rattle.sign_words.specs.declared.view.SignView.{SignView}
use Rattle.tool_streams.specs.declared.fault.ToolFault.{ToolFault}
use Rattle.tool_streams.specs.declared.fault.ToolFault.TheVariants.{Write}
use Rattle.file_aids.specs.declared.sign.SignFound.{SignFound}
use Rattle.tool_streams.specs.Lines.{input_limit}
use Rattle.tool_streams.specs.Streams.{IsReadFault}

-- Octets are told as this text, in which these warnings stand. It has a fault exactly if they are no sign file that is taken (own).
pub record IsReport (view : SignView) (octets text : List ℕ) (warnings : List Finding) : Type 0 where
  pub found : Findings
  pub exact : found.faults.items ≡ [] ↔ is_taken octets ≡ true
  pub told : IsTold view (sign_taken octets) found text
  pub warned : warnings ≡ found.warnings.items

-- The whole input is taken as a sign file, and its report is written. The answer is whether the file is taken and its sign accepts each
-- of its permanent messages, and whether the report has no warning. After the fault `Write` a beginning of the report was written. Or the
-- input isn't read whole, or memory is refused, and nothing is written (own).
abbrev pub TellsSign : SignView → Option (List ℕ) → Option (List ℕ) → Option (List ℕ) → Option (List ℕ)
    → Result SignFound ToolFault → Type 0
TellsSign view old new contents contents' (Ok found) = (octets text : List ℕ) × (warnings : List Finding)
    × Consumes old new octets × IsAtEnd new × (length octets ≤ input_limit) × IsReport view octets text warnings
    × (found.is_sound ≡ is_sound octets) × (found.is_clean ≡ (length warnings == 0)) × Appends contents contents' text
TellsSign view old new contents contents' (Err e) =
    (Appends contents contents' [] × IsReadFault old new e)
    ⊎ ((e ≡ Write) × ((octets sent unsent : List ℕ) × (warnings : List Finding) × Consumes old new octets × IsAtEnd new
    × IsReport view octets (sent ++ unsent) warnings × Appends contents contents' sent))
