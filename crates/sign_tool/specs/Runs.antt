-- What a run over a reader and a writer does.
use Rattle.std.specs.Prelude.{◌≡◌, ℕ, ◌+◌, ◌≤◌, Bool, false, List, [], ◌∷◌, ◌++◌, length, Option, None, Some, IfSome, Result, Ok, Err}
use Rattle.std.specs.Io.KnownBytes.{Consumes, Appends}
use Rattle.std.specs.declared.alloc.AllocError.{AllocError}
use Rattle.sign_tool.specs.declared.answer.LineAnswer.{LineAnswer}
use Rattle.sign_tool.specs.declared.answer.LineAnswer.TheVariants.{Text, BadLine}
use Rattle.tool_streams.specs.declared.fault.ToolFault.{ToolFault}
use Rattle.tool_streams.specs.declared.fault.ToolFault.TheVariants.{Read, Write, Memory}
use Rattle.tool_streams.specs.declared.lines.LineStart.{LineStart}
use Rattle.sign_tool.specs.declared.start.FilePart.{FilePart}
use Rattle.sign_tool.specs.declared.setup.Setup.{Setup}
use Rattle.sign_tool.specs.declared.start.Start.{Start}
use Rattle.sign_tool.specs.declared.tool.Mode.{Mode}
use Rattle.tool_streams.specs.Lines.{input_limit}
use Rattle.sign_tool.specs.Output.{Outcome, ended, outcome, output_of_whole}
use Rattle.sign_tool.specs.FileSetup.{setup_of_octets}
use Rattle.sign_tool.specs.Tool.{answers_of, outcome_of, output_so_far}

-- The line's answer is appended, or the line is bad and nothing is, or there is no memory; `behind` has the answers to all the
-- lines that come after this one (own).
abbrev pub AnswersLine :
    (List (List ℕ) → List (Option (List ℕ))) → (List (List ℕ) → List (Option (List ℕ))) → List ℕ → List ℕ → List ℕ
    → Result LineAnswer AllocError → Type 0
AnswersLine before behind line old new (Ok Text) =
    (text : List ℕ) × (new ≡ old ++ text) × ((lines : List (List ℕ)) → before (line ∷ lines) ≡ Some text ∷ behind lines)
AnswersLine before behind line old new (Ok BadLine) =
    (new ≡ old) × ((lines : List (List ℕ)) → (others : List (Option (List ℕ))) × (before (line ∷ lines) ≡ None ∷ others))
AnswersLine before behind line old new (Err refused) = Unit {0}

-- A run ends with no fault or with one (own).
abbrev pub fault_of : Result (Unit {0}) ToolFault → Option ToolFault
fault_of (Ok done) = None
fault_of (Err e) = Some e

-- What was sent is a front of the whole (own).
abbrev pub IsFront : List ℕ → List ℕ → Type 0
IsFront sent all = (unsent : List ℕ) × (all ≡ sent ++ unsent)

-- What was sent is the answers to some number of whole lines, the first of those that were taken (own).
abbrev pub IsOfLines : (List ℕ → List ℕ) → List ℕ → List ℕ → Type 0
IsOfLines so_far taken sent = (front : List ℕ) × IsFront front taken × (so_far front ≡ sent)

-- What was sent is the whole output of the input, with its fault; after a failed read it is the output of the whole
-- lines that were taken, after a failed write a front of the output, and if memory was refused such a front that is the
-- answers to some number of whole lines (own).
abbrev pub IsWritten : (List ℕ → Outcome) → (List ℕ → List ℕ) → Option (List ℕ) → List ℕ → List ℕ → Option ToolFault → Type 0
IsWritten outcomes so_far input taken sent (Some Read) = so_far taken ≡ sent
IsWritten outcomes so_far input taken sent (Some Write) = IfSome input (λ octets. IsFront sent (outcomes octets).output)
IsWritten outcomes so_far input taken sent (Some Memory) =
    IsOfLines so_far taken sent × IfSome input (λ octets. IsFront sent (outcomes octets).output)
IsWritten outcomes so_far input taken sent fault = IfSome input (λ octets. outcomes octets ≡ record { output = sent; fault = fault })

-- Some octets are taken, and the answers to some number of whole lines, the first of these octets, are written and no more (own).
abbrev pub WritesLines : (List ℕ → List ℕ) → Option (List ℕ) → Option (List ℕ) → Option (List ℕ) → Option (List ℕ) → Type 0
WritesLines so_far input input' output output' = (taken : List ℕ) × (front : List ℕ)
    × Consumes input input' taken × IsFront front taken × Appends output output' (so_far front)

-- A run takes some octets of its input and sends some, where inputs have these outcomes, the whole lines of what was
-- read have the output `so_far`, and at most `limit` octets are taken as lines (own).
pub record Runs (outcomes : List ℕ → Outcome) (so_far : List ℕ → List ℕ) (limit : ℕ) (input input' output output' : Option (List ℕ))
    (fault : Option ToolFault) : Type 0 where
  pub taken : List ℕ
  pub sent : List ℕ
  pub takes : Consumes input input' taken
  pub writes : Appends output output' sent
  pub most : length taken ≤ limit + 1
  pub written : IsWritten outcomes so_far input taken sent fault

-- ---- up to the sign

-- What a place says of the octets before it: how many more may be taken as lines, and that lines are no more than
-- octets (own).
abbrev pub IsLineStartAfter : List ℕ → LineStart → Type 0
IsLineStartAfter taken place = (length taken + place.left ≡ input_limit) × (place.number + place.left ≤ input_limit + 1)

-- The outcome of the lines after a sign, if there is one (own).
abbrev pub outcome_on : Mode → Result Setup ToolFault → LineStart → List ℕ → Outcome
outcome_on mode (Err fault) place rest = ended (Some fault)
outcome_on mode (Ok setup) place rest = outcome (answers_of mode setup) place.number place.left rest

-- The output of the whole lines after a sign, if there is one (own).
abbrev pub output_on : Mode → Result Setup ToolFault → LineStart → List ℕ → List ℕ
output_on mode (Err fault) place rest = []
output_on mode (Ok setup) place rest = output_of_whole (answers_of mode setup) place.number rest

-- Reading these octets yields this sign and position, or the fault that explains why there is no sign, and writes nothing (own).
pub record Leads (sample : Bool) (taken : List ℕ) (setup : Result Setup ToolFault) (place : LineStart) : Type 0 where
  pub place_is : IsLineStartAfter taken place
  pub whole : (mode : Mode) (rest : List ℕ) → outcome_of mode sample (taken ++ rest) ≡ outcome_on mode setup place rest
  pub so_far : (mode : Mode) (rest : List ℕ) → output_so_far mode sample (taken ++ rest) ≡ output_on mode setup place rest

-- Before the sign is there, a run ends with a fault, and has written nothing (own).
pub record Fails (sample : Bool) (input input' : Option (List ℕ)) (e : ToolFault) : Type 0 where
  pub taken : List ℕ
  pub takes : Consumes input input' taken
  pub most : length taken ≤ input_limit + 1
  pub written : (mode : Mode) → IsWritten (outcome_of mode sample) (output_so_far mode sample) input taken [] (Some e)

-- The octets of a sign file and the mark are taken (own).
abbrev pub TakesFile : Option (List ℕ) → Option (List ℕ) → Result FilePart ToolFault → Type 0
TakesFile input input' (Ok part) =
    (taken : List ℕ) × Consumes input input' taken × Leads false taken (setup_of_octets part.octets.items) part.place
TakesFile input input' (Err e) = Fails false input input' e

-- What stands before the lines is taken, and there is a sign (own).
abbrev pub Starts : Bool → Option (List ℕ) → Option (List ℕ) → Result Start ToolFault → Type 0
Starts sample input input' (Ok start) = (taken : List ℕ) × Consumes input input' taken × Leads sample taken (Ok start.setup) start.place
Starts sample input input' (Err e) = Fails sample input input' e
