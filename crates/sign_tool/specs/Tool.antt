-- What the tool does for an input.
use Rattle.std.specs.Prelude.{ℕ, Bool, true, false, List, Option, Some, map}
use Rattle.sign_control.specs.State.{started}
use Rattle.tool_streams.specs.declared.fault.ToolFault.{ToolFault}
use Rattle.tool_streams.specs.declared.fault.ToolFault.TheVariants.{Read, Write, Memory}
use Rattle.sign_tool.specs.declared.tool.Mode.{Mode}
use Rattle.sign_tool.specs.declared.tool.Mode.TheVariants.{Check, Show, Run}
use Rattle.sign_tool.specs.Frame.{show_answer}
use Rattle.tool_streams.specs.Lines.{input_limit}
use Rattle.sign_tool.specs.Output.{Outcome, outcome, outcome_of_file, output_of_whole, output_of_whole_file}
use Rattle.sign_tool.specs.Reply.{check_answer}
use Rattle.sign_tool.specs.Script.{replies}
use Rattle.sign_tool.specs.SampleSetup.{sample_setup}
use Rattle.sign_tool.specs.declared.setup.Setup.{Setup}

-- The answers to these lines by what a run stands on, None at a bad line (own).
abbrev pub answers_of : Mode → Setup → List (List ℕ) → List (Option (List ℕ))
answers_of Check setup lines = map (λ line. Some (check_answer setup.sign line)) lines
answers_of (Show colour clock) setup lines = map (λ line. Some (show_answer setup.sign colour clock line)) lines
answers_of Run setup lines = replies setup.sign (started setup.sign.defaults setup.store) lines

-- The outcome of an input: with the sample sign it is lines alone, and else a sign file, the mark and lines (own).
abbrev pub outcome_of : Mode → Bool → List ℕ → Outcome
outcome_of mode true input = outcome (answers_of mode sample_setup) 1 input_limit input
outcome_of mode false input = outcome_of_file (answers_of mode) input_limit input

-- The output of the whole lines of what was read, whatever follows them (own).
abbrev pub output_so_far : Mode → Bool → List ℕ → List ℕ
output_so_far mode true octets = output_of_whole (answers_of mode sample_setup) 1 octets
output_so_far mode false octets = output_of_whole_file (answers_of mode) octets

-- The end of a run comes from its input, and not from a reader, a writer or memory that failed (own).
abbrev pub IsOfInput : Option ToolFault → Type 0
IsOfInput (Some Read) = ⊥
IsOfInput (Some Write) = ⊥
IsOfInput (Some Memory) = ⊥
IsOfInput fault = Unit {0}
