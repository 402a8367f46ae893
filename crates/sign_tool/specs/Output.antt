-- What is written for an input, and how it ends.
use Rattle.std.specs.Prelude.{ℕ, ◌+◌, Bool, true, false, List, [], ◌∷◌, ◌++◌, length, take, map, nat_lt, if◌then◌else◌, Option, None, Some, Result, Ok, Err}
use Rattle.tool_streams.specs.declared.fault.ToolFault.{ToolFault}
use Rattle.tool_streams.specs.declared.fault.ToolFault.TheVariants.{LineTooLong, BadLine, InputTooLong, BadSign}
use Rattle.tool_streams.specs.Lines.{cut, octets_of, parted, text_of}
use Rattle.sign_tool.specs.FileSetup.{setup_of_octets}
use Rattle.sign_tool.specs.declared.setup.Setup.{Setup}

-- An input has an output, and ends well or with a fault (own).
pub record Outcome : Type 0 where
  pub output : List ℕ
  pub fault : Option ToolFault

-- The input ends here, and nothing more is written (own).
abbrev pub ended : Option ToolFault → Outcome
ended fault = record { output = []; fault = fault }

-- This text is written before what follows (own).
abbrev pub after : List ℕ → Outcome → Outcome
after text outcome = record { output = text ++ outcome.output; fault = outcome.fault }

-- ---- lines that are answered

-- The first answer is written before what the others come to, and a line with no answer is bad (own).
abbrev pub after_first : ℕ → List (Option (List ℕ)) → (List (Option (List ℕ)) → Outcome) → Outcome
after_first number [] others = ended (Some (BadLine number))
after_first number (None ∷ answers) others = ended (Some (BadLine number))
after_first number ((Some text) ∷ answers) others = after text (others answers)

-- These lines, of which the first has this number, are answered up to the first fault, and after the last
-- comes the fault of the end (own).
unfoldable pub answered : ℕ → List (List ℕ) → List (Option (List ℕ)) → (ℕ → Option ToolFault) → Outcome
answered number [] answers at_end = ended (at_end number)
answered number (line ∷ lines) answers at_end =
    if nat_lt 8300 (length (text_of line)) then ended (Some (LineTooLong number))
    else after_first number answers (λ others. answered (number + 1) lines others at_end)

-- Behind the whole lines an input is too long, or is at its end, or has an unfinished line, which is bad (own).
abbrev pub fault_at_end : Bool → List ℕ → ℕ → Option ToolFault
fault_at_end true rest number = Some InputTooLong
fault_at_end false [] number = None
fault_at_end false (c ∷ rest) number = Some (BadLine number)

-- The outcome of an input whose first line has this number, of which at most `limit` octets are taken as
-- lines, and whose lines are answered by `answers` (own).
unfoldable pub outcome : (List (List ℕ) → List (Option (List ℕ))) → ℕ → ℕ → List ℕ → Outcome
outcome answers number limit input =
    let parts = cut (take limit input) in
    answered number parts.whole (answers (map text_of parts.whole)) (fault_at_end (nat_lt limit (length input)) parts.rest)

-- The output of the whole lines of what was read, of which the first has this number, whatever follows
-- them (own).
unfoldable pub output_of_whole : (List (List ℕ) → List (Option (List ℕ))) → ℕ → List ℕ → List ℕ
output_of_whole answers number octets =
    let parts = cut octets in
    (answered number parts.whole (answers (map text_of parts.whole)) (λ next. None)).output

-- ---- a sign file and the lines after it

-- The number of the first line that is too long, if one is, where the first line has this number (own).
abbrev pub first_long : ℕ → List (List ℕ) → Option ℕ
first_long number [] = None
first_long number (line ∷ lines) =
    if nat_lt 8300 (length (text_of line)) then Some number
    else first_long (number + 1) lines

-- A line of the sign file that is too long is a fault, and comes before all that follows the file (own).
abbrev pub unless_long : Option ℕ → Outcome → Outcome
unless_long (Some number) others = ended (Some (LineTooLong number))
unless_long None others = others

-- The lines after a sign file, of which the first has this number, are answered by what it sets up, if it does (own).
abbrev pub answered_on :
    (Setup → List (List ℕ) → List (Option (List ℕ))) → Result Setup ToolFault → ℕ → List (List ℕ) → (ℕ → Option ToolFault) → Outcome
answered_on answers (Err fault) number lines at_end = ended (Some fault)
answered_on answers (Ok setup) number lines at_end = answered number lines (answers setup (map text_of lines)) at_end

-- Without a mark an input has the fault `unmarked`; else its sign file's lines and the mark are counted, and the sign
-- comes before the lines after it (own).
abbrev pub behind_file :
    (Setup → List (List ℕ) → List (Option (List ℕ))) → List (List ℕ) → Option (List (List ℕ)) → ToolFault → (ℕ → Option ToolFault) → Outcome
behind_file answers file None unmarked at_end = ended (Some unmarked)
behind_file answers file (Some lines) unmarked at_end =
    answered_on answers (setup_of_octets (octets_of file)) (length file + 2) lines at_end

-- The outcome of these lines, which begin with a sign file, and of what follows the last (own).
unfoldable pub filed : (Setup → List (List ℕ) → List (Option (List ℕ))) → List (List ℕ) → ToolFault → (ℕ → Option ToolFault) → Outcome
filed answers lines unmarked at_end =
    let parts = parted lines in
    unless_long (first_long 1 parts.file) (behind_file answers parts.file parts.behind unmarked at_end)

-- An input without a mark is too long, or has no sign (own).
abbrev pub fault_unmarked : Bool → ToolFault
fault_unmarked true = InputTooLong
fault_unmarked false = BadSign

-- The outcome of an input that begins with a sign file, of which at most `limit` octets are taken as lines (own).
unfoldable pub outcome_of_file : (Setup → List (List ℕ) → List (Option (List ℕ))) → ℕ → List ℕ → Outcome
outcome_of_file answers limit input =
    let parts = cut (take limit input) in
    let is_longer = nat_lt limit (length input) in
    filed answers parts.whole (fault_unmarked is_longer) (fault_at_end is_longer parts.rest)

-- The output of the whole lines of what was read, which begin with a sign file, whatever follows them (own).
unfoldable pub output_of_whole_file : (Setup → List (List ℕ) → List (Option (List ℕ))) → List ℕ → List ℕ
output_of_whole_file answers octets = (filed answers (cut octets).whole BadSign (λ next. None)).output
