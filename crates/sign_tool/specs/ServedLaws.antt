-- The laws of a served sign: what changes it, and what its replies rest on.
use Rattle.std.specs.Prelude.{◌≡◌, ◌≢◌, ℕ, false, List, [], ◌∷◌, ◌++◌, fold, length, map, nat_lt, if◌then◌else◌, Option, None, Some, IsSomeAnd, Result, Ok, Err}
use Rattle.std.specs.List.{AllByRecursion, flat_map}
use Rattle.sign_font.specs.Sign.{SignData}
use Rattle.saved_octets.specs.declared.fault.StateFault.{StateFault}
use Rattle.sign_control.specs.declared.command.Command.{Command}
use Rattle.sign_control.specs.Run.{run}
use Rattle.sign_control.specs.Saved.{restored}
use Rattle.sign_control.specs.State.{StateData}
use Rattle.sign_control.specs.Step.{step}
use Rattle.sign_script.specs.Asks.{ask_of}
use Rattle.sign_script.specs.Fields.{octets_of}
use Rattle.sign_script.specs.declared.ask.Ask.TheVariants as ask
use Rattle.sign_script.specs.declared.question.Question.{Question}
use Rattle.sign_script.specs.declared.question.Question.TheVariants as question
use Rattle.sign_script.specs.Questions.{question_of}
use Rattle.sign_tool.specs.Script.{command_asked, replies}
use Rattle.sign_tool.specs.Served.{served}

-- What changes a sign: a command, or octets that restore a state (own).
pub data Act : Type 0 where
  Does : Command → Act
  Restores : List ℕ → Act

-- What octets restore, or the state as it is if they are refused (own).
abbrev pub or_kept : StateData → Result StateData StateFault → StateData
or_kept state (Ok new) = new
or_kept state (Err fault) = state

-- What is made of a state (own).
abbrev pub acted : SignData → StateData → Act → StateData
acted sign state (Does command) = (step sign state command).state
acted sign state (Restores octets) = or_kept state (restored sign state.store octets)

-- What octets restore, if there are any (own).
abbrev pub restoring : Option (List ℕ) → List Act
restoring None = []
restoring (Some octets) = Restores octets ∷ []

-- What a question changes, if it changes anything (own).
abbrev pub acts_of : Option Question → List Act
acts_of (Some (question.Script ask)) = map (λ command. Does command) (command_asked (Some ask))
acts_of (Some (question.Restore digits)) = restoring (octets_of digits.now)
acts_of asked = []

-- What a line of a served sign spells that changes it, if it spells anything such (own).
abbrev pub line_acts : List ℕ → List Act
line_acts line = if nat_lt 8300 (length line) then [] else acts_of (question_of line)

-- The same of lines, in order (own).
abbrev pub served_acts : List (List ℕ) → List Act
served_acts lines = flat_map line_acts lines

-- Each line has one reply (own).
abbrev pub OneReplyEach : Type 0
OneReplyEach = (sign : SignData) (state : StateData) (lines : List (List ℕ)) → length (served sign state lines) ≡ length lines

-- The lines after some lines find the state that is made by the commands which these spell and the states which they restore (own).
abbrev pub ServesOn : Type 0
ServesOn = (sign : SignData) (state : StateData) (before after : List (List ℕ))
    → served sign state (before ++ after) ≡ served sign state before ++ served sign (fold (acted sign) state (served_acts before)) after

-- Commands alone make the state of the controller's run of them (own).
abbrev pub CommandsRun : Type 0
CommandsRun = (sign : SignData) (state : StateData) (commands : List Command)
    → fold (acted sign) state (map (λ command. Does command) commands) ≡ (run sign state commands).state

-- A line that a script and a served sign answer alike: it has at most 8,300 octets, and spells something that a script asks for (own).
abbrev pub IsAskedAlike : List ℕ → Type 0
IsAskedAlike line = (nat_lt 8300 (length line) ≡ false) × IsSomeAnd (ask_of line) (λ asked. asked ≢ ask.Nothing)

-- The replies of a served sign to the lines of a script are those of the script (own).
abbrev pub ServesAsRuns : Type 0
ServesAsRuns = (sign : SignData) (state : StateData) (lines : List (List ℕ)) → AllByRecursion IsAskedAlike lines
    → replies sign state lines ≡ map (λ text. Some text) (served sign state lines)
