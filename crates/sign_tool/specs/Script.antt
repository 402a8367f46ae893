-- What a script is answered.
use Rattle.std.specs.Prelude.{◌≡◌, ℕ, List, [], ◌∷◌, ◌++◌, map, Option, None, Some, IsSome, IsSomeAnd, Result, Ok, Err}
use Rattle.std.specs.List.{AllByRecursion, flat_map}
use Rattle.std.specs.Option.{option_map}
use Rattle.std.specs.declared.alloc.AllocError.{AllocError}
use Rattle.sign_font.specs.Defaults.{under}
use Rattle.sign_font.specs.Sign.{SignData}
use Rattle.multi_meaning.specs.Times.{shown}
use Rattle.sign_control.specs.declared.command.Command.{Command}
use Rattle.sign_control.specs.Report.{report_of, row_shown}
use Rattle.sign_control.specs.Run.{run}
use Rattle.sign_control.specs.State.{StateData, Stepped}
use Rattle.sign_control.specs.Step.{step}
use Rattle.sign_script.specs.declared.ask.Ask.{Ask}
use Rattle.sign_script.specs.declared.ask.Ask.TheVariants as ask
use Rattle.sign_script.specs.Asks.{ask_of}
use Rattle.sign_tool.specs.declared.answer.LineAnswer.{LineAnswer}
use Rattle.sign_tool.specs.declared.answer.LineAnswer.TheVariants.{Text, BadLine}
use Rattle.sign_tool.specs.Frame.{frame_text}
use Rattle.sign_tool.specs.Replies.{defaults_text, reply_text, report_text, row_reply}

-- The state of the controller after a line, and the text of the line's reply (own).
pub record Told : Type 0 where
  pub state : StateData
  pub text : List ℕ

-- A command's new state, with the text of its reply (own).
abbrev pub told_step : Stepped → Told
told_step stepped = record { state = stepped.state; text = reply_text stepped.reply }

-- The frame of a colour of what the display shows at its clock: its own text, by the defaults with which it is shown (own).
abbrev pub display_text : SignData → StateData → ℕ → List ℕ
display_text sign state colour =
    let judge = under sign state.display.defaults in
    frame_text judge state.text colour (shown judge state.text state.display.clock)

-- What is asked for makes this of a state. A command steps the controller; all else only tells of it (own).
abbrev pub told : SignData → StateData → Ask → Told
told sign state ask.Nothing = record { state = state; text = [] }
told sign state (ask.Command command) = told_step (step sign state command)
told sign state (ask.Frame colour) = record { state = state; text = display_text sign state colour }
told sign state (ask.Row message) = record { state = state; text = row_reply message (row_shown state message) }
told sign state ask.Report = record { state = state; text = report_text (report_of state) }
told sign state ask.Defaults = record { state = state; text = defaults_text state.defaults }

-- The reply to a line and those to the lines after it, which find the state that it leaves; a bad line has none (own).
abbrev pub replied : Option Told → (StateData → List (Option (List ℕ))) → List (Option (List ℕ))
replied None others = None ∷ []
replied (Some t) others = Some t.text ∷ others t.state

-- The replies to a script's lines, from this state on, up to the first bad line: each line asks for one thing, and the
-- controller's steps are those of the commands among them, in order (own).
unfoldable pub replies : SignData → StateData → List (List ℕ) → List (Option (List ℕ))
replies sign state [] = []
replies sign state (line ∷ lines) = replied (option_map (told sign state) (ask_of line)) (λ next. replies sign next lines)

-- What is asked for is answered: the reply is appended, and the state is the one that it leaves. A line that asks for
-- none of these things is bad, and appends nothing (own).
abbrev pub AnswersAsk : SignData → StateData → Option Ask → List ℕ → List ℕ → StateData → Result LineAnswer AllocError → Type 0
AnswersAsk sign state asked old new next (Ok Text) =
    IsSomeAnd asked (λ a. (new ≡ old ++ (told sign state a).text) × (next ≡ (told sign state a).state))
AnswersAsk sign state asked old new next (Ok BadLine) = (asked ≡ None) × (new ≡ old)
AnswersAsk sign state asked old new next (Err refused) = Unit {0}

-- The command that a line spells, if it spells one (own).
abbrev pub command_asked : Option Ask → List Command
command_asked (Some (ask.Command command)) = command ∷ []
command_asked asked = []

-- The commands that lines spell, in order (own).
abbrev pub commands_of : List (List ℕ) → List Command
commands_of lines = flat_map (λ line. command_asked (ask_of line)) lines

-- Each line is one of a script (own).
abbrev pub IsScript : List (List ℕ) → Type 0
IsScript lines = AllByRecursion (λ line. IsSome (ask_of line)) lines

-- The lines after some lines of a script find the state that the controller's run makes of the commands among these (own).
abbrev pub CarriesOn : Type 0
CarriesOn = (sign : SignData) (state : StateData) (before after : List (List ℕ)) → IsScript before
    → replies sign state (before ++ after) ≡ replies sign state before ++ replies sign (run sign state (commands_of before)).state after

-- The replies to lines that spell commands are the texts of the replies of the controller's run of these commands (own).
abbrev pub RepliesAsRun : Type 0
RepliesAsRun =
    (sign : SignData) (state : StateData) (commands : List Command) (lines : List (List ℕ))
    → map ask_of lines ≡ map (λ c. Some (ask.Command c)) commands
    → replies sign state lines ≡ map (λ r. Some (reply_text r)) (run sign state commands).replies
