-- The replies to a script, line by line.
use Rattle.std.proofs.Common.{◌≡◌, ℕ, List, [], ◌∷◌, ◌++◌, map, Option, Some, None, IsSome, Result, Ok, Err, refl, sym, ap, ◌∙◌, subst}
use Rattle.std.specs.declared.alloc.AllocError.{AllocError}
use Rattle.sign_font.specs.Sign.{SignData}
use Rattle.sign_control.specs.declared.command.Command.{Command}
use Rattle.sign_control.specs.Run.{run}
use Rattle.sign_control.specs.State.{StateData, started}
use Rattle.sign_control.specs.Step.{step}
use Rattle.sign_script.specs.declared.ask.Ask.{Ask}
use Rattle.sign_script.specs.declared.ask.Ask.TheVariants as ask
use Rattle.sign_script.specs.Asks.{ask_of}
use Rattle.sign_tool.specs.declared.answer.LineAnswer.{LineAnswer}
use Rattle.sign_tool.specs.declared.answer.LineAnswer.TheVariants.{Text, BadLine}
use Rattle.tool_streams.specs.declared.fault.ToolFault.{ToolFault}
use Rattle.sign_tool.specs.declared.setup.Setup.{Setup}
use Rattle.sign_tool.specs.declared.tool.Mode.{Mode}
use Rattle.sign_tool.specs.declared.tool.Mode.TheVariants.{Run}
use Rattle.sign_tool.specs.Output.{outcome, output_of_whole}
use Rattle.sign_tool.specs.Replies.{reply_text}
use Rattle.sign_tool.specs.Runs.{AnswersLine, Runs}
use Rattle.sign_tool.specs.Script.{AnswersAsk, CarriesOn, RepliesAsRun, command_asked, commands_of, replies, told}
use Rattle.sign_tool.specs.Tool.{answers_of}

-- a line that asks for something is answered, and the lines after it find the state that it leaves
pub replies_told : (sign : SignData) (state : StateData) (line : List ℕ) (a : Ask) (lines : List (List ℕ)) → ask_of line ≡ Some a
    → replies sign state (line ∷ lines) ≡ Some ((told sign state a).text) ∷ replies sign ((told sign state a).state) lines
unfolding replies
replies_told sign state line a lines asks = rw asks refl

-- a bad line ends the replies
pub replies_bad : (sign : SignData) (state : StateData) (line : List ℕ) (lines : List (List ℕ)) → ask_of line ≡ None → replies sign state (line ∷ lines) ≡ None ∷ []
unfolding replies
replies_bad sign state line lines asks = rw asks refl

-- what answers what a line asks for answers the line
pub answers_line : (sign : SignData) (state next : StateData) (line old new : List ℕ) (asked : Option Ask) (result : Result LineAnswer AllocError) → ask_of line ≡ asked
    → AnswersAsk sign state asked old new next result → AnswersLine (replies sign state) (replies sign next) line old new result
answers_line sign state next line old new (Some a) (Ok Text) asks answers = (
  (told sign state a).text,
  answers.0,
  λ lines. replies_told sign state line a lines asks ∙ ap (λ (s : StateData). Some ((told sign state a).text) ∷ replies sign s lines) (sym answers.1),
)
answers_line sign state next line old new None (Ok Text) asks answers = absurd answers
answers_line sign state next line old new asked (Ok BadLine) asks answers = (answers.1, λ lines. ([], replies_bad sign state line lines (asks ∙ answers.0)))
answers_line sign state next line old new asked (Err refused) asks answers = tt

-- a run that answers by the replies of a controller that was just made is one of the mode that runs scripts
pub Runs-running : (mode : Mode) (setup : Setup) (number left limit : ℕ) (sign : SignData) (state : StateData) (input new output written : Option (List ℕ)) (fault : Option ToolFault)
    → mode ≡ Run → sign ≡ setup.sign → state ≡ started setup.sign.defaults setup.store
    → Runs (outcome (replies sign state) number left) (output_of_whole (replies sign state) number) limit input new output written fault
    → Runs (outcome (answers_of mode setup) number left) (output_of_whole (answers_of mode setup) number) limit input new output written fault
Runs-running mode setup number left limit sign state input new output written fault is same_sign same_state runs =
    subst (λ m. Runs (outcome (answers_of m setup) number left) (output_of_whole (answers_of m setup) number) limit input new output written fault) (sym is)
    (subst (λ (s : SignData). Runs (outcome (replies s (started setup.sign.defaults setup.store)) number left) (output_of_whole (replies s (started setup.sign.defaults setup.store)) number) limit input new output written fault) same_sign
    (subst (λ (s : StateData). Runs (outcome (replies sign s) number left) (output_of_whole (replies sign s) number) limit input new output written fault) same_state runs))

-- SCRIPTS

-- no lines have no replies
replies_none : (sign : SignData) (state : StateData) → replies sign state [] ≡ []
unfolding replies
replies_none sign state = refl

-- the state that a line leaves is that of the controller's run of its command, if it spells one
run_asked : (sign : SignData) (state : StateData) (a : Ask) (commands : List Command)
    → (run sign state (command_asked (Some a) ++ commands)).state ≡ (run sign ((told sign state a).state) commands).state
run_asked sign state (ask.Command command) commands = refl
run_asked sign state ask.Nothing commands = refl
run_asked sign state (ask.Frame colour) commands = refl
run_asked sign state (ask.Row message) commands = refl
run_asked sign state ask.Report commands = refl
run_asked sign state ask.Defaults commands = refl

-- a line before others carries on
carries_on_from : (sign : SignData) (state : StateData) (line : List ℕ) (lines after : List (List ℕ)) (asked : Option Ask) → ask_of line ≡ asked → IsSome asked
    → ((next : StateData) → replies sign next (lines ++ after) ≡ replies sign next lines ++ replies sign (run sign next (commands_of lines)).state after)
    → replies sign state (line ∷ (lines ++ after)) ≡ replies sign state (line ∷ lines) ++ replies sign (run sign state (commands_of (line ∷ lines))).state after
carries_on_from sign state line lines after None asks some others = absurd cc
carries_on_from sign state line lines after (Some a) asks some others =
    let next = (told sign state a).state in
    let text = Some ((told sign state a).text) in
    let same : (run sign state (commands_of (line ∷ lines))).state ≡ (run sign next (commands_of lines)).state =
    ap (λ (o : Option Ask). (run sign state (command_asked o ++ commands_of lines)).state) asks ∙ run_asked sign state a (commands_of lines) in
    replies_told sign state line a (lines ++ after) asks
    ∙ ap (λ (l : List (Option (List ℕ))). text ∷ l) (others next)
    ∙ ap (λ (l : List (Option (List ℕ))). l ++ replies sign (run sign next (commands_of lines)).state after) (sym (replies_told sign state line a lines asks))
    ∙ ap (λ (s : StateData). replies sign state (line ∷ lines) ++ replies sign s after) (sym same)

-- the lines after some lines of a script find the state of the controller's run of the commands among these
pub carries_on : CarriesOn
carries_on sign state [] after script = ap (λ (l : List (Option (List ℕ))). l ++ replies sign state after) (sym (replies_none sign state))
carries_on sign state (line ∷ lines) after script =
    carries_on_from sign state line lines after (ask_of line) refl script.0 (λ next. carries_on sign next lines after script.1)

-- the replies to commands are those of the controller's run
pub replies_as_run : RepliesAsRun
replies_as_run sign state [] [] same = replies_none sign state
replies_as_run sign state [] (line ∷ lines) same = absurd cc
replies_as_run sign state (command ∷ commands) [] same = absurd cc
replies_as_run sign state (command ∷ commands) (line ∷ lines) same =
    let asks : ask_of line ≡ Some (ask.Command command) = cc in
    let others : map ask_of lines ≡ map (λ c. Some (ask.Command c)) commands = cc in
    replies_told sign state line (ask.Command command) lines asks
    ∙ ap (λ (l : List (Option (List ℕ))). Some (reply_text (step sign state command).reply) ∷ l) (replies_as_run sign (step sign state command).state commands lines others)
