-- A state as octets, and what is asked wherever its octets lie in memory.
use Rattle.std.proofs.Common.{◌≡◌, ℕ, List, take, Some, refl, sym, ap, ◌∙◌}
use Rattle.std.proofs.lemmas.List.{take_at}
use Rattle.sign_control.specs.Saved.{Saves}
use Rattle.sign_control.specs.declared.command.Command.TheVariants as command
use Rattle.sign_control.specs.State.{StateData}
use Rattle.sign_font.specs.Sign.{SignData}
use Rattle.sign_script.specs.Asks.{bare}
use Rattle.sign_script.specs.Questions.{bare_question}
use Rattle.sign_script.specs.declared.ask.Ask.{Ask}
use Rattle.sign_script.specs.declared.ask.Ask.TheVariants as ask
use Rattle.sign_script.specs.declared.question.Question.{Question}
use Rattle.sign_script.specs.declared.question.Question.TheVariants as question
use Rattle.sign_tool.specs.Served.{told_ask, told_question}

-- what is saved stands at the front
pub saved_front : (size count : ℕ) (octets old new : List ℕ) → Saves size octets old new (Some count) → take count new ≡ octets
saved_front size count octets old new saves =
    ap (take count) saves.2 ∙ take_at octets _ count (sym saves.1)

-- where octets lie says nothing of what is answered
bare_asked : (sign : SignData) (state : StateData) (a : Ask) → told_ask sign state (bare a) ≡ told_ask sign state a
bare_asked sign state (ask.Command (command.Request message code)) = refl
bare_asked sign state (ask.Command (command.SetMulti message text)) = refl
bare_asked sign state (ask.Command (command.SetOwner message owner)) = refl
bare_asked sign state (ask.Command (command.SetPriority message priority)) = refl
bare_asked sign state (ask.Command (command.SetBeacon message beacon)) = refl
bare_asked sign state (ask.Command (command.SetPixelService message pixel)) = refl
bare_asked sign state (ask.Command command.Clear) = refl
bare_asked sign state (ask.Command command.Work) = refl
bare_asked sign state (ask.Command (command.Activate octets)) = refl
bare_asked sign state (ask.Command (command.SetEnd octets)) = refl
bare_asked sign state (ask.Command (command.Tick tenths)) = refl
bare_asked sign state (ask.Command (command.SetDefault field value)) = refl
bare_asked sign state ask.Nothing = refl
bare_asked sign state (ask.Frame colour) = refl
bare_asked sign state (ask.Row message) = refl
bare_asked sign state ask.Report = refl
bare_asked sign state ask.Defaults = refl

pub bare_told : (sign : SignData) (state : StateData) (q : Question) → told_question sign state (bare_question q) ≡ told_question sign state q
bare_told sign state (question.Script a) = bare_asked sign state a
bare_told sign state question.Colours = refl
bare_told sign state (question.Verdict text) = refl
bare_told sign state (question.Crc text) = refl
bare_told sign state question.Next = refl
bare_told sign state (question.Code message duration priority) = refl
bare_told sign state question.Help = refl
bare_told sign state (question.VerdictHex digits) = refl
bare_told sign state (question.CrcHex digits) = refl
bare_told sign state question.Save = refl
bare_told sign state (question.Restore digits) = refl
