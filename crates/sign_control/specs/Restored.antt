-- What a controller answers that got the state of another one.
use Rattle.std.specs.Prelude.{◌≡◌, ◌≤◌, ℕ, true, List, length, None, Ok}
use Rattle.sign_font.specs.Defaults.{default_fault}
use Rattle.sign_font.specs.Sign.{SignData}
use Rattle.multi_meaning.specs.Verdict.{verdict}
use Rattle.message_store.specs.Judged.{is_accepted}
use Rattle.message_store.specs.Limits.{IsKept}
use Rattle.message_store.specs.Slot.{StoreData}
use Rattle.sign_control.specs.declared.command.Command.{Command}
use Rattle.sign_control.specs.Headline.{pixel_now, shown_by, shown_now}
use Rattle.sign_control.specs.Run.{run}
use Rattle.sign_control.specs.Saved.{IsRestorable, restored, saved_octets}
use Rattle.sign_control.specs.State.{StateData}

-- a sign in one state answers as in another: after every list of commands, ticks among them, the replies are the same, the display shows
-- the same page or off time, and each pixel has the same colour (own)
pub record AnswersAlike (sign : SignData) (one other : StateData) : Type 0 where
  pub replies : (commands : List Command) → (run sign other commands).replies ≡ (run sign one commands).replies
  pub shown : (commands : List Command) → shown_now sign (run sign other commands).state ≡ shown_now sign (run sign one commands).state
  pub pixels :
      (commands : List Command) (colour column row : ℕ)
      → pixel_now sign (run sign other commands).state colour column row ≡ pixel_now sign (run sign one commands).state colour column row

-- a law: a state that is restored from what was saved answers as the one that was saved, with the same limits and permanent messages (own)
abbrev pub AnswersAsSaved : Type 0
AnswersAsSaved =
    (sign : SignData) (state other : StateData) (store : StoreData) → IsRestorable sign state
    → store.limits ≡ state.store.limits → store.permanent ≡ state.store.permanent
    → restored sign store (saved_octets state) ≡ Ok other → AnswersAlike sign state other

-- what holds of every controller, whatever octets were restored: its messages are within the limits, the sign takes the defaults in force
-- and those of the display, and by these it accepts the display's text, which is no longer than a message may be (own)
pub record IsTaken (sign : SignData) (state : StateData) : Type 0 where
  pub kept : IsKept state.store
  pub defaults : default_fault sign state.defaults ≡ None
  pub shown_defaults : default_fault sign state.display.defaults ≡ None
  pub accepted : is_accepted (verdict (shown_by sign state) state.text) ≡ true
  pub short : length state.text ≤ state.store.limits.max_string
