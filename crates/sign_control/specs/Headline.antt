-- What holds after every list of commands: the store's budget, the steps, the text that is shown, and its frame.
use Rattle.std.specs.Prelude.{◌≡◌, ◌≤◌, ℕ, ◌*◌, Bool, ◌==◌, List, length, None}
use Rattle.sign_font.specs.Defaults.{default_fault, under}
use Rattle.sign_font.specs.Sign.{SignData}
use Rattle.sign_font.specs.Sound.{IsSound}
use Rattle.multi_meaning.specs.declared.times.Shown.{Shown}
use Rattle.multi_meaning.specs.Meaning.{meanings}
use Rattle.multi_meaning.specs.Picture.{pixel_at}
use Rattle.multi_meaning.specs.Times.{shown}
use Rattle.multi_meaning.specs.Verdict.{Accepted, pages_of, verdict}
use Rattle.multi_layout.specs.Limits.{check_limit}
use Rattle.page_picture.specs.Shown.{IsThere}
use Rattle.message_store.specs.Limits.{IsKept}
use Rattle.message_store.specs.Slot.{StoreData}
use Rattle.sign_control.specs.declared.command.Command.{Command}
use Rattle.sign_control.specs.Counts.{text_judged, text_steps}
use Rattle.sign_control.specs.Run.{IsWithin, run, run_steps}
use Rattle.sign_control.specs.State.{StateData, started}

-- the sign with the defaults of what it shows (own)
abbrev pub shown_by : SignData → StateData → SignData
shown_by sign state = under sign state.display.defaults

-- what the display shows at its clock: a page with its phase, or an off time (NTCIP 1203 v03, MULTI tag 'pt')
abbrev pub shown_now : SignData → StateData → Shown
shown_now sign state = shown (shown_by sign state) state.text state.display.clock

-- a pixel has a colour in what the display shows at its clock (own)
abbrev pub pixel_now : SignData → StateData → ℕ → ℕ → ℕ → Bool
pixel_now sign state colour column row = pixel_at (shown_by sign state) (meanings state.text) (shown_now sign state) colour column row

-- of all colours it is this one alone (own)
abbrev pub IsOnly : ℕ → (ℕ → Bool) → Type 0
IsOnly colour has = (other : ℕ) → has other ≡ (other == colour)

-- the state after commands, from the making of a controller on (own)
abbrev pub after : SignData → StoreData → List Command → StateData
after sign store commands = (run sign (started sign.defaults store) commands).state

-- what holds of a sign after commands, from the making of its controller on (own)
pub record Holds (sign : SignData) (store : StoreData) (commands : List Command) : Type 0 where
  -- the used bytes and slots are within the store's limits
  pub within : IsWithin store.limits (after sign store commands).store
  -- whatever is asked next takes at most the check limit of the longest text
  pub next : (command : Command) → text_steps (text_judged sign (after sign store commands) command) ≤ check_limit 4096
  -- so all commands together took at most that for each
  pub steps : run_steps sign (started sign.defaults store) commands ≤ check_limit 4096 * length commands
  -- the text that is shown has at most 4,096 octets
  pub short : length (after sign store commands).text ≤ 4096
  -- and is accepted
  pub accepted :
      let state = after sign store commands in
      verdict (shown_by sign state) state.text ≡ Accepted (pages_of (meanings state.text))
  -- a frame shows a page of that text, or an off time
  pub there : let state = after sign store commands in IsThere state.text (shown_now sign state)
  -- each pixel of a frame has one colour, of 0 to 9
  pub coloured :
      (column row : ℕ) → (colour : ℕ) × (colour ≤ 9) × IsOnly colour (λ other. pixel_now sign (after sign store commands) other column row)

-- a law: it holds after every list of commands of every sign within its limits, which takes its own defaults, and of every store
-- within its own (own)
abbrev pub Headline : Type 0
Headline =
    (sign : SignData) (store : StoreData) (commands : List Command) → IsSound sign → default_fault sign sign.defaults ≡ None → IsKept store
    → Holds sign store commands
