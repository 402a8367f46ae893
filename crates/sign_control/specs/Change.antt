-- When what the display shows changes: its page, an off time, a flash, or the end of its duration.
use Rattle.std.specs.Prelude.{◌≡◌, ◌≤◌, ◌<◌, ◌^◌, ℕ, ◌+◌, ◌*◌, min, Option, Some, None}
use Rattle.step_count.specs.Count.{raised}
use Rattle.sign_font.specs.Sign.{SignData}
use Rattle.multi_meaning.specs.Meaning.{meanings}
use Rattle.multi_meaning.specs.Steps.{judging_steps}
use Rattle.multi_layout.specs.Finding.{change_steps, finding_steps}
use Rattle.multi_layout.specs.Limits.{check_limit}
use Rattle.multi_layout.specs.Change.{IsSamePage, change_at}
use Rattle.sign_control.specs.declared.command.Reply.TheVariants as reply
use Rattle.sign_control.specs.Headline.{pixel_now, shown_by, shown_now}
use Rattle.sign_control.specs.State.{StateData}
use Rattle.sign_control.specs.Time.{tick_step}

-- a number of tenths, or those to a change that comes before (own)
abbrev pub no_later : ℕ → Option ℕ → ℕ
no_later most None = most
no_later most (Some left) = min most left

-- for how many tenths from now on, at most this many, the display shows what it shows: up to the next change of its text by the defaults
-- with which it is shown, and to the end of its duration (NTCIP 1203 v03, MULTI tags 'pt' and 'fl', and dmsMessageTimeRemaining)
abbrev pub next_change : SignData → StateData → ℕ → ℕ
next_change sign state most =
    no_later (no_later most state.display.remaining) (change_at (shown_by sign state) (meanings state.text) state.display.clock)

-- the steps of judging the text that is shown, and of finding what it shows at the clock (own)
abbrev pub shown_steps : SignData → StateData → ℕ
shown_steps sign state =
    judging_steps (shown_by sign state) state.text + finding_steps (shown_by sign state) state.text state.display.clock

-- the steps of finding it: those of judging the text, and of passing its pages up to the one that is shown (own)
abbrev pub next_change_steps : SignData → StateData → ℕ
next_change_steps sign state =
    judging_steps (shown_by sign state) state.text + change_steps (shown_by sign state) state.text state.display.clock

-- the most of them (own)
abbrev pub change_limit : ℕ → ℕ
change_limit n = 2 * check_limit n

-- a count has risen by the steps that were taken, at least and at most this many (own)
abbrev pub IsCounted : ℕ → ℕ → ℕ → ℕ → Type 0
IsCounted old least most new = (steps : ℕ) × (least ≤ steps) × (steps ≤ most) × (new ≡ raised old steps)

-- some tenths later the duration goes on, the display shows the same page or stays in its off time, and each pixel has the colours that
-- it has now (own)
pub record IsAsNow (sign : SignData) (state : StateData) (tenths : ℕ) : Type 0 where
  pub goes_on : (tick_step sign state tenths).reply ≡ reply.Ticked
  pub page : IsSamePage (shown_now sign state) (shown_now sign (tick_step sign state tenths).state)
  pub pixels : (colour column row : ℕ) → pixel_now sign (tick_step sign state tenths).state colour column row
      ≡ pixel_now sign state colour column row

-- a law: at each time before the next change of what the display shows, all of it is as now (own)
abbrev pub StaysUntilNextChange : Type 0
StaysUntilNextChange = (sign : SignData) (state : StateData) (most tenths : ℕ) → state.display.clock < 2 ^ 64
    → tenths < next_change sign state most → IsAsNow sign state tenths
