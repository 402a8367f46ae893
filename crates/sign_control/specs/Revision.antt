-- When the number rises by which a host sees that there is something to save.
use Rattle.std.specs.Prelude.{◌≡◌, ◌<◌, ◌-◌, ◌^◌, ℕ, Bool, true, false, if◌then◌else◌, List, fold}
use Rattle.step_count.specs.Count.{raised}
use Rattle.sign_font.specs.Sign.{SignData}
use Rattle.sign_control.specs.declared.command.Command.{Command}
use Rattle.sign_control.specs.declared.command.Command.TheVariants as command
use Rattle.sign_control.specs.declared.command.Reply.{Reply}
use Rattle.sign_control.specs.declared.command.Reply.TheVariants as reply
use Rattle.sign_control.specs.Run.{run}
use Rattle.sign_control.specs.State.{StateData}
use Rattle.sign_control.specs.Time.{passed}

-- a command with this reply may have changed more than the time (own)
abbrev pub is_change : Reply → Bool
is_change reply.Done = true
is_change (reply.Refused fault) = false
is_change reply.Idle = false
is_change (reply.Worked number status error multi position) = true
is_change reply.Shown = true
is_change (reply.NotShown error) = true
is_change (reply.NotSet fault) = false
is_change reply.Ticked = false
is_change reply.Ended = true

-- the revision after a command with this reply (own)
abbrev pub revised : ℕ → Reply → ℕ
revised revision reply = if is_change reply then raised revision 1 else revision

-- what a command leaves of a state if it changes the time at most: a tick adds its tenths to the display's clock and takes them from what
-- is left of its duration, and every other command leaves all as it is (own)
abbrev pub later_alone : StateData → Command → StateData
later_alone state (command.Tick tenths) = record state { display = passed state.display tenths }
later_alone state other = state

-- a law: commands after which the revision is as before have changed the time at most, unless the revision is the largest number (own)
abbrev pub ChangesTheTimeAtMost : Type 0
ChangesTheTimeAtMost = (sign : SignData) (state : StateData) (commands : List Command) (revision : ℕ) → revision < 2 ^ 64 - 1
    → fold revised revision (run sign state commands).replies ≡ revision → (run sign state commands).state ≡ fold later_alone state commands
