-- What time makes of a state.
use Rattle.std.specs.Prelude.{ℕ, ◌+◌, ◌-◌, ◌^◌, min, nat_le, if◌then◌else◌, Option, Some, None, option_map}
use Rattle.sign_font.specs.Sign.{SignData}
use Rattle.sign_control.specs.declared.code.SourceMode.TheVariants as mode
use Rattle.sign_control.specs.declared.command.Reply.TheVariants as reply
use Rattle.sign_control.specs.declared.display.Display.{Display}
use Rattle.sign_control.specs.Activation.{displayed, named, or_blank, text_of}
use Rattle.sign_control.specs.State.{StateData, Stepped}

-- the clock some tenths later; it stays at the largest number of 64 bits (own)
abbrev pub later : ℕ → ℕ → ℕ
later clock tenths = min (clock + tenths) (2 ^ 64 - 1)

-- a duration has ended this many tenths ago: the message of the end-duration code is shown, or blank 1 where a check fails,
-- without end, for who asked for the message before (NTCIP 1203 v03, dmsEndDurationMessage)
abbrev pub end_step : SignData → StateData → ℕ → Stepped
end_step sign state ago =
    let message = or_blank sign state.text state.defaults (named state.store state.display state.defaults state.end) in
    record {
      state = record state {
        display =
            displayed message (record { clock = ago; remaining = None; requester = state.display.requester; mode = mode.EndDuration });
        text = text_of state.text message;
      };
      reply = reply.Ended;
    }

-- the display after some tenths of its duration: its clock has risen, and what is left has fallen
-- (NTCIP 1203 v03, dmsMessageTimeRemaining)
abbrev pub passed : Display → ℕ → Display
passed display tenths =
    record display { clock = later display.clock tenths; remaining = option_map (λ left. left - tenths) display.remaining }

-- some tenths pass where this is left of the duration: the display goes on, or the duration ends (own)
abbrev pub ticked : SignData → StateData → ℕ → Option ℕ → Stepped
ticked sign state tenths None = record { state = record state { display = passed state.display tenths }; reply = reply.Ticked }
ticked sign state tenths (Some left) =
    if nat_le left tenths then end_step sign state (tenths - left)
    else record { state = record state { display = passed state.display tenths }; reply = reply.Ticked }

-- some tenths pass (own)
abbrev pub tick_step : SignData → StateData → ℕ → Stepped
tick_step sign state tenths = ticked sign state tenths state.display.remaining
