-- The steps that commands add to the count.
use Rattle.std.specs.Prelude.{ℕ, not, ◌&&◌, ◌==◌, nat_lt, nat_le, if◌then◌else◌, List, Option, Some, None, Result, Ok, Err}
use Rattle.sign_font.specs.Defaults.{under}
use Rattle.sign_font.specs.Sign.{SignData}
use Rattle.multi_meaning.specs.Steps.{judging_steps}
use Rattle.message_store.specs.Slot.{SlotData, StoreData, slot_at}
use Rattle.message_store.specs.Work.{waiting}
use Rattle.sign_control.specs.declared.code.ActivateError.{ActivateError}
use Rattle.sign_control.specs.declared.code.ActivationCode.{ActivationCode}
use Rattle.sign_control.specs.declared.command.Command.{Command}
use Rattle.sign_control.specs.declared.command.Command.TheVariants as command
use Rattle.sign_control.specs.Activation.{CandidateData, named, text_of}
use Rattle.sign_control.specs.Code.{activation_code}
use Rattle.sign_control.specs.State.{StateData}

-- a text that is judged, and the sign with the defaults by which it is (own)
pub record JudgedText : Type 0 where
  pub sign : SignData
  pub text : List ℕ

-- a message's text is judged, unless it asks for beacons or a pixel service that the sign hasn't (own)
abbrev pub slot_text : SignData → SlotData → Option JudgedText
slot_text sign slot =
    if (slot.beacon == 1) && not sign.beacons then None
    else (if (slot.pixel == 1) && not sign.pixel_service then None else Some (record { sign = sign; text = slot.multi }))

-- the text of the message that waits (own)
abbrev pub waiting_text : SignData → StoreData → Option ℕ → Option JudgedText
waiting_text sign store None = None
waiting_text sign store (Some index) = slot_text sign (slot_at store index)

-- the text of a message that passed the checks before its text (own)
abbrev pub candidate_text : SignData → List ℕ → CandidateData → JudgedText
candidate_text sign shown message = record { sign = under sign message.defaults; text = text_of shown message }

-- the text of the message that an activation names (own)
abbrev pub activated_text : SignData → StateData → ActivationCode → Result CandidateData ActivateError → Option JudgedText
activated_text sign state code (Err error) = None
activated_text sign state code (Ok message) =
    if nat_lt code.priority state.display.priority then None else Some (candidate_text sign state.text message)

-- the text of the message of an activation code (own)
abbrev pub activation_text : SignData → StateData → ActivationCode → Option JudgedText
activation_text sign state code = activated_text sign state code (named state.store state.display state.defaults code.id)

-- the text of the message that follows a duration (own)
abbrev pub end_text : SignData → List ℕ → Result CandidateData ActivateError → Option JudgedText
end_text sign shown (Err error) = None
end_text sign shown (Ok message) = Some (candidate_text sign shown message)

-- the text of the message of the end-duration code (own)
abbrev pub following_text : SignData → StateData → Option JudgedText
following_text sign state = end_text sign state.text (named state.store state.display state.defaults state.end)

-- the text that is judged when some tenths pass (own)
abbrev pub ticked_text : SignData → StateData → ℕ → Option ℕ → Option JudgedText
ticked_text sign state tenths None = None
ticked_text sign state tenths (Some left) = if nat_le left tenths then following_text sign state else None

-- the text that a command judges, if it judges one (own)
abbrev pub text_judged : SignData → StateData → Command → Option JudgedText
text_judged sign state (command.Request message code) = None
text_judged sign state (command.SetMulti message text) = None
text_judged sign state (command.SetOwner message owner) = None
text_judged sign state (command.SetPriority message priority) = None
text_judged sign state (command.SetBeacon message beacon) = None
text_judged sign state (command.SetPixelService message pixel) = None
text_judged sign state command.Clear = None
text_judged sign state command.Work = waiting_text (under sign state.defaults) state.store (waiting state.store)
text_judged sign state (command.Activate octets) = activation_text sign state (activation_code octets)
text_judged sign state (command.SetEnd octets) = None
text_judged sign state (command.Tick tenths) = ticked_text sign state tenths state.display.remaining
text_judged sign state (command.SetDefault field value) = None

-- the steps of judging a text, if one is judged (own)
abbrev pub text_steps : Option JudgedText → ℕ
text_steps None = 0
text_steps (Some judged) = judging_steps judged.sign judged.text
