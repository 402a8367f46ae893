-- What a command makes of a state, and its reply.
use Rattle.std.specs.Prelude.{ℕ, Bool, nat_lt, if◌then◌else◌, Option, Some, None, Result, Ok, Err}
use Rattle.sign_font.specs.declared.fault.DefaultFault.{DefaultFault}
use Rattle.sign_font.specs.declared.parts.Defaults.{Defaults}
use Rattle.sign_font.specs.Defaults.{default_fault, under}
use Rattle.sign_font.specs.Sign.{SignData}
use Rattle.multi_meaning.specs.Verdict.{Verdict}
use Rattle.message_store.specs.declared.fault.StoreFault.{StoreFault}
use Rattle.message_store.specs.Slot.{StoreData}
use Rattle.message_store.specs.Step.{requested, multi_set, owner_set, priority_set, beacon_set, pixel_service_set, cleared}
use Rattle.message_store.specs.Work.{JudgedData, worked}
use Rattle.sign_control.specs.declared.code.ActivateError.{ActivateError}
use Rattle.sign_control.specs.declared.code.ActivateError.TheVariants as error
use Rattle.sign_control.specs.declared.code.ActivationCode.{ActivationCode}
use Rattle.sign_control.specs.declared.code.SourceMode.TheVariants as mode
use Rattle.sign_control.specs.declared.command.Command.{Command}
use Rattle.sign_control.specs.declared.command.Command.TheVariants as command
use Rattle.sign_control.specs.declared.command.DefaultField.{DefaultField}
use Rattle.sign_control.specs.declared.command.DefaultField.TheVariants as field
use Rattle.sign_control.specs.declared.command.Reply.TheVariants as reply
use Rattle.sign_control.specs.declared.display.Registers.{Registers}
use Rattle.message_store.specs.Judged.{error_of, is_accepted, position_of}
use Rattle.sign_control.specs.Activation.{CandidateData, displayed, named, remaining_of, text_of, verdict_of}
use Rattle.sign_control.specs.Code.{activation_code, error_code, id_code}
use Rattle.sign_control.specs.State.{StateData, Stepped}
use Rattle.sign_control.specs.Time.{tick_step}

-- the store has changed, or has refused a call (own)
abbrev pub store_step : StateData → Result StoreData StoreFault → Stepped
store_step state (Ok store) = record { state = record state { store = store }; reply = reply.Done }
store_step state (Err fault) = record { state = state; reply = reply.Refused fault }

-- the registers after a message was judged: the MULTI error and its position where its text was
-- (NTCIP 1203 v03, dmsValidateMessageError, dmsMultiSyntaxError, dmsMultiSyntaxErrorPosition)
abbrev pub judged_registers : Registers → ℕ → Option (ℕ × ℕ) → Registers
judged_registers registers validate None = record registers { validate = validate }
judged_registers registers validate (Some syntax) = record registers { validate = validate; multi = syntax.0; position = syntax.1 }

-- a message was judged, or none waited (own)
abbrev pub judged_step : StateData → StoreData → Option JudgedData → Stepped
judged_step state store None = record { state = record state { store = store }; reply = reply.Idle }
judged_step state store (Some judged) =
    let registers = judged_registers state.registers judged.validate_error judged.syntax in
    record {
      state = record state { store = store; registers = registers };
      reply = reply.Worked judged.number judged.status judged.validate_error registers.multi registers.position;
    }

-- the message that waits is judged by the defaults in force (NTCIP 1203 v03, dmsValidateMessageError)
abbrev pub work_step : SignData → StateData → Stepped
work_step sign state =
    let result = worked (under sign state.defaults) state.store in
    judged_step state result.store result.judged

-- a message isn't shown: all but the register is kept (NTCIP 1203 v03, dmsActivateMsgError)
abbrev pub not_shown : StateData → ActivateError → Stepped
not_shown state error =
    record { state = record state { registers = record (state.registers) { activate = error } }; reply = reply.NotShown (error_code error) }

-- the registers after an activation whose text was judged: 2 and 0 where it was accepted (NTCIP 1203 v03,
-- dmsActivateMsgError, dmsMultiSyntaxError, dmsMultiSyntaxErrorPosition)
abbrev pub activated_registers : Registers → Bool → ℕ → ℕ → Registers
activated_registers registers accepted multi position =
    record registers { activate = if accepted then error.None else error.SyntaxMulti; multi = multi; position = position }

-- the message is shown for its duration where the sign accepts its text, else it is syntaxMULTI
-- (NTCIP 1203 v03, dmsActivateMsgError)
abbrev pub judged_activation : StateData → ActivationCode → CandidateData → Verdict → Stepped
judged_activation state code message v =
    let registers = activated_registers state.registers (is_accepted v) (error_of v) (position_of v) in
    if is_accepted v then record {
      state = record state {
        display =
            displayed message
            (record { clock = 0; remaining = remaining_of code.duration; requester = code.requester; mode = mode.Central });
        text = text_of state.text message;
        registers = registers;
      };
      reply = reply.Shown;
    }
    else record { state = record state { registers = registers }; reply = reply.NotShown (error_code error.SyntaxMulti) }

-- the message that is named is shown, unless its priority is too low or its text isn't accepted
-- (NTCIP 1203 v03, dmsActivateMsgError; the order is own)
abbrev pub activated : SignData → StateData → ActivationCode → Result CandidateData ActivateError → Stepped
activated sign state code (Err error) = not_shown state error
activated sign state code (Ok message) =
    if nat_lt code.priority state.display.priority then not_shown state error.Priority
    else judged_activation state code message (verdict_of sign state.text message)

-- the message of an activation code is shown, or refused (NTCIP 1203 v03, dmsActivateMessage)
abbrev pub activate_step : SignData → StateData → ActivationCode → Stepped
activate_step sign state code = activated sign state code (named state.store state.display state.defaults code.id)

-- the defaults with one of them changed (NTCIP 1203 v03, group multiCfg)
abbrev pub with_default : Defaults → DefaultField → ℕ → Defaults
with_default defaults field.Font value = record defaults { font = value }
with_default defaults field.Line value = record defaults { line = value }
with_default defaults field.Page value = record defaults { page = value }
with_default defaults field.PageOn value = record defaults { page_on = value }
with_default defaults field.PageOff value = record defaults { page_off = value }
with_default defaults field.FlashOn value = record defaults { flash_on = value }
with_default defaults field.FlashOff value = record defaults { flash_off = value }
with_default defaults field.Fore value = record defaults { fore = value }
with_default defaults field.Back value = record defaults { back = value }

-- these defaults are in force from now on, unless there is a fault (own)
abbrev pub defaults_step : StateData → Defaults → Option DefaultFault → Stepped
defaults_step state defaults None = record { state = record state { defaults = defaults }; reply = reply.Done }
defaults_step state defaults (Some fault) = record { state = state; reply = reply.NotSet fault }

-- a default is set, unless the sign refuses it (own)
abbrev pub default_step : SignData → StateData → DefaultField → ℕ → Stepped
default_step sign state field value =
    let defaults = with_default state.defaults field value in
    defaults_step state defaults (default_fault sign defaults)

-- what a command makes of a state (own)
abbrev pub step : SignData → StateData → Command → Stepped
step sign state (command.Request message code) = store_step state (requested state.store message code)
step sign state (command.SetMulti message text) = store_step state (multi_set state.store message text.now)
step sign state (command.SetOwner message owner) = store_step state (owner_set state.store message owner.now)
step sign state (command.SetPriority message priority) = store_step state (priority_set state.store message priority)
step sign state (command.SetBeacon message beacon) = store_step state (beacon_set state.store message beacon)
step sign state (command.SetPixelService message pixel) = store_step state (pixel_service_set state.store message pixel)
step sign state command.Clear = store_step state (Ok (cleared state.store))
step sign state command.Work = work_step sign state
step sign state (command.Activate octets) = activate_step sign state (activation_code octets)
step sign state (command.SetEnd octets) = record { state = record state { end = id_code octets }; reply = reply.Done }
step sign state (command.Tick tenths) = tick_step sign state tenths
step sign state (command.SetDefault field value) = default_step sign state field value
