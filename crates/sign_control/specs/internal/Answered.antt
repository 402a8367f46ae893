-- What the calls within this crate answer.
use Rattle.std.specs.Prelude.{◌≡◌, ◌⊎◌, Result, Ok, Err}
use Rattle.std.specs.Option.{option_copied}
use Rattle.sign_font.specs.declared.parts.Defaults.{Defaults}
use Rattle.message_store.specs.declared.fault.StoreFault.{StoreFault}
use Rattle.sign_control.specs.declared.activation.Candidate.{Candidate}
use Rattle.sign_control.specs.declared.code.ActivateError.{ActivateError}
use Rattle.sign_control.specs.declared.command.Reply.{Reply}
use Rattle.sign_control.specs.declared.command.Reply.TheVariants as reply
use Rattle.sign_control.specs.Activation.{CandidateData}

-- the candidate of the code as data (own)
abbrev pub candidate_of : Candidate → CandidateData
candidate_of message =
    record {
      source = message.source;
      text = option_copied message.text;
      priority = message.priority;
      beacon = message.beacon;
      pixel = message.pixel;
      crc = message.crc;
      status = message.status;
      defaults = message.defaults;
    }

-- a candidate, or what keeps it from being shown, as data (own)
abbrev pub candidate_result : Result Candidate ActivateError → Result CandidateData ActivateError
candidate_result (Ok message) = Ok (candidate_of message)
candidate_result (Err error) = Err error

-- these defaults are the one or the other (own)
abbrev pub IsOneOf : Defaults → Defaults → Defaults → Type 0
IsOneOf defaults one other = (defaults ≡ one) ⊎ (defaults ≡ other)

-- the reply to a call of the store (own)
abbrev pub reply_of : Result (Unit {0}) StoreFault → Reply
reply_of (Ok done) = reply.Done
reply_of (Err fault) = reply.Refused fault
