-- The message that is to be shown, and what keeps it from being shown (NTCIP 1203 v03, dmsActivateMessage).
use Rattle.std.specs.Prelude.{ℕ, ◌+◌, ◌*◌, ◌/◌, ◌%◌, Bool, ◌||◌, ◌==◌, if◌then◌else◌, List, [], Option, Some, None, Result, Ok, Err}
use Rattle.std.specs.Option.{unwrap_or}
use Rattle.sign_font.specs.declared.parts.Defaults.{Defaults}
use Rattle.sign_font.specs.Defaults.{under}
use Rattle.sign_font.specs.Sign.{SignData}
use Rattle.multi_meaning.specs.Verdict.{Verdict, verdict}
use Rattle.message_store.specs.declared.fault.StoreFault.{StoreFault}
use Rattle.message_store.specs.declared.fault.StoreFault.TheVariants as fault
use Rattle.message_store.specs.declared.message.MsgRef.{MsgRef}
use Rattle.message_store.specs.Judged.{is_accepted}
use Rattle.message_store.specs.Row.{RowData, row_at}
use Rattle.message_store.specs.Slot.{StoreData}
use Rattle.sign_control.specs.declared.code.ActivateError.{ActivateError}
use Rattle.sign_control.specs.declared.code.ActivateError.TheVariants as error
use Rattle.sign_control.specs.declared.code.IdCode.{IdCode}
use Rattle.sign_control.specs.declared.display.Display.{Display}
use Rattle.sign_control.specs.declared.display.Showing.{Showing}

-- a message that may be shown, with the defaults by which its text is judged; without a text it has the one that is shown
-- now (own)
pub record CandidateData : Type 0 where
  pub source : MsgRef
  pub text : Option (List ℕ)
  pub priority : ℕ
  pub beacon : ℕ
  pub pixel : ℕ
  pub crc : ℕ
  pub status : ℕ
  pub defaults : Defaults

-- messageMemoryType where there is no such memory type, else messageNumber (NTCIP 1203 v03, dmsActivateMsgError)
abbrev pub missing : StoreFault → ActivateError
missing fault.MemoryType = error.MessageMemoryType
missing fault.Number = error.MessageNumber
missing fault.ReadOnly = error.MessageNumber
missing fault.WrongState = error.MessageNumber
missing fault.BadValue = error.MessageNumber
missing fault.TooLong = error.MessageNumber
missing fault.NoSpace = error.MessageNumber

-- a message of the store, judged by the present defaults (own)
abbrev pub of_row : Defaults → MsgRef → Result RowData StoreFault → Result CandidateData ActivateError
of_row defaults message (Err fault) = Err (missing fault)
of_row defaults message (Ok row) =
    Ok (record {
      source = message;
      text = Some row.multi;
      priority = row.priority;
      beacon = row.beacon;
      pixel = row.pixel;
      crc = row.crc;
      status = row.status;
      defaults = defaults;
    })

-- the currentBuffer is what is shown now, judged by the defaults with which it is shown; it is valid
-- (NTCIP 1203 v03, dmsMessageMemoryType)
abbrev pub current : Display → CandidateData
current display =
    record {
      source = display.source;
      text = None;
      priority = display.priority;
      beacon = display.beacon;
      pixel = display.pixel;
      crc = display.crc;
      status = 4;
      defaults = display.defaults;
    }

-- blank 1, by these defaults (NTCIP 1203 v03, dmsMessageMemoryType)
abbrev pub blank_one : Defaults → CandidateData
blank_one defaults =
    record {
      source = record { memory = 7; number = 1 };
      text = Some [];
      priority = 1;
      beacon = 0;
      pixel = 0;
      crc = 0;
      status = 4;
      defaults = defaults;
    }

-- the message of a memory type and a number, or messageMemoryType or messageNumber (NTCIP 1203 v03, dmsActivateMsgError)
abbrev pub found : StoreData → Display → Defaults → MsgRef → Result CandidateData ActivateError
found store display defaults message =
    if message.memory == 5 then (if message.number == 1 then Ok (current display) else Err error.MessageNumber)
    else of_row defaults message (row_at store message)

-- a CRC with its two octets changed (own)
abbrev pub swapped : ℕ → ℕ
swapped crc = crc % 256 * 256 + crc / 256

-- the CRC is the message's, in either order of its octets; of a blank message 0x0000 and 0x0F47 are taken instead (own)
abbrev pub is_crc : CandidateData → ℕ → Bool
is_crc message crc =
    if message.source.memory == 7 then (crc == 0) || (crc == 0x0F47) || (crc == 0x470F)
    else (crc == message.crc) || (crc == swapped message.crc)

-- the message, unless it isn't valid or the CRC isn't its own (NTCIP 1203 v03, dmsActivateMsgError)
abbrev pub fitting : ℕ → Result CandidateData ActivateError → Result CandidateData ActivateError
fitting crc (Err error) = Err error
fitting crc (Ok message) =
    if message.status == 4 then (if is_crc message crc then Ok message else Err error.MessageCrc) else Err error.MessageStatus

-- the message of an identity code, or the first of messageMemoryType, messageNumber, messageStatus and messageCRC that
-- keeps it from being shown (NTCIP 1203 v03, dmsActivateMsgError; the order is own)
abbrev pub named : StoreData → Display → Defaults → IdCode → Result CandidateData ActivateError
named store display defaults code = fitting code.crc (found store display defaults code.message)

-- the message's own text, or the one that is shown now (own)
abbrev pub text_of : List ℕ → CandidateData → List ℕ
text_of shown message = unwrap_or message.text shown

-- what the sign says of the message's text, by the message's defaults (own)
abbrev pub verdict_of : SignData → List ℕ → CandidateData → Verdict
verdict_of sign shown message = verdict (under sign message.defaults) (text_of shown message)

-- the duration in tenths of a second; 65535 is without end (NTCIP 1203 v03, MessageActivationCode)
abbrev pub remaining_of : ℕ → Option ℕ
remaining_of minutes = if minutes == 65535 then None else Some (minutes * 600)

-- the display of a message (own)
abbrev pub displayed : CandidateData → Showing → Display
displayed message showing = record {
  source = message.source;
  priority = message.priority;
  beacon = message.beacon;
  pixel = message.pixel;
  crc = message.crc;
  defaults = message.defaults;
  clock = showing.clock;
  remaining = showing.remaining;
  requester = showing.requester;
  mode = showing.mode;
}

-- the message where the sign accepts its text, else blank 1 (own)
abbrev pub or_blank : SignData → List ℕ → Defaults → Result CandidateData ActivateError → CandidateData
or_blank sign shown defaults (Err error) = blank_one defaults
or_blank sign shown defaults (Ok message) = if is_accepted (verdict_of sign shown message) then message else blank_one defaults
