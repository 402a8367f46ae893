-- The judgement of the message that waits for it (NTCIP 1203 v03, dmsValidateMessageError).
use Rattle.std.specs.Prelude.{ℕ, ◌+◌, not, ◌&&◌, ◌==◌, if◌then◌else◌, position, Option, Some, None}
use Rattle.sign_font.specs.Sign.{SignData}
use Rattle.multi_meaning.specs.Verdict.{Verdict, Accepted, Refused, verdict}
use Rattle.multi_meaning.specs.Steps.{judging_steps}
use Rattle.message_store.specs.declared.slot.Status.{Status}
use Rattle.message_store.specs.declared.slot.Status.TheVariants.{Valid, Error}
use Rattle.message_store.specs.declared.work.Judged.{Judged}
use Rattle.message_store.specs.declared.work.ValidateError.{ValidateError}
use Rattle.message_store.specs.declared.work.ValidateError.TheVariants as validate
use Rattle.message_store.specs.Codes.{status_code, validate_code}
use Rattle.message_store.specs.Slot.{SlotData, StoreData, slot_at, is_validating}
use Rattle.message_store.specs.Step.{with_slot}

-- a validate error, and the MULTI error and position where the string was judged: 2 and 0 where it was accepted (own)
pub record JudgementData : Type 0 where
  pub error : ValidateError
  pub syntax : Option (ℕ × ℕ)

-- what a verdict says of a message: none, or syntaxMULTI with the error and its offset
-- (NTCIP 1203 v03, dmsValidateMessageError, dmsMultiSyntaxError, dmsMultiSyntaxErrorPosition)
abbrev pub of_verdict : Verdict → JudgementData
of_verdict (Accepted pages) = record { error = validate.None; syntax = Some (2, 0) }
of_verdict (Refused code at) = record { error = validate.SyntaxMulti; syntax = Some (code, at) }

-- what a sign says of a message: beacons, else pixelService, else what it says of the text
-- (NTCIP 1203 v03, dmsValidateMessageError; their order is own)
abbrev pub judgement : SignData → SlotData → JudgementData
judgement sign slot =
    if (slot.beacon == 1) && not sign.beacons then record { error = validate.Beacons; syntax = None }
    else (if (slot.pixel == 1) && not sign.pixel_service then record { error = validate.PixelService; syntax = None }
    else of_verdict (verdict sign slot.multi))

-- the steps of judging a message: those of judging its text, and none where that isn't judged (own)
abbrev pub slot_steps : SignData → SlotData → ℕ
slot_steps sign slot =
    if (slot.beacon == 1) && not sign.beacons then 0
    else (if (slot.pixel == 1) && not sign.pixel_service then 0 else judging_steps sign slot.multi)

-- the status of a message that was judged (NTCIP 1203 v03, dmsMessageStatus)
abbrev pub judged_status : ValidateError → Status
judged_status validate.None = Valid
judged_status validate.Beacons = Error
judged_status validate.PixelService = Error
judged_status validate.SyntaxMulti = Error

-- the slot that waits to be judged, the lowest number first, counted from 0, if one does (own)
abbrev pub waiting : StoreData → Option ℕ
waiting store = position (λ slot. is_validating slot.status) store.slots

-- what is told of a message that was judged, without the steps: its number and status, the validate error, and the MULTI
-- error and position where its text was judged (NTCIP 1203 v03, dmsMessageStatus, dmsValidateMessageError)
pub record JudgedData : Type 0 where
  pub number : ℕ
  pub status : ℕ
  pub validate_error : ℕ
  pub syntax : Option (ℕ × ℕ)

-- the answer of the code, without its steps (own)
abbrev pub judged_of : Judged → JudgedData
judged_of result = record { number = result.number; status = result.status; validate_error = result.validate_error; syntax = result.syntax }

-- the numbers that are told of it (own)
abbrev pub told : ℕ → JudgementData → JudgedData
told number judged = record {
  number = number;
  status = status_code (judged_status judged.error);
  validate_error = validate_code judged.error;
  syntax = judged.syntax;
}

-- what becomes of the store, and what is told of the message that was judged, if one was (own)
pub record Worked : Type 0 where
  pub store : StoreData
  pub judged : Option JudgedData

-- the slot of an index, if there is one, is judged and gets its status (own)
abbrev pub worked_at : SignData → StoreData → Option ℕ → Worked
worked_at sign store None = record { store = store; judged = None }
worked_at sign store (Some index) =
    let slot = slot_at store index in
    let judged = judgement sign slot in
    record { store = with_slot store index (record slot { status = judged_status judged.error }); judged = Some (told (index + 1) judged) }

-- the message that waits, if one does, is judged (NTCIP 1203 v03, dmsValidateMessageError)
abbrev pub worked : SignData → StoreData → Worked
worked sign store = worked_at sign store (waiting store)
