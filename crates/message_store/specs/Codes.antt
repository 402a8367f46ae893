-- The numbers by which kinds are known outside.
use Rattle.std.specs.Prelude.{ℕ, ◌==◌, if◌then◌else◌, Option, Some, None}
use Rattle.message_store.specs.declared.message.MemoryType.{MemoryType}
use Rattle.message_store.specs.declared.message.MemoryType.TheVariants.{Permanent, Changeable, CurrentBuffer, Blank}
use Rattle.message_store.specs.declared.slot.Request.{Request}
use Rattle.message_store.specs.declared.slot.Request.TheVariants.{Modify, Validate, NotUse}
use Rattle.message_store.specs.declared.slot.Status.{Status}
use Rattle.message_store.specs.declared.slot.Status.TheVariants.{NotUsed, Modifying, Validating, Valid, Error}
use Rattle.message_store.specs.declared.work.ValidateError.{ValidateError}
use Rattle.message_store.specs.declared.work.ValidateError.TheVariants as validate

-- the memory type of a number, if it has messages here (NTCIP 1203 v03, dmsMessageMemoryType)
abbrev pub memory_numbered : ℕ → Option MemoryType
memory_numbered number =
    if number == 2 then Some Permanent
    else (if number == 3 then Some Changeable
    else (if number == 5 then Some CurrentBuffer
    else (if number == 7 then Some Blank else None)))

-- the request of a number: modifyReq, validateReq or notUsedReq (NTCIP 1203 v03, dmsMessageStatus)
abbrev pub request_numbered : ℕ → Option Request
request_numbered number =
    if number == 6 then Some Modify
    else (if number == 7 then Some Validate
    else (if number == 8 then Some NotUse else None))

-- the number of a status (NTCIP 1203 v03, dmsMessageStatus)
abbrev pub status_code : Status → ℕ
status_code NotUsed = 1
status_code Modifying = 2
status_code Validating = 3
status_code Valid = 4
status_code Error = 5

-- the number of a validate error (NTCIP 1203 v03, dmsValidateMessageError)
abbrev pub validate_code : ValidateError → ℕ
validate_code validate.None = 2
validate_code validate.Beacons = 3
validate_code validate.PixelService = 4
validate_code validate.SyntaxMulti = 5
