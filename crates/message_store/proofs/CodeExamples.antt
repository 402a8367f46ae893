-- The numbers of kinds, and what a status is, computed.
use Rattle.std.proofs.Common.{◌≡◌, true, false, List, [], ◌∷◌, map, refl, Some, None}
use Rattle.message_store.specs.declared.fault.StoreFault.TheVariants as fault
use Rattle.message_store.specs.declared.message.MemoryType.TheVariants.{Permanent, Changeable, CurrentBuffer, Blank}
use Rattle.message_store.specs.declared.slot.Request.TheVariants.{Modify, Validate, NotUse}
use Rattle.message_store.specs.declared.slot.Status.{Status}
use Rattle.message_store.specs.declared.slot.Status.TheVariants.{NotUsed, Modifying, Validating, Valid, Error}
use Rattle.message_store.specs.declared.work.ValidateError.TheVariants as validate
use Rattle.message_store.specs.Codes.{memory_numbered, request_numbered, status_code, validate_code}
use Rattle.message_store.specs.Fault.{fault_code}
use Rattle.message_store.specs.Slot.{is_modifying, is_not_used, is_validating}

memory_types_of_numbers : map memory_numbered (1 ∷ 2 ∷ 3 ∷ 4 ∷ 5 ∷ 6 ∷ 7 ∷ 8 ∷ [])
    ≡ None ∷ Some Permanent ∷ Some Changeable ∷ None ∷ Some CurrentBuffer ∷ None ∷ Some Blank ∷ None ∷ []
memory_types_of_numbers = refl

requests_of_numbers : map request_numbered (5 ∷ 6 ∷ 7 ∷ 8 ∷ 9 ∷ []) ≡ None ∷ Some Modify ∷ Some Validate ∷ Some NotUse ∷ None ∷ []
requests_of_numbers = refl

abbrev statuses : List Status
statuses = NotUsed ∷ Modifying ∷ Validating ∷ Valid ∷ Error ∷ []

numbers_of_statuses : map status_code statuses ≡ 1 ∷ 2 ∷ 3 ∷ 4 ∷ 5 ∷ []
numbers_of_statuses = refl

numbers_of_validate_errors : map validate_code (validate.None ∷ validate.Beacons ∷ validate.PixelService ∷ validate.SyntaxMulti ∷ []) ≡ 2 ∷ 3 ∷ 4 ∷ 5 ∷ []
numbers_of_validate_errors = refl

numbers_of_refusals : map fault_code (
    fault.MemoryType ∷ fault.Number ∷ fault.ReadOnly ∷ fault.WrongState ∷ fault.BadValue ∷ fault.TooLong ∷ fault.NoSpace ∷ [])
    ≡ 1 ∷ 2 ∷ 3 ∷ 4 ∷ 5 ∷ 6 ∷ 7 ∷ []
numbers_of_refusals = refl

fields_are_written_in_modifying_alone : map is_modifying statuses ≡ false ∷ true ∷ false ∷ false ∷ false ∷ []
fields_are_written_in_modifying_alone = refl

notUsed_alone_is_no_used_slot : map is_not_used statuses ≡ true ∷ false ∷ false ∷ false ∷ false ∷ []
notUsed_alone_is_no_used_slot = refl

validating_alone_waits_to_be_judged : map is_validating statuses ≡ false ∷ false ∷ true ∷ false ∷ false ∷ []
validating_alone_waits_to_be_judged = refl
