-- The numbers of errors, and the messages and CRCs that an activation takes, computed.
use Rattle.std.proofs.Common.{◌≡◌, ℕ, Bool, true, false, [], ◌∷◌, map, refl, Some}
use Rattle.sign_font.specs.Sample.{sample}
use Rattle.message_store.specs.declared.fault.StoreFault.TheVariants as fault
use Rattle.sign_control.specs.declared.code.ActivateError.TheVariants as error
use Rattle.sign_control.specs.declared.code.SourceMode.TheVariants as mode
use Rattle.sign_control.specs.Activation.{CandidateData, blank_one, is_crc, missing}
use Rattle.sign_control.specs.Code.{error_code, mode_code}

numbers_of_activate_errors : map error_code (
    error.None ∷ error.Priority ∷ error.MessageStatus ∷ error.MessageMemoryType ∷ error.MessageNumber ∷ error.MessageCrc ∷ error.SyntaxMulti ∷ [])
    ≡ 2 ∷ 3 ∷ 4 ∷ 5 ∷ 6 ∷ 7 ∷ 8 ∷ []
numbers_of_activate_errors = refl

numbers_of_source_modes : map mode_code (mode.Other ∷ mode.Central ∷ mode.EndDuration ∷ []) ≡ 1 ∷ 8 ∷ 14 ∷ []
numbers_of_source_modes = refl

no_memory_type_is_told_from_no_number : map missing (fault.MemoryType ∷ fault.Number ∷ []) ≡ error.MessageMemoryType ∷ error.MessageNumber ∷ []
no_memory_type_is_told_from_no_number = refl

what_blank_1_is : blank_one sample.defaults
    ≡ record { source = record { memory = 7; number = 1 }; text = Some []; priority = 1; beacon = 0; pixel = 0; crc = 0; status = 4; defaults = sample.defaults }
what_blank_1_is = refl

abbrev is_crc_of_blank : ℕ → Bool
is_crc_of_blank = is_crc (blank_one sample.defaults)

a_blank_message_takes_three_crcs : map is_crc_of_blank (0 ∷ 0x0F47 ∷ 0x470F ∷ 1 ∷ []) ≡ true ∷ true ∷ true ∷ false ∷ []
a_blank_message_takes_three_crcs = refl

-- changeable 1 with the text `A`
abbrev message : CandidateData
message = record { source = record { memory = 3; number = 1 }; text = Some (65 ∷ []); priority = 1; beacon = 0; pixel = 0; crc = 0x9A66; status = 4; defaults = sample.defaults }

abbrev is_crc_of_message : ℕ → Bool
is_crc_of_message = is_crc message

another_message_takes_its_own_in_two_orders : map is_crc_of_message (0x9A66 ∷ 0x669A ∷ 0 ∷ 0x0F47 ∷ []) ≡ true ∷ true ∷ false ∷ false ∷ []
another_message_takes_its_own_in_two_orders = refl
