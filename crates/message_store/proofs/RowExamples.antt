-- Messages as they are told, what the sample sign says of them, and in how many steps, computed.
use Rattle.std.proofs.Common.{◌≡◌, ℕ, Bool, true, false, [], ◌∷◌, map, codes, refl, Some, None, Ok, Err}
use Rattle.multi_token.specs.Reading.{reading, read_items}
use Rattle.sign_font.specs.Sample.{sample}
use Rattle.sign_font.specs.Sign.{SignData}
use Rattle.multi_meaning.specs.Verdict.{Refused, verdict, verdict_on}
use Rattle.message_store.specs.declared.fault.StoreFault.TheVariants.{MemoryType}
use Rattle.message_store.specs.declared.message.MemoryType.TheVariants.{Permanent, Changeable, CurrentBuffer, Blank}
use Rattle.message_store.specs.declared.slot.Status.TheVariants.{Modifying}
use Rattle.message_store.specs.declared.work.ValidateError.TheVariants as validate
use Rattle.message_store.specs.Crc.{message_crc}
use Rattle.message_store.specs.Slot.{StoreData, empty_slot}
use Rattle.message_store.specs.Row.{RowData, blank_row, row_in, is_current_buffer}
use Rattle.message_store.specs.Work.{JudgementData, judgement, of_verdict, slot_steps}

-- ---- rows

-- two permanent messages and two slots, the second of which is being modified
abbrev two : StoreData
two = record {
  limits = record { slots = 2; bytes = 4; max_string = 64 };
  permanent = record { multi = codes "A"; priority = 1; beacon = 0; pixel = 0 } ∷ record { multi = codes "AAAI"; priority = 5; beacon = 0; pixel = 0 } ∷ [];
  slots = empty_slot ∷ record empty_slot { status = Modifying; multi = codes "AAAA" } ∷ [];
}

the_second_permanent_message : row_in two 2 Permanent ≡ Ok (record { status = 4; multi = codes "AAAI"; owner = []; priority = 5; beacon = 0; pixel = 0; crc = 0xAB77 })
the_second_permanent_message = refl

the_second_slot : row_in two 2 Changeable ≡ Ok (record { status = 2; multi = codes "AAAA"; owner = []; priority = 1; beacon = 0; pixel = 0; crc = 0x6DB5 })
the_second_slot = refl

a_slot_that_is_not_used : row_in two 1 Changeable ≡ Ok (record { status = 1; multi = []; owner = []; priority = 1; beacon = 0; pixel = 0; crc = 0x0F47 })
a_slot_that_is_not_used = refl

the_currentBuffer_is_not_in_the_store : row_in two 1 CurrentBuffer ≡ Err MemoryType
the_currentBuffer_is_not_in_the_store = refl

abbrev blank : ℕ → RowData
blank number = record { status = 4; multi = []; owner = []; priority = number; beacon = 0; pixel = 0; crc = 0 }

a_blank_message_has_its_number_for_priority : map blank_row (9 ∷ 255 ∷ []) ≡ blank 9 ∷ blank 255 ∷ []
a_blank_message_has_its_number_for_priority = refl

a_blank_message_is_told : row_in two 9 Blank ≡ Ok (blank 9)
a_blank_message_is_told = refl

one_memory_type_is_the_currentBuffer : map is_current_buffer (None ∷ Some Permanent ∷ Some Changeable ∷ Some CurrentBuffer ∷ Some Blank ∷ []) ≡ false ∷ false ∷ false ∷ true ∷ false ∷ []
one_memory_type_is_the_currentBuffer = refl

-- the check value of the standard is that of the octets of `123456789`, the last two of which are 56 and 57
a_crc_is_over_text_then_beacon_then_pixel_service : message_crc (codes "1234567") 56 57 ≡ 0x906E
a_crc_is_over_text_then_beacon_then_pixel_service = refl

-- ---- judgement

abbrev sign_with : Bool → Bool → SignData
sign_with beacons pixel_service = record sample { beacons = beacons; pixel_service = pixel_service }

-- what such a sign says of a message without a text
unfoldable judged : Bool → Bool → ℕ → ℕ → JudgementData
unfolding verdict verdict_on reading read_items
judged beacons pixel_service beacon pixel = judgement (sign_with beacons pixel_service) (record empty_slot { beacon = beacon; pixel = pixel })

abbrev no_beacons : JudgementData
no_beacons = record { error = validate.Beacons; syntax = None }

abbrev no_pixel_service : JudgementData
no_pixel_service = record { error = validate.PixelService; syntax = None }

abbrev accepted : JudgementData
accepted = record { error = validate.None; syntax = Some (2, 0) }

a_sign_without_beacons_has_none : judged false true 1 1 ≡ no_beacons
unfolding judged
a_sign_without_beacons_has_none = refl

beacons_come_before_a_pixel_service : judged false false 1 1 ≡ no_beacons
unfolding judged
beacons_come_before_a_pixel_service = refl

a_sign_without_a_pixel_service_has_none : judged true false 1 1 ≡ no_pixel_service
unfolding judged
a_sign_without_a_pixel_service_has_none = refl

a_sign_may_have_both : judged true true 1 1 ≡ accepted
unfolding judged
a_sign_may_have_both = refl

a_message_needs_neither : judged false false 0 0 ≡ accepted
unfolding judged
a_message_needs_neither = refl

a_text_that_is_too_wide_is_syntaxMULTI : of_verdict (Refused 5 3) ≡ record { error = validate.SyntaxMulti; syntax = Some (5, 3) }
a_text_that_is_too_wide_is_syntaxMULTI = refl

-- ---- the steps of judging a message

a_message_whose_beacon_is_refused_takes_none : slot_steps (record sample { beacons = false }) (record empty_slot { beacon = 1; multi = codes "AAAA" }) ≡ 0
a_message_whose_beacon_is_refused_takes_none = refl
