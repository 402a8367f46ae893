-- Worked examples of a store with one slot, four octets and texts of at most 64, computed.
use Rattle.std.proofs.Common.{◌≡◌, ℕ, List, [], ◌∷◌, replicate, codes, refl, Ok, Err}
use Rattle.message_store.specs.declared.fault.StoreFault.TheVariants.{MemoryType, Number, ReadOnly, WrongState, BadValue, TooLong, NoSpace}
use Rattle.message_store.specs.declared.message.MsgRef.{MsgRef}
use Rattle.message_store.specs.declared.slot.Status.TheVariants.{Modifying}
use Rattle.message_store.specs.Crc.{crc, message_crc}
use Rattle.message_store.specs.Slot.{StoreData}
use Rattle.message_store.specs.Limits.{made}
use Rattle.message_store.specs.Step.{multi_set, requested, priority_set}

new : StoreData
new = made (record { slots = 1; bytes = 4; max_string = 64 }) (record { multi = codes "AAAI"; priority = 5; beacon = 0; pixel = 0 } ∷ [])

slot : ℕ → ℕ → MsgRef
slot memory number = record { memory = memory; number = number }

with_text : List ℕ → StoreData
with_text text = record new { slots = record { status = Modifying; multi = text; owner = []; priority = 1; beacon = 0; pixel = 0 } ∷ [] }

a_slot_is_asked_to_be_modified : requested new (slot 3 1) 6 ≡ Ok (with_text [])
unfolding new slot with_text
a_slot_is_asked_to_be_modified = refl

four_octets_fit : multi_set (with_text []) (slot 3 1) (codes "AAAA") ≡ Ok (with_text (codes "AAAA"))
unfolding new slot with_text
four_octets_fit = refl

a_fifth_octet_passes_the_budget : multi_set (with_text (codes "AAAA")) (slot 3 1) (codes "AAAAA") ≡ Err NoSpace
unfolding new slot with_text
a_fifth_octet_passes_the_budget = refl

there_is_no_second_slot : requested new (slot 3 2) 6 ≡ Err Number
unfolding new slot
there_is_no_second_slot = refl

a_permanent_message_is_kept : multi_set new (slot 2 1) (codes "A") ≡ Err ReadOnly
unfolding new slot
a_permanent_message_is_kept = refl

volatile_memory_is_no_type : multi_set new (slot 4 1) (codes "A") ≡ Err MemoryType
unfolding new slot
volatile_memory_is_no_type = refl

the_state_comes_before_the_value : priority_set new (slot 3 1) 0 ≡ Err WrongState
unfolding new slot
the_state_comes_before_the_value = refl

a_request_that_is_none_is_a_bad_value : requested new (slot 3 1) 9 ≡ Err BadValue
unfolding new slot
a_request_that_is_none_is_a_bad_value = refl

the_currentBuffer_is_read_only : priority_set new (slot 5 1) 9 ≡ Err ReadOnly
unfolding new slot
the_currentBuffer_is_read_only = refl

a_text_of_65_octets_is_too_long : multi_set (with_text []) (slot 3 1) (replicate 65 65) ≡ Err TooLong
unfolding new slot with_text
a_text_of_65_octets_is_too_long = refl

the_check_value_of_the_standard : crc (codes "123456789") ≡ 0x906E
the_check_value_of_the_standard = refl

the_crc_of_nothing : message_crc [] 0 0 ≡ 0x0F47
the_crc_of_nothing = refl

the_crc_of_one_character : message_crc (codes "A") 0 0 ≡ 0x9A66
the_crc_of_one_character = refl

the_crc_of_a_permanent_message : message_crc (codes "AAAI") 0 0 ≡ 0xAB77
the_crc_of_a_permanent_message = refl
