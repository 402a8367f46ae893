-- Which messages there are, and the ends of what is written in them, computed.
use Rattle.std.proofs.Common.{◌≡◌, ℕ, List, [], ◌∷◌, map, replicate, codes, refl, Result, Ok, Err}
use Rattle.message_store.specs.declared.fault.StoreFault.{StoreFault}
use Rattle.message_store.specs.declared.fault.StoreFault.TheVariants.{Number, ReadOnly, BadValue, TooLong, NoSpace}
use Rattle.message_store.specs.declared.message.MemoryType.{MemoryType}
use Rattle.message_store.specs.declared.message.MemoryType.TheVariants.{Permanent, Changeable, CurrentBuffer, Blank}
use Rattle.message_store.specs.declared.message.MsgRef.{MsgRef}
use Rattle.message_store.specs.declared.slot.Status.TheVariants.{Modifying}
use Rattle.message_store.specs.Slot.{SlotData, StoreData, empty_slot}
use Rattle.message_store.specs.Step.{last_number, numbered, slot_for, multi_set, owner_set, priority_set, beacon_set, pixel_service_set}

-- ---- numbers

-- of three permanent messages and five slots
abbrev last : MemoryType → ℕ
last = last_number 3 5

last_numbers : map last (Permanent ∷ Changeable ∷ CurrentBuffer ∷ Blank ∷ []) ≡ 3 ∷ 5 ∷ 1 ∷ 255 ∷ []
last_numbers = refl

abbrev of_three : ℕ → Result MemoryType StoreFault
of_three number = numbered number 3 Permanent

numbers_go_from_1_to_the_last : map of_three (0 ∷ 1 ∷ 3 ∷ 4 ∷ []) ≡ Err Number ∷ Ok Permanent ∷ Ok Permanent ∷ Err Number ∷ []
numbers_go_from_1_to_the_last = refl

abbrev third : MemoryType → Result ℕ StoreFault
third = slot_for 3

changeable_messages_alone_have_slots : map third (Changeable ∷ Permanent ∷ CurrentBuffer ∷ Blank ∷ []) ≡ Ok 2 ∷ Err ReadOnly ∷ Err ReadOnly ∷ Err ReadOnly ∷ []
changeable_messages_alone_have_slots = refl

-- ---- writes

abbrev written : SlotData
written = record empty_slot { status = Modifying }

-- a store of one slot that is being modified, 130 octets and texts of at most four
abbrev with_slot : SlotData → StoreData
with_slot slot = record { limits = record { slots = 1; bytes = 130; max_string = 4 }; permanent = []; slots = slot ∷ [] }

abbrev first : MsgRef
first = record { memory = 3; number = 1 }

abbrev with_text : List ℕ → Result StoreData StoreFault
with_text text = multi_set (with_slot written) first text

the_longest_text_is_taken : with_text (codes "AAAI") ≡ Ok (with_slot (record written { multi = codes "AAAI" }))
the_longest_text_is_taken = refl

a_longer_text_is_not : with_text (codes "AAAAI") ≡ Err TooLong
a_longer_text_is_not = refl

-- the slot has a text of three octets
abbrev with_owner : List ℕ → Result StoreData StoreFault
with_owner owner = owner_set (with_slot (record written { multi = codes "AAA" })) first owner

abbrev owned_by : List ℕ → StoreData
owned_by owner = with_slot (record written { multi = codes "AAA"; owner = owner })

an_owner_of_127_octets_fills_the_budget : with_owner (replicate 127 65) ≡ Ok (owned_by (replicate 127 65))
an_owner_of_127_octets_fills_the_budget = refl

an_owner_of_128_octets_is_too_long : with_owner (replicate 128 65) ≡ Err TooLong
an_owner_of_128_octets_is_too_long = refl

a_short_owner_leaves_room : with_owner (codes "AB") ≡ Ok (owned_by (codes "AB"))
a_short_owner_leaves_room = refl

an_owner_passes_the_budget : owner_set (with_slot (record written { multi = codes "AAAA" })) first (replicate 127 65) ≡ Err NoSpace
an_owner_passes_the_budget = refl

abbrev with_priority : ℕ → Result StoreData StoreFault
with_priority = priority_set (with_slot written) first

a_priority_is_not_0 : map with_priority (0 ∷ 1 ∷ []) ≡ Err BadValue ∷ Ok (with_slot (record written { priority = 1 })) ∷ []
a_priority_is_not_0 = refl

abbrev with_beacon : ℕ → Result StoreData StoreFault
with_beacon = beacon_set (with_slot written) first

a_beacon_is_0_or_1 : map with_beacon (0 ∷ 1 ∷ 2 ∷ []) ≡ Ok (with_slot written) ∷ Ok (with_slot (record written { beacon = 1 })) ∷ Err BadValue ∷ []
a_beacon_is_0_or_1 = refl

abbrev with_pixel_service : ℕ → Result StoreData StoreFault
with_pixel_service = pixel_service_set (with_slot written) first

a_pixel_service_is_0_or_1 : map with_pixel_service (0 ∷ 1 ∷ 2 ∷ []) ≡ Ok (with_slot written) ∷ Ok (with_slot (record written { pixel = 1 })) ∷ Err BadValue ∷ []
a_pixel_service_is_0_or_1 = refl
