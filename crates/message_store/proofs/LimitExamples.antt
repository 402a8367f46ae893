-- The limits of a store and of its permanent messages, at and beside their ends.
use Rattle.std.proofs.Common.{◌≡◌, ℕ, Bool, true, false, List, [], ◌∷◌, map, replicate, codes, refl}
use Rattle.message_store.specs.declared.limits.StoreLimits.{StoreLimits}
use Rattle.message_store.specs.Limits.{are_limits, can_be_made, is_permanent}
use Rattle.message_store.specs.Slot.{PermanentData}

-- one slot, four octets and texts of at most four
abbrev small : StoreLimits
small = record { slots = 1; bytes = 4; max_string = 4 }

abbrev by_slots : ℕ → Bool
by_slots slots = are_limits (record small { slots = slots })

a_store_has_1_to_1000_slots : map by_slots (0 ∷ 1 ∷ 1000 ∷ 1001 ∷ []) ≡ false ∷ true ∷ true ∷ false ∷ []
a_store_has_1_to_1000_slots = refl

abbrev by_bytes : ℕ → Bool
by_bytes bytes = are_limits (record small { bytes = bytes })

a_budget_is_at_most_1000000_bytes : map by_bytes (0 ∷ 1000000 ∷ 1000001 ∷ []) ≡ true ∷ true ∷ false ∷ []
a_budget_is_at_most_1000000_bytes = refl

abbrev by_longest : ℕ → Bool
by_longest longest = are_limits (record small { max_string = longest })

the_longest_text_has_1_to_4096_octets : map by_longest (0 ∷ 1 ∷ 4096 ∷ 4097 ∷ []) ≡ false ∷ true ∷ true ∷ false ∷ []
the_longest_text_has_1_to_4096_octets = refl

-- a permanent message of four octets
abbrev permanent : PermanentData
permanent = record { multi = codes "AAAI"; priority = 5; beacon = 0; pixel = 0 }

abbrev by_text : List ℕ → Bool
by_text text = is_permanent small (record permanent { multi = text })

a_text_is_no_longer_than_the_longest : map by_text ([] ∷ codes "AAAI" ∷ codes "AAAAI" ∷ []) ≡ true ∷ true ∷ false ∷ []
a_text_is_no_longer_than_the_longest = refl

abbrev by_priority : ℕ → Bool
by_priority priority = is_permanent small (record permanent { priority = priority })

a_priority_begins_at_1 : map by_priority (0 ∷ 1 ∷ 255 ∷ []) ≡ false ∷ true ∷ true ∷ []
a_priority_begins_at_1 = refl

abbrev by_beacon : ℕ → Bool
by_beacon beacon = is_permanent small (record permanent { beacon = beacon })

a_beacon_is_0_or_1 : map by_beacon (0 ∷ 1 ∷ 2 ∷ []) ≡ true ∷ true ∷ false ∷ []
a_beacon_is_0_or_1 = refl

abbrev by_pixel_service : ℕ → Bool
by_pixel_service pixel = is_permanent small (record permanent { pixel = pixel })

a_pixel_service_is_0_or_1 : map by_pixel_service (0 ∷ 1 ∷ 2 ∷ []) ≡ true ∷ true ∷ false ∷ []
a_pixel_service_is_0_or_1 = refl

abbrev by_count : ℕ → Bool
by_count count = can_be_made small (replicate count permanent)

at_most_255_messages_are_permanent : map by_count (0 ∷ 255 ∷ 256 ∷ []) ≡ true ∷ true ∷ false ∷ []
at_most_255_messages_are_permanent = refl

each_permanent_message_is_within_its_limits : can_be_made small (permanent ∷ record permanent { priority = 0 } ∷ []) ≡ false
each_permanent_message_is_within_its_limits = refl

a_store_has_a_slot : can_be_made (record small { slots = 0 }) (permanent ∷ []) ≡ false
a_store_has_a_slot = refl
