-- A store as plain data: the whole map of its slots, with their texts.
use Rattle.std.specs.Prelude.{ℕ, ◌+◌, Bool, true, false, not, List, [], length, slice_index_or}
use Rattle.std.specs.List.{sum_by, count_by}
use Rattle.message_store.specs.declared.limits.StoreLimits.{StoreLimits}
use Rattle.message_store.specs.declared.message.Permanent.{Permanent}
use Rattle.message_store.specs.declared.slot.Status.{Status}
use Rattle.message_store.specs.declared.slot.Status.TheVariants.{NotUsed, Modifying, Validating, Valid, Error}

-- a changeable message (NTCIP 1203 v03, object dmsMessageTable)
pub record SlotData : Type 0 where
  pub status : Status
  pub multi : List ℕ
  pub owner : List ℕ
  pub priority : ℕ
  pub beacon : ℕ
  pub pixel : ℕ

-- a permanent message (NTCIP 1203 v03, object dmsMessageTable)
pub record PermanentData : Type 0 where
  pub multi : List ℕ
  pub priority : ℕ
  pub beacon : ℕ
  pub pixel : ℕ

-- the permanent message that was handed in (own)
abbrev pub permanent_of : Permanent → PermanentData
permanent_of message = record { multi = message.multi.items; priority = message.priority; beacon = message.beacon; pixel = message.pixel }

-- a store: its limits, its permanent messages and its slots, both in the order of their numbers from 1 on (own)
pub record StoreData : Type 0 where
  pub limits : StoreLimits
  pub permanent : List PermanentData
  pub slots : List SlotData

-- a slot that isn't used: empty texts, priority 1, no beacon and no pixel service (own)
abbrev pub empty_slot : SlotData
empty_slot = record { status = NotUsed; multi = []; owner = []; priority = 1; beacon = 0; pixel = 0 }

-- the slot of an index, counted from 0 (own)
abbrev pub slot_at : StoreData → ℕ → SlotData
slot_at store index = slice_index_or store.slots index empty_slot

-- the permanent message of an index, counted from 0 (own)
abbrev pub permanent_at : StoreData → ℕ → PermanentData
permanent_at store index = slice_index_or store.permanent index (record { multi = []; priority = 1; beacon = 0; pixel = 0 })

-- its fields may be written (NTCIP 1203 v03, dmsMessageStatus)
abbrev pub is_modifying : Status → Bool
is_modifying Modifying = true
is_modifying NotUsed = false
is_modifying Validating = false
is_modifying Valid = false
is_modifying Error = false

-- it counts as no used slot (NTCIP 1203 v03, dmsMessageStatus)
abbrev pub is_not_used : Status → Bool
is_not_used NotUsed = true
is_not_used Modifying = false
is_not_used Validating = false
is_not_used Valid = false
is_not_used Error = false

-- it waits to be judged (NTCIP 1203 v03, dmsMessageStatus)
abbrev pub is_validating : Status → Bool
is_validating Validating = true
is_validating NotUsed = false
is_validating Modifying = false
is_validating Valid = false
is_validating Error = false

-- the octets of a slot's two texts (own)
abbrev pub slot_bytes : SlotData → ℕ
slot_bytes slot = length slot.multi + length slot.owner

-- the used bytes: the octets of all texts and owners (NTCIP 1203 v03, dmsFreeChangeableMemory)
abbrev pub used_bytes : StoreData → ℕ
used_bytes store = sum_by slot_bytes store.slots

-- the used slots (NTCIP 1203 v03, dmsNumChangeableMsg)
abbrev pub used_slots : StoreData → ℕ
used_slots store = count_by (λ slot. not (is_not_used slot.status)) store.slots
