-- The limits of a store, and what holds of every store.
use Rattle.std.specs.Prelude.{◌≡◌, ◌≤◌, Bool, not, ◌&&◌, ◌==◌, nat_le, List, length, replicate}
use Rattle.std.specs.List.{All, list_all}
use Rattle.message_store.specs.declared.limits.StoreLimits.{StoreLimits}
use Rattle.message_store.specs.Slot.{SlotData, PermanentData, StoreData, empty_slot, used_bytes, used_slots}

-- a permanent message is within the limits: its text, a priority from 1, and beacon and pixel service 0 or 1 (own)
abbrev pub is_permanent : StoreLimits → PermanentData → Bool
is_permanent limits message =
    nat_le (length message.multi) limits.max_string && not (message.priority == 0) && nat_le message.beacon 1 && nat_le message.pixel 1

-- these are limits of a store: 1 to 1,000 slots, at most 1,000,000 bytes, and texts of at most 1 to 4,096 octets (own)
abbrev pub are_limits : StoreLimits → Bool
are_limits limits =
    nat_le 1 limits.slots && nat_le limits.slots 1000 && nat_le limits.bytes 1000000
    && nat_le 1 limits.max_string && nat_le limits.max_string 4096

-- a store can be made: its limits are such, and it has at most 255 permanent messages, each within them (own)
abbrev pub can_be_made : StoreLimits → List PermanentData → Bool
can_be_made limits permanent = are_limits limits && nat_le (length permanent) 255 && list_all (is_permanent limits) permanent

-- the store that is made: no slot is used (own)
abbrev pub made : StoreLimits → List PermanentData → StoreData
made limits permanent = record { limits = limits; permanent = permanent; slots = replicate limits.slots empty_slot }

-- the limits of a store's limits (own)
pub record AreLimits (limits : StoreLimits) : Type 0 where
  pub slots : (1 ≤ limits.slots) × (limits.slots ≤ 1000)
  pub bytes : limits.bytes ≤ 1000000
  pub longest : (1 ≤ limits.max_string) × (limits.max_string ≤ 4096)

-- a slot's texts are within their limits (own)
pub record IsShort (limits : StoreLimits) (slot : SlotData) : Type 0 where
  pub multi : length slot.multi ≤ limits.max_string
  pub owner : length slot.owner ≤ 127

-- a permanent message is within its limits (own)
pub record IsPermanent (limits : StoreLimits) (message : PermanentData) : Type 0 where
  pub multi : length message.multi ≤ limits.max_string
  pub priority : 1 ≤ message.priority
  pub beacon : message.beacon ≤ 1
  pub pixel : message.pixel ≤ 1

-- the permanent messages are within their limits (own)
pub record ArePermanent (limits : StoreLimits) (permanent : List PermanentData) : Type 0 where
  pub few : length permanent ≤ 255
  pub each : All (IsPermanent limits) permanent

-- what holds of every store: its texts, its used bytes and its used slots are within its limits (own)
pub record IsKept (store : StoreData) : Type 0 where
  pub sound : AreLimits store.limits
  pub permanent : ArePermanent store.limits store.permanent
  pub count : length store.slots ≡ store.limits.slots
  pub short : All (IsShort store.limits) store.slots
  pub within : used_bytes store ≤ store.limits.bytes
  pub used : used_slots store ≤ store.limits.slots
