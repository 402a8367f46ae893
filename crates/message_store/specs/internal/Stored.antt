-- How a store is kept: what slots hold beside their texts, and the texts, two for each slot.
use Rattle.std.specs.Prelude.{◌≡◌, ◌≤◌, ℕ, ◌*◌, List, [], ◌∷◌, map, length, drop, slice_index_or}
use Rattle.std.specs.List.{All}
use Rattle.message_store.specs.declared.limits.StoreLimits.{StoreLimits}
use Rattle.message_store.specs.declared.message.Permanent.{Permanent}
use Rattle.message_store.specs.declared.slot.Slot.{Slot}
use Rattle.message_store.specs.declared.slot.Status.TheVariants.{NotUsed}
use Rattle.message_store.specs.Crc.{message_crc}
use Rattle.message_store.specs.Limits.{AreLimits, ArePermanent, IsShort}
use Rattle.message_store.specs.internal.Pool.{Pool, used}
use Rattle.message_store.specs.Slot.{SlotData, StoreData, permanent_of}

-- what a slot holds beside its texts that isn't used (own)
abbrev pub unused_slot : Slot
unused_slot = record { status = NotUsed; priority = 1; beacon = 0; pixel = 0 }

-- a slot with its texts (own)
abbrev pub slot_of : Slot → List ℕ → List ℕ → SlotData
slot_of slot multi owner =
    record { status = slot.status; multi = multi; owner = owner; priority = slot.priority; beacon = slot.beacon; pixel = slot.pixel }

-- the CRC of a slot's message (NTCIP 1203 v03, dmsMessageCRC)
abbrev pub crc_of : SlotData → ℕ
crc_of slot = message_crc slot.multi slot.beacon slot.pixel

-- the slots with their texts: the MULTI text and then the owner of each (own)
abbrev pub whole : List Slot → List (List ℕ) → List SlotData
whole [] texts = []
whole (slot ∷ slots) texts = slot_of slot (slice_index_or texts 0 []) (slice_index_or texts 1 []) ∷ whole slots (drop 2 texts)

-- the store that is kept in these parts (own)
abbrev pub stored : StoreLimits → List Permanent → List Slot → Pool → StoreData
stored limits permanent slots texts = record { limits = limits; permanent = map permanent_of permanent; slots = whole slots texts.texts }

-- the parts belong together (own)
pub record IsStored (limits : StoreLimits) (permanent : List Permanent) (slots : List Slot) (texts : Pool) : Type 0 where
  pub sound : AreLimits limits
  pub fixed : ArePermanent limits (map permanent_of permanent)
  pub count : length slots ≡ limits.slots
  pub pairs : length texts.texts ≡ 2 * length slots
  pub room : texts.room ≡ limits.bytes
  pub short : All (IsShort limits) (whole slots texts.texts)
  pub within : used texts ≤ limits.bytes
