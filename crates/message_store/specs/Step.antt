-- What each call makes of a store, or the first reason, in their order, why it is refused.
use Rattle.std.specs.Prelude.{◌≡◌, ℕ, ◌+◌, ◌-◌, ◌&&◌, ◌==◌, nat_lt, nat_le, if◌then◌else◌, List, length, replicate, slice_set, Option, Some, None, Result, Ok, Err, IsOk}
use Rattle.message_store.specs.declared.fault.StoreFault.{StoreFault}
use Rattle.message_store.specs.declared.fault.StoreFault.TheVariants as fault
use Rattle.message_store.specs.declared.message.MemoryType.{MemoryType}
use Rattle.message_store.specs.declared.message.MemoryType.TheVariants.{Permanent, Changeable, CurrentBuffer, Blank}
use Rattle.message_store.specs.declared.message.MsgRef.{MsgRef}
use Rattle.message_store.specs.declared.slot.Request.{Request}
use Rattle.message_store.specs.declared.slot.Request.TheVariants.{Modify, Validate, NotUse}
use Rattle.message_store.specs.declared.slot.Status.TheVariants.{Modifying, Validating}
use Rattle.message_store.specs.Codes.{memory_numbered, request_numbered}
use Rattle.message_store.specs.Slot.{SlotData, StoreData, empty_slot, slot_at, is_modifying, is_validating, used_bytes}

-- the highest number of a memory type's messages, which are numbered from 1 on, where there are this many permanent
-- messages and this many slots (NTCIP 1203 v03, dmsMessageNumber)
abbrev pub last_number : ℕ → ℕ → MemoryType → ℕ
last_number permanent slots Permanent = permanent
last_number permanent slots Changeable = slots
last_number permanent slots CurrentBuffer = 1
last_number permanent slots Blank = 255

-- the message of a number up to the last one: refused 2 where there is no such message (own)
abbrev pub numbered : ℕ → ℕ → MemoryType → Result MemoryType StoreFault
numbered number last memory = if nat_le 1 number && nat_le number last then Ok memory else Err fault.Number

-- the message of a number in a memory type: refused 1 where there is no such type (own)
abbrev pub found_in : ℕ → ℕ → ℕ → Option MemoryType → Result MemoryType StoreFault
found_in permanent slots number None = Err fault.MemoryType
found_in permanent slots number (Some memory) = numbered number (last_number permanent slots memory) memory

-- the memory type of a message that there is (NTCIP 1203 v03, dmsMessageMemoryType)
abbrev pub found : StoreData → MsgRef → Result MemoryType StoreFault
found store message = found_in (length store.permanent) (length store.slots) message.number (memory_numbered message.memory)

-- the slot of a message, counted from 0: refused 3 where it isn't changeable (own)
abbrev pub slot_for : ℕ → MemoryType → Result ℕ StoreFault
slot_for number Changeable = Ok (number - 1)
slot_for number Permanent = Err fault.ReadOnly
slot_for number CurrentBuffer = Err fault.ReadOnly
slot_for number Blank = Err fault.ReadOnly

-- the slot of a message that there is (own)
abbrev pub slot_found : ℕ → Result MemoryType StoreFault → Result ℕ StoreFault
slot_found number (Ok memory) = slot_for number memory
slot_found number (Err fault) = Err fault

-- the slot that a call is for, counted from 0 (own)
abbrev pub addressed : StoreData → MsgRef → Result ℕ StoreFault
addressed store message = slot_found message.number (found store message)

-- a slot that is being modified: refused 4 in every other status (own)
abbrev pub modified : StoreData → Result ℕ StoreFault → Result ℕ StoreFault
modified store (Ok index) = if is_modifying (slot_at store index).status then Ok index else Err fault.WrongState
modified store (Err fault) = Err fault

-- the slot that a write of a field is for, counted from 0 (own)
abbrev pub writable : StoreData → MsgRef → Result ℕ StoreFault
writable store message = modified store (addressed store message)

-- one slot is replaced, and every other one is kept (own)
abbrev pub with_slot : StoreData → ℕ → SlotData → StoreData
with_slot store index slot = record store { slots = slice_set store.slots index slot }

-- one slot is replaced, or the change of it is refused (own)
abbrev pub with_change : StoreData → ℕ → Result SlotData StoreFault → Result StoreData StoreFault
with_change store index (Ok slot) = Ok (with_slot store index slot)
with_change store index (Err fault) = Err fault

-- the slot that a call is for is changed (own)
abbrev pub changed : StoreData → Result ℕ StoreFault → (SlotData → Result SlotData StoreFault) → Result StoreData StoreFault
changed store (Ok index) change = with_change store index (change (slot_at store index))
changed store (Err fault) change = Err fault

-- the MULTI text is replaced: refused 6 where it is longer than a text may be, 7 where the used bytes would pass the
-- budget, the old text's given back (NTCIP 1203 v03, dmsMessageMultiString)
abbrev pub multi_set : StoreData → MsgRef → List ℕ → Result StoreData StoreFault
multi_set store message text = changed store (writable store message) (λ slot.
    if nat_lt store.limits.max_string (length text) then Err fault.TooLong
    else (if nat_lt store.limits.bytes (used_bytes store - length slot.multi + length text) then Err fault.NoSpace
    else Ok (record slot { multi = text })))

-- the owner is replaced: refused 6 above 127 octets, 7 as a text (NTCIP 1203 v03, dmsMessageOwner)
abbrev pub owner_set : StoreData → MsgRef → List ℕ → Result StoreData StoreFault
owner_set store message owner = changed store (writable store message) (λ slot.
    if nat_lt 127 (length owner) then Err fault.TooLong
    else (if nat_lt store.limits.bytes (used_bytes store - length slot.owner + length owner) then Err fault.NoSpace
    else Ok (record slot { owner = owner })))

-- the priority is set: refused 5 where it is 0 (NTCIP 1203 v03, dmsMessageRunTimePriority)
abbrev pub priority_set : StoreData → MsgRef → ℕ → Result StoreData StoreFault
priority_set store message priority = changed store (writable store message) (λ slot.
    if priority == 0 then Err fault.BadValue else Ok (record slot { priority = priority }))

-- the beacon is set: refused 5 above 1 (NTCIP 1203 v03, dmsMessageBeacon)
abbrev pub beacon_set : StoreData → MsgRef → ℕ → Result StoreData StoreFault
beacon_set store message beacon = changed store (writable store message) (λ slot.
    if nat_lt 1 beacon then Err fault.BadValue else Ok (record slot { beacon = beacon }))

-- the pixel service is set: refused 5 above 1 (NTCIP 1203 v03, dmsMessagePixelService)
abbrev pub pixel_service_set : StoreData → MsgRef → ℕ → Result StoreData StoreFault
pixel_service_set store message pixel = changed store (writable store message) (λ slot.
    if nat_lt 1 pixel then Err fault.BadValue else Ok (record slot { pixel = pixel }))

-- what a request makes of a slot: modifyReq is taken unless it waits to be judged, validateReq where it is being
-- modified, notUsedReq always; refused 4 else, and 5 where it is no request (NTCIP 1203 v03, dmsMessageStatus)
abbrev pub requested_slot : Option Request → SlotData → Result SlotData StoreFault
requested_slot (Some Modify) slot = if is_validating slot.status then Err fault.WrongState else Ok (record slot { status = Modifying })
requested_slot (Some Validate) slot = if is_modifying slot.status then Ok (record slot { status = Validating }) else Err fault.WrongState
requested_slot (Some NotUse) slot = Ok empty_slot
requested_slot None slot = Err fault.BadValue

-- a request is made (NTCIP 1203 v03, dmsMessageStatus)
abbrev pub requested : StoreData → MsgRef → ℕ → Result StoreData StoreFault
requested store message code = changed store (addressed store message) (requested_slot (request_numbered code))

-- no slot is used any more (NTCIP 1203 v03, dmsMemoryMgmt)
abbrev pub cleared : StoreData → StoreData
cleared store = record store { slots = replicate (length store.slots) empty_slot }

-- the call made this of the store, or was refused and changed nothing (own)
abbrev pub StepsTo : Result StoreData StoreFault → StoreData → StoreData → Result (Unit {0}) StoreFault → Type 0
StepsTo (Ok store) old new result = IsOk result × (new ≡ store)
StepsTo (Err fault) old new result = (result ≡ Err fault) × (new ≡ old)
