-- The changeable messages in saved octets.
use Rattle.std.specs.Prelude.{◌≡◌, ◌≤◌, ℕ, zero, suc, ◌+◌, ◌-◌, Bool, ◌||◌, ◌==◌, not, nat_lt, if◌then◌else◌, List, [], ◌∷◌, ◌++◌, drop, length, slice_index, Option, Some, None, Result, Ok, Err, IsOk}
use Rattle.std.specs.List.{flat_map}
use Rattle.byteorder.specs.Endian.{big_bytes, big_number}
use Rattle.message_store.specs.declared.limits.StoreLimits.{StoreLimits}
use Rattle.message_store.specs.declared.slot.Status.{Status}
use Rattle.message_store.specs.Codes.{status_code}
use Rattle.message_store.specs.View.{status_numbered}
use Rattle.message_store.specs.Ranged.{AreRanged}
use Rattle.message_store.specs.Slot.{SlotData, StoreData, slot_bytes}
use Rattle.saved_octets.specs.declared.fault.StateFault.{StateFault}
use Rattle.saved_octets.specs.declared.fault.StateFault.TheVariants.{Length, NoSpace, Slots, Value}
use Rattle.saved_octets.specs.declared.slot.Head.{Head}
use Rattle.saved_octets.specs.Field.{◌>>=◌, text_in, text_octets}

-- a changeable message: its status, priority, beacon and pixel service in an octet each, and then its text and its owner (own)
abbrev pub slot_octets : SlotData → List ℕ
slot_octets slot =
    status_code slot.status ∷ slot.priority ∷ slot.beacon ∷ slot.pixel ∷ [] ++ text_octets slot.multi ++ text_octets slot.owner

-- messages one after the other (own)
abbrev pub slots_octets : List SlotData → List ℕ
slots_octets slots = flat_map slot_octets slots

-- the messages of a table: their number in two octets, and then each (own)
abbrev pub table_octets : List SlotData → List ℕ
table_octets slots = big_bytes 2 (length slots) ++ slots_octets slots

-- a priority, a beacon or a pixel service is outside its range (own)
abbrev pub is_unranged : ℕ → ℕ → ℕ → Bool
is_unranged priority beacon pixel = (priority == 0) || (nat_lt 1 beacon || nat_lt 1 pixel)

-- what a message has beside its texts, unless the status is none, or a number is outside its range (own)
abbrev pub ranged_head : Option Status → ℕ → ℕ → ℕ → Result Head StateFault
ranged_head None priority beacon pixel = Err Value
ranged_head (Some status) priority beacon pixel =
    if is_unranged priority beacon pixel then Err Value
    else Ok (record { status = status; priority = priority; beacon = beacon; pixel = pixel })

-- the same of the four octets at the front (own)
unfoldable pub head_in : List ℕ → Result Head StateFault
head_in octets =
    if nat_lt (length octets) 4 then Err Length
    else ranged_head (status_numbered (slice_index octets 0)) (slice_index octets 1) (slice_index octets 2) (slice_index octets 3)

-- a message of what it has beside its texts, and its texts (own)
abbrev pub whole : Head → List ℕ → List ℕ → SlotData
whole head multi owner =
    record { status = head.status; multi = multi; owner = owner; priority = head.priority; beacon = head.beacon; pixel = head.pixel }

-- the message at the front, whose texts are within the limits and have so many octets at most, and the octets after it (own)
unfoldable pub slot_in : StoreLimits → ℕ → List ℕ → Result (SlotData × List ℕ) StateFault
slot_in limits left octets = do
  head ← head_in octets
  multi ← text_in limits.max_string (drop 4 octets)
  owner ← text_in 127 multi.1
  if nat_lt left (length multi.0 + length owner.0) then Err NoSpace else Ok (whole head multi.0 owner.0, owner.1)

-- so many messages one after the other, whose texts have so many octets at most together, and the octets after them (own)
unfoldable pub slots_in : StoreLimits → ℕ → ℕ → List ℕ → Result (List SlotData × List ℕ) StateFault
slots_in limits zero left octets = Ok ([], octets)
slots_in limits (suc n) left octets = do
  first ← slot_in limits left octets
  others ← slots_in limits n (left - slot_bytes first.0) first.1
  Ok (first.0 ∷ others.0, others.1)

-- the octets of the messages of a table with these limits, after their number (own)
unfoldable pub counted_in : StoreLimits → List ℕ → Result (List ℕ) StateFault
counted_in limits octets =
    if nat_lt (length octets) 2 then Err Length
    else (if not (big_number 2 octets == limits.slots) then Err Slots else Ok (drop 2 octets))

-- the messages of a table with these limits, in all of the octets (own)
unfoldable pub table_in : StoreLimits → List ℕ → Result (List SlotData) StateFault
table_in limits octets = do
  rest ← counted_in limits octets
  slots ← slots_in limits limits.slots limits.bytes rest
  if length slots.1 == 0 then Ok slots.0 else Err Length

-- the messages of a store are replaced by these; or there is a refusal, and nothing changes (own)
abbrev pub Replaces : Result (List SlotData) StateFault → StoreData → StoreData → Result (Unit {0}) StateFault → Type 0
Replaces (Ok slots) old new result = IsOk result × (new ≡ record old { slots = slots })
Replaces (Err fault) old new result = (result ≡ Err fault) × (new ≡ old)

-- a message's numbers are within their ranges (own)
abbrev pub IsRanged : SlotData → Type 0
IsRanged slot = AreRanged slot.priority slot.beacon slot.pixel

-- a message is within the limits and the ranges of those that are saved (own)
pub record IsWhole (limits : StoreLimits) (slot : SlotData) : Type 0 where
  pub ranged : IsRanged slot
  pub multi : length slot.multi ≤ limits.max_string
  pub owner : length slot.owner ≤ 127
