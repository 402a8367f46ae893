-- The texts of a store stay within their limits.
use Rattle.std.proofs.Common.{◌≡◌, ◌≤◌, ℕ, zero, suc, ◌+◌, ◌-◌, Bool, true, false, ◌==◌, nat_lt, if◌then◌else◌, List, [], length, Option, Some, None, Result, Ok, Err, refl, inl, inr, lit≤, arith}
use Rattle.std.specs.Prelude.{replicate}
use Rattle.std.specs.List.{All}
use Rattle.std.proofs.lemmas.Bool.{cases_Bool, ltb-false, ltb-true}
use Rattle.std.proofs.lemmas.List.Elements.{All-set, All-get_or, All-nil, All-cons}
use Rattle.std.proofs.lemmas.List.{get_or_past}
use Rattle.sign_font.specs.Sign.{SignData}
use Rattle.message_store.specs.declared.fault.StoreFault.{StoreFault}
use Rattle.message_store.specs.declared.fault.StoreFault.TheVariants as fault
use Rattle.message_store.specs.declared.limits.StoreLimits.{StoreLimits}
use Rattle.message_store.specs.declared.message.MemoryType.{MemoryType}
use Rattle.message_store.specs.declared.message.MemoryType.TheVariants as memory
use Rattle.message_store.specs.declared.message.MsgRef.{MsgRef}
use Rattle.message_store.specs.Codes.{memory_numbered, request_numbered}
use Rattle.message_store.specs.Limits.{IsPermanent, IsShort}
use Rattle.message_store.specs.Row.{RowData, is_current_buffer, row_at, row_in, row_of}
use Rattle.message_store.specs.Slot.{SlotData, StoreData, empty_slot, is_modifying, is_validating, permanent_at, slot_at, used_bytes}
use Rattle.message_store.specs.Step.{addressed, beacon_set, changed, cleared, found, multi_set, owner_set, pixel_service_set, priority_set, requested, requested_slot, with_change, with_slot, writable}
use Rattle.message_store.specs.Work.{judged_status, judgement, worked_at}

-- every text of a store is within the store's limits, and these aren't above 4,096 octets
pub record HasShort (store : StoreData) : Type 0 where
  pub longest : store.limits.max_string ≤ 4096
  pub slots : All (IsShort store.limits) store.slots
  pub permanent : All (IsPermanent store.limits) store.permanent

-- so does what a call makes of it
abbrev pub HasShortIn : Result StoreData StoreFault → Type 0
HasShortIn (Ok new) = HasShort new
HasShortIn (Err fault) = Unit {0}

-- a slot's texts stay within the limits
abbrev Shortens : StoreLimits → SlotData → Result SlotData StoreFault → Type 0
Shortens limits old (Ok new) = IsShort limits old → IsShort limits new
Shortens limits old (Err fault) = Unit {0}

empty-short : (limits : StoreLimits) → IsShort limits empty_slot
empty-short limits = record { multi = omega arith; owner = lit≤ tt }

-- a slot of a number that there isn't is empty
pub slot-short : (store : StoreData) (index : ℕ) → HasShort store → IsShort store.limits (slot_at store index)
slot-short store index is = elim (cases_Bool (nat_lt index (length store.slots))) [
  | inl below ↦ All-get_or (IsShort store.limits) store.slots index empty_slot (ltb-true index (length store.slots) below) is.slots
  | inr past ↦ rw (get_or_past store.slots index empty_slot (ltb-false index (length store.slots) past)) (empty-short store.limits)
]

pub short-slot : (store : StoreData) (index : ℕ) (slot : SlotData) → HasShort store → IsShort store.limits slot → HasShort (with_slot store index slot)
short-slot store index slot is short = record { longest = is.longest; slots = All-set (IsShort store.limits) store.slots index slot short is.slots; permanent = is.permanent }

short-change : (store : StoreData) (index : ℕ) (change : Result SlotData StoreFault) → HasShort store → Shortens store.limits (slot_at store index) change → HasShortIn (with_change store index change)
short-change store index (Ok new) is shortens = short-slot store index new is (shortens (slot-short store index is))
short-change store index (Err fault) is shortens = tt

short-changed : (store : StoreData) (index : Result ℕ StoreFault) (change : SlotData → Result SlotData StoreFault) → HasShort store
    → ((slot : SlotData) → Shortens store.limits slot (change slot)) → HasShortIn (changed store index change)
short-changed store (Ok index) change is shortens = short-change store index (change (slot_at store index)) is (shortens (slot_at store index))
short-changed store (Err fault) change is shortens = tt

shortens-unless : (limits : StoreLimits) (slot : SlotData) (test : Bool) (fault : StoreFault) (other : Result SlotData StoreFault) → (test ≡ false → Shortens limits slot other)
    → Shortens limits slot (if test then Err fault else other)
shortens-unless limits slot true fault other shortens = tt
shortens-unless limits slot false fault other shortens = shortens refl

shortens-where : (limits : StoreLimits) (slot : SlotData) (test : Bool) (fault : StoreFault) (other : Result SlotData StoreFault) → Shortens limits slot other
    → Shortens limits slot (if test then other else Err fault)
shortens-where limits slot true fault other shortens = shortens
shortens-where limits slot false fault other shortens = tt

-- a slot with the same texts
same-texts : (limits : StoreLimits) (old new : SlotData) → new.multi ≡ old.multi → new.owner ≡ old.owner → IsShort limits old → IsShort limits new
same-texts limits old new multi owner is = record { multi = rw multi is.multi; owner = rw owner is.owner }

shortens-requested : (limits : StoreLimits) (code : ℕ) (slot : SlotData) → Shortens limits slot (requested_slot (request_numbered code) slot)
shortens-requested limits code slot = elim (cases_Bool (code == 6)) [
  | inl six ↦ rw six (shortens-unless limits slot (is_validating slot.status) fault.WrongState _ (λ waits is. record { multi = is.multi; owner = is.owner }))
  | inr six ↦ rw six (elim (cases_Bool (code == 7)) [
    | inl seven ↦ rw seven (shortens-where limits slot (is_modifying slot.status) fault.WrongState _ (λ is. record { multi = is.multi; owner = is.owner }))
    | inr seven ↦ rw seven (elim (cases_Bool (code == 8)) [
      | inl eight ↦ rw eight (λ is. empty-short limits)
      | inr eight ↦ rw eight tt
    ])
  ])
]

pub short-requested : (store : StoreData) (message : MsgRef) (code : ℕ) → HasShort store → HasShortIn (requested store message code)
short-requested store message code is = short-changed store (addressed store message) (requested_slot (request_numbered code)) is (λ slot. shortens-requested store.limits code slot)

pub short-multi : (store : StoreData) (message : MsgRef) (text : List ℕ) → HasShort store → HasShortIn (multi_set store message text)
short-multi store message text is = short-changed store (writable store message) _ is (λ slot.
    shortens-unless store.limits slot (nat_lt store.limits.max_string (length text)) fault.TooLong _ (λ short.
    shortens-unless store.limits slot (nat_lt store.limits.bytes (used_bytes store - length slot.multi + length text)) fault.NoSpace (Ok (record slot { multi = text })) (λ room old.
    record { multi = ltb-false store.limits.max_string (length text) short; owner = old.owner })))

pub short-owner : (store : StoreData) (message : MsgRef) (owner : List ℕ) → HasShort store → HasShortIn (owner_set store message owner)
short-owner store message owner is = short-changed store (writable store message) _ is (λ slot.
    shortens-unless store.limits slot (nat_lt 127 (length owner)) fault.TooLong _ (λ short.
    shortens-unless store.limits slot (nat_lt store.limits.bytes (used_bytes store - length slot.owner + length owner)) fault.NoSpace (Ok (record slot { owner = owner })) (λ room old.
    record { multi = old.multi; owner = ltb-false 127 (length owner) short })))

pub short-priority : (store : StoreData) (message : MsgRef) (priority : ℕ) → HasShort store → HasShortIn (priority_set store message priority)
short-priority store message priority is = short-changed store (writable store message) _ is (λ slot.
    shortens-unless store.limits slot (priority == 0) fault.BadValue (Ok (record slot { priority = priority })) (λ some old. record { multi = old.multi; owner = old.owner }))

pub short-beacon : (store : StoreData) (message : MsgRef) (beacon : ℕ) → HasShort store → HasShortIn (beacon_set store message beacon)
short-beacon store message beacon is = short-changed store (writable store message) _ is (λ slot.
    shortens-unless store.limits slot (nat_lt 1 beacon) fault.BadValue (Ok (record slot { beacon = beacon })) (λ some old. record { multi = old.multi; owner = old.owner }))

pub short-pixel : (store : StoreData) (message : MsgRef) (pixel : ℕ) → HasShort store → HasShortIn (pixel_service_set store message pixel)
short-pixel store message pixel is = short-changed store (writable store message) _ is (λ slot.
    shortens-unless store.limits slot (nat_lt 1 pixel) fault.BadValue (Ok (record slot { pixel = pixel })) (λ some old. record { multi = old.multi; owner = old.owner }))

all-empty : (limits : StoreLimits) (count : ℕ) → All (IsShort limits) (replicate count empty_slot)
all-empty limits zero = All-nil (IsShort limits)
all-empty limits (suc count) = All-cons (IsShort limits) empty_slot (replicate count empty_slot) (empty-short limits) (all-empty limits count)

pub short-cleared : (store : StoreData) → HasShort store → HasShort (cleared store)
short-cleared store is = record { longest = is.longest; slots = all-empty store.limits (length store.slots); permanent = is.permanent }

-- a store of which a message was judged
pub short-worked : (sign : SignData) (store : StoreData) (index : Option ℕ) → HasShort store → HasShort (worked_at sign store index).store
short-worked sign store None is = is
short-worked sign store (Some index) is =
    let short = slot-short store index is in
    short-slot store index (record (slot_at store index) { status = judged_status (judgement sign (slot_at store index)).error }) is (record { multi = short.multi; owner = short.owner })

-- ---- the text of a message

-- the text of a row isn't longer than 4,096 octets
abbrev pub IsShortRow : Result RowData StoreFault → Type 0
IsShortRow (Ok row) = length row.multi ≤ 4096
IsShortRow (Err fault) = Unit {0}

permanent-short : (store : StoreData) (index : ℕ) → HasShort store → length (permanent_at store index).multi ≤ 4096
permanent-short store index is = elim (cases_Bool (nat_lt index (length store.permanent))) [
  | inl below ↦
      let within = All-get_or (IsPermanent store.limits) store.permanent index (record { multi = []; priority = 1; beacon = 0; pixel = 0 }) (ltb-true index (length store.permanent) below) is.permanent in
      omega (arith, within.multi, is.longest)
  | inr past ↦ rw (get_or_past store.permanent index (record { multi = []; priority = 1; beacon = 0; pixel = 0 }) (ltb-false index (length store.permanent) past)) (lit≤ tt)
]

row-in-short : (store : StoreData) (number : ℕ) (m : MemoryType) → HasShort store → IsShortRow (row_in store number m)
row-in-short store number memory.Permanent is = permanent-short store (number - 1) is
row-in-short store number memory.Changeable is = omega (arith, (slot-short store (number - 1) is).multi, is.longest)
row-in-short store number memory.CurrentBuffer is = tt
row-in-short store number memory.Blank is = lit≤ tt

row-of-short : (store : StoreData) (number : ℕ) (m : Result MemoryType StoreFault) → HasShort store → IsShortRow (row_of store number m)
row-of-short store number (Ok m) is = row-in-short store number m is
row-of-short store number (Err fault) is = tt

row-if-short : (test : Bool) (fault : StoreFault) (row : Result RowData StoreFault) → IsShortRow row → IsShortRow (if test then Err fault else row)
row-if-short true fault row short = tt
row-if-short false fault row short = short

pub row-short : (store : StoreData) (message : MsgRef) → HasShort store → IsShortRow (row_at store message)
row-short store message is = row-if-short (is_current_buffer (memory_numbered message.memory)) fault.MemoryType _ (row-of-short store message.number (found store message) is)
