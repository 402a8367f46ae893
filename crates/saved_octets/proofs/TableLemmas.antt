-- Messages that are put one after the other.
use Rattle.std.proofs.Common.{◌≡◌, ◌<◌, ◌≤◌, ℕ, ◌+◌, ◌*◌, List, [], ◌∷◌, ◌++◌, take, length, slice_index_or, refl, sym, ap, ◌∙◌, arith, length-append}
use Rattle.std.specs.List.{All, AllByRecursion, sum_by}
use Rattle.std.proofs.lemmas.List.{take_more, take_all, flat_map_more}
use Rattle.std.proofs.lemmas.List.Concat.{flat_map-cons}
use Rattle.std.proofs.lemmas.List.Elements.{All-head, All-tail}
use Rattle.std.proofs.lemmas.List.Folds.{length-flat_map-take}
use Rattle.std.proofs.lemmas.List.Sums.{sum_by-cons}
use Rattle.byteorder.specs.Endian.{big_bytes}
use Rattle.message_store.specs.Slot.{SlotData, empty_slot, slot_bytes}
use Rattle.saved_octets.specs.Field.{placed, text_octets}
use Rattle.message_store.specs.declared.limits.StoreLimits.{StoreLimits}
use Rattle.message_store.specs.Limits.{IsShort}
use Rattle.saved_octets.specs.Slots.{IsRanged, IsWhole, slot_octets, slots_octets, table_octets}
use Rattle.saved_octets.proofs.PlacedLemmas.{placed_more}

-- the octets of a message: eight, and those of its texts
pub length-slot : (slot : SlotData) → length (slot_octets slot) ≡ 8 + slot_bytes slot
length-slot slot = omega (arith, length-append slot.multi (text_octets slot.owner))

pub length-slots : (slots : List SlotData) → length (slots_octets slots) ≡ 8 * length slots + sum_by slot_bytes slots
length-slots [] = refl
length-slots (slot ∷ slots) =
    ap (λ (l : List ℕ). length l) (flat_map-cons slot_octets slot slots)
    ∙ length-append (slot_octets slot) (slots_octets slots)
    ∙ omega (arith, length-slot slot, length-slots slots, sum_by-cons slot_bytes slot slots)

-- the octets up to a message
abbrev pub table_front : List SlotData → ℕ → List ℕ
table_front slots i = big_bytes 2 (length slots) ++ slots_octets (take i slots)

pub length-front : (slots : List SlotData) (i : ℕ) → length (table_front slots i) ≡ 2 + length (slots_octets (take i slots))
length-front slots i = omega arith

-- there is room for the next message
pub room_next : (slots : List SlotData) (i at end size : ℕ) (slot : SlotData) → i < length slots → slot ≡ slice_index_or slots i empty_slot
    → end ≡ at + length (table_front slots i) → at + 2 + 8 * length slots + sum_by slot_bytes slots ≤ size → end + slot_bytes slot + 8 ≤ size
room_next slots i at end size slot below is ends room =
    omega (
      arith,
      ends,
      room,
      length-front slots i,
      length-slots slots,
      length-slot slot,
      ap (λ (s : SlotData). length (slot_octets s)) is,
      length-flat_map-take slot_octets slots i empty_slot below,
    )

-- the next message was put
pub put_next : (old now after : List ℕ) (slots : List SlotData) (i at end : ℕ) (slot : SlotData) → i < length slots → slot ≡ slice_index_or slots i empty_slot
    → now ≡ placed old at (table_front slots i) → end ≡ at + length (table_front slots i)
    → at + 2 + 8 * length slots + sum_by slot_bytes slots ≤ length old → after ≡ placed now end (slot_octets slot) → after ≡ placed old at (table_front slots (i + 1))
put_next old now after slots i at end slot below is was ends room put =
    let long = room_next slots i at end (length old) slot below is ends room in
    placed_more old now after (table_front slots i) (slot_octets slot) at end was ends (omega (arith, long, length-slot slot)) put
    ∙ ap (placed old at) (
    flat_map_more slot_octets (big_bytes 2 (length slots)) (take i slots) slot
    ∙ ap (λ (l : List SlotData). big_bytes 2 (length slots) ++ slots_octets l) (ap (λ (s : SlotData). take i slots ++ s ∷ []) is ∙ sym (take_more slots i empty_slot below)))

-- the next message ends there
pub end_next : (slots : List SlotData) (i at end : ℕ) (slot : SlotData) → i < length slots → slot ≡ slice_index_or slots i empty_slot
    → end ≡ at + length (table_front slots i) → end + (8 + slot_bytes slot) ≡ at + length (table_front slots (i + 1))
end_next slots i at end slot below is ends =
    let more = flat_map_more slot_octets (big_bytes 2 (length slots)) (take i slots) slot
    ∙ ap (λ (l : List SlotData). big_bytes 2 (length slots) ++ slots_octets l) (ap (λ (s : SlotData). take i slots ++ s ∷ []) is ∙ sym (take_more slots i empty_slot below)) in
    omega (arith, ends, length-slot slot, ap (λ (l : List ℕ). length l) more, length-append (table_front slots i) (slot_octets slot))

-- all of them were put
pub front-all : (slots : List SlotData) (i : ℕ) → length slots ≤ i → table_front slots i ≡ table_octets slots
front-all slots i all = ap (λ (l : List SlotData). big_bytes 2 (length slots) ++ slots_octets l) (take_all i slots all)

-- messages that are within their ranges, and whose texts are within their limits
pub all_whole : (limits : StoreLimits) (slots : List SlotData) → All IsRanged slots → All (IsShort limits) slots → AllByRecursion (IsWhole limits) slots
all_whole limits [] ranged short = tt
all_whole limits (slot ∷ slots) ranged short =
    let first = All-head (IsShort limits) slot slots short in
    let whole : IsWhole limits slot = record { ranged = All-head IsRanged slot slots ranged; multi = first.multi; owner = first.owner } in
    (whole, all_whole limits slots (All-tail IsRanged slot slots ranged) (All-tail (IsShort limits) slot slots short))
