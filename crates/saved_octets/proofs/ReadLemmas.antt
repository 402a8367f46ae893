-- Messages that are read one after the other.
use Rattle.std.proofs.Common.{◌≡◌, ◌<◌, ◌≤◌, ◌^◌, ℕ, zero, suc, ◌+◌, ◌-◌, true, false, cond, ltb, eqb, List, [], ◌∷◌, ◌++◌, take, drop, length, replicate, slice_index_or, slice_set, Result, Ok, Err, refl, sym, ap, ◌∙◌, subst, arith, append_assoc, eq-eqb}
use Rattle.std.specs.List.{AllByRecursion, sum_by}
use Rattle.std.proofs.lemmas.Bool.{le-ltb}
use Rattle.std.proofs.lemmas.Bool.Decides.{nat_tests}
use Rattle.std.proofs.lemmas.List.{take_more_set, take_all, append-nil, length-set, drop-drop, get_or-drop, drop-set-add}
use Rattle.std.proofs.lemmas.List.Concat.{flat_map-cons}
use Rattle.std.proofs.lemmas.List.Sums.{sum_by-cons, sum_by-set}
use Rattle.byteorder.specs.Endian.{big_number}
use Rattle.byteorder.specs.Numbers.{big_number-reads_back}
use Rattle.message_store.specs.declared.slot.Status.{Status}
use Rattle.message_store.specs.declared.slot.Status.TheVariants.{NotUsed, Modifying, Validating, Valid, Error}
use Rattle.message_store.specs.declared.limits.StoreLimits.{StoreLimits}
use Rattle.message_store.specs.Codes.{status_code}
use Rattle.message_store.specs.View.{status_numbered}
use Rattle.message_store.specs.Slot.{SlotData, StoreData, empty_slot, slot_bytes}
use Rattle.message_store.specs.Step.{with_slot}
use Rattle.saved_octets.specs.declared.fault.StateFault.{StateFault}
use Rattle.saved_octets.specs.declared.fault.StateFault.TheVariants as fault
use Rattle.saved_octets.specs.Field.{◌>>=◌, text_octets}
use Rattle.saved_octets.specs.Slots.{IsWhole, Replaces, is_unranged, head_in, ranged_head, slot_in, slot_octets, slots_in, slots_octets, table_in, table_octets, counted_in}
use Rattle.saved_octets.specs.internal.Reading.{IsFilling, behind, rest_of}
use Rattle.saved_octets.proofs.FieldLemmas.{text_again}

-- ---- what is written is read again

-- the tests of a number that is within its range
from_one : (n : ℕ) → 1 ≤ n → eqb n 0 ≡ false
from_one zero h = absurd (omega arith)
from_one (suc n) h = grind (arith, nat_tests)

pub unranged_again : (priority beacon pixel : ℕ) → 1 ≤ priority → beacon ≤ 1 → pixel ≤ 1 → is_unranged priority beacon pixel ≡ false
unranged_again priority beacon pixel p b x = rw (from_one priority p, le-ltb 1 beacon b, le-ltb 1 pixel x) refl

ranged_again : (status : Status) (priority beacon pixel : ℕ) → 1 ≤ priority → beacon ≤ 1 → pixel ≤ 1
    → ranged_head (status_numbered (status_code status)) priority beacon pixel ≡ Ok (record { status = status; priority = priority; beacon = beacon; pixel = pixel })
ranged_again NotUsed priority beacon pixel p b x = rw (from_one priority p, le-ltb 1 beacon b, le-ltb 1 pixel x) refl
ranged_again Modifying priority beacon pixel p b x = rw (from_one priority p, le-ltb 1 beacon b, le-ltb 1 pixel x) refl
ranged_again Validating priority beacon pixel p b x = rw (from_one priority p, le-ltb 1 beacon b, le-ltb 1 pixel x) refl
ranged_again Valid priority beacon pixel p b x = rw (from_one priority p, le-ltb 1 beacon b, le-ltb 1 pixel x) refl
ranged_again Error priority beacon pixel p b x = rw (from_one priority p, le-ltb 1 beacon b, le-ltb 1 pixel x) refl

head_again : (slot : SlotData) (rest : List ℕ) → 1 ≤ slot.priority → slot.beacon ≤ 1 → slot.pixel ≤ 1
    → head_in (status_code slot.status ∷ slot.priority ∷ slot.beacon ∷ slot.pixel ∷ rest) ≡ Ok (record { status = slot.status; priority = slot.priority; beacon = slot.beacon; pixel = slot.pixel })
unfolding head_in
head_again slot rest p b x =
    let octets = status_code slot.status ∷ slot.priority ∷ slot.beacon ∷ slot.pixel ∷ rest in
    let long : ltb (length octets) 4 ≡ false = le-ltb _ _ (let e : 4 ≤ length octets = omega arith in e) in
    rw (long, ranged_again slot.status slot.priority slot.beacon slot.pixel p b x) refl

slot_again : (limits : StoreLimits) (left : ℕ) (slot : SlotData) (rest : List ℕ) → limits.max_string < 2 ^ 16 → IsWhole limits slot → slot_bytes slot ≤ left
    → slot_in limits left (slot_octets slot ++ rest) ≡ Ok (slot, rest)
unfolding slot_in
slot_again limits left slot rest narrow is room =
    let behind-head : List ℕ = text_octets slot.multi ++ (text_octets slot.owner ++ rest) in
    let grouped : slot_octets slot ++ rest ≡ status_code slot.status ∷ slot.priority ∷ slot.beacon ∷ slot.pixel ∷ behind-head =
    ap (λ (l : List ℕ). status_code slot.status ∷ slot.priority ∷ slot.beacon ∷ slot.pixel ∷ l) (append_assoc (text_octets slot.multi) (text_octets slot.owner) rest) in
    let fits : ltb left (length slot.multi + length slot.owner) ≡ false = le-ltb _ _ room in
    ap (slot_in limits left) grouped
    ∙ rw (
      head_again slot behind-head is.ranged.from_one is.ranged.beacon_flag is.ranged.pixel_flag,
      text_again limits.max_string slot.multi (text_octets slot.owner ++ rest) is.multi narrow,
      text_again 127 slot.owner rest is.owner (omega arith),
      fits,
    ) refl

pub slots_again : (limits : StoreLimits) (left : ℕ) (slots : List SlotData) (rest : List ℕ) → limits.max_string < 2 ^ 16 → AllByRecursion (IsWhole limits) slots → sum_by slot_bytes slots ≤ left
    → slots_in limits (length slots) left (slots_octets slots ++ rest) ≡ Ok (slots, rest)
unfolding slots_in
slots_again limits left [] rest narrow are room = refl
slots_again limits left (slot ∷ slots) rest narrow are room =
    let grouped : slots_octets (slot ∷ slots) ++ rest ≡ slot_octets slot ++ (slots_octets slots ++ rest) =
    ap (λ (l : List ℕ). l ++ rest) (flat_map-cons slot_octets slot slots) ∙ append_assoc (slot_octets slot) (slots_octets slots) rest in
    let both = sum_by-cons slot_bytes slot slots in
    ap (slots_in limits (suc (length slots)) left) grouped
    ∙ rw (
      slot_again limits left slot (slots_octets slots ++ rest) narrow are.0 (omega (arith, both, room)),
      slots_again limits (left - slot_bytes slot) slots rest narrow are.1 (omega (arith, both, room)),
    ) refl

-- ---- the octets after messages

rest_more : (slot : SlotData) (read : Result (List SlotData × List ℕ) StateFault) → rest_of (read >>= λ x. Ok (slot ∷ x.0, x.1)) ≡ rest_of read
rest_more slot (Ok x) = refl
rest_more slot (Err e) = refl

pub rest_next : (limits : StoreLimits) (count i left : ℕ) (octets after : List ℕ) (slot : SlotData) (total : Result (List ℕ) StateFault) → i < count → slot_in limits left octets ≡ Ok (slot, after)
    → rest_of (slots_in limits (count - i) left octets) ≡ total → rest_of (slots_in limits (count - (i + 1)) (left - slot_bytes slot) after) ≡ total
unfolding slots_in
rest_next limits count i left octets after slot total below is so_far =
    let k : count - i ≡ suc (count - (i + 1)) = omega arith in
    let one : rest_of (slots_in limits (count - i) left octets) ≡ rest_of (slots_in limits (count - (i + 1)) (left - slot_bytes slot) after) =
    rw (k, is) (rest_more slot (slots_in limits (count - (i + 1)) (left - slot_bytes slot) after)) in
    sym one ∙ so_far

pub rest_ends : (limits : StoreLimits) (count i left : ℕ) (octets : List ℕ) (e : StateFault) (total : Result (List ℕ) StateFault) → i < count → slot_in limits left octets ≡ Err e
    → rest_of (slots_in limits (count - i) left octets) ≡ total → total ≡ Err e
unfolding slots_in
rest_ends limits count i left octets e total below is so_far =
    let k : count - i ≡ suc (count - (i + 1)) = omega arith in
    let one : rest_of (slots_in limits (count - i) left octets) ≡ Err e = rw (k, is) refl in
    sym so_far ∙ one

pub rest_done : (limits : StoreLimits) (count i left : ℕ) (octets : List ℕ) (total : Result (List ℕ) StateFault) → count ≤ i
    → rest_of (slots_in limits (count - i) left octets) ≡ total → total ≡ Ok octets
unfolding slots_in
rest_done limits count i left octets total all so_far =
    let k : count - i ≡ 0 = omega arith in
    let one : rest_of (slots_in limits (count - i) left octets) ≡ Ok octets = rw k refl in
    sym so_far ∙ one

-- ---- a store that is filled

behind_more : (front : List SlotData) (slot : SlotData) (read : Result (List SlotData × List ℕ) StateFault)
    → behind front (read >>= λ x. Ok (slot ∷ x.0, x.1)) ≡ behind (front ++ slot ∷ []) read
behind_more front slot (Ok x) = ap (λ (l : List SlotData). let r : Result (List SlotData × List ℕ) StateFault = Ok (l, x.1) in r) (sym (append_assoc front (slot ∷ []) x.0))
behind_more front slot (Err e) = refl

read_next : (limits : StoreLimits) (front : List SlotData) (count i left : ℕ) (octets after : List ℕ) (slot : SlotData) (total : Result (List SlotData × List ℕ) StateFault)
    → i < count → slot_in limits left octets ≡ Ok (slot, after) → behind front (slots_in limits (count - i) left octets) ≡ total
    → behind (front ++ slot ∷ []) (slots_in limits (count - (i + 1)) (left - slot_bytes slot) after) ≡ total
unfolding slots_in
read_next limits front count i left octets after slot total below is so_far =
    let k : count - i ≡ suc (count - (i + 1)) = omega arith in
    let one : behind front (slots_in limits (count - i) left octets) ≡ behind (front ++ slot ∷ []) (slots_in limits (count - (i + 1)) (left - slot_bytes slot) after) =
    rw (k, is) (behind_more front slot (slots_in limits (count - (i + 1)) (left - slot_bytes slot) after)) in
    sym one ∙ so_far

-- what stands after a message that is put at the front of empty ones
others_next : (slots : List SlotData) (i k : ℕ) (slot : SlotData) → drop i slots ≡ replicate (suc k) empty_slot → drop (i + 1) (slice_set slots i slot) ≡ replicate k empty_slot
others_next slots i k slot is =
    sym (drop-drop 1 i (slice_set slots i slot))
    ∙ ap (λ n. drop 1 (drop i (slice_set slots n slot))) (let e : i ≡ i + 0 = omega arith in e)
    ∙ ap (drop 1) (drop-set-add i slots 0 slot ∙ ap (λ (l : List SlotData). slice_set l 0 slot) is)

-- the message that is replaced is empty
empty_there : (slots : List SlotData) (i k : ℕ) → drop i slots ≡ replicate (suc k) empty_slot → slice_index_or slots i empty_slot ≡ empty_slot
empty_there slots i k is =
    ap (λ n. slice_index_or slots n empty_slot) (let e : i ≡ i + 0 = omega arith in e)
    ∙ sym (get_or-drop i slots 0 empty_slot)
    ∙ ap (λ (l : List SlotData). slice_index_or l 0 empty_slot) is

pub filling_next : (old now after : StoreData) (octets rest behind' : List ℕ) (i left : ℕ) (slot : SlotData) → i < old.limits.slots → IsFilling old now octets rest i left
    → slot_in old.limits left rest ≡ Ok (slot, behind') → slot_bytes slot ≤ left → after ≡ with_slot now i slot
    → IsFilling old after octets behind' (i + 1) (left - slot_bytes slot)
filling_next old now after octets rest behind' i left slot below is read room put =
    let count = old.limits.slots in
    let there : i < length now.slots = omega (arith, below, is.count) in
    let k : count - i ≡ suc (count - (i + 1)) = omega arith in
    let empty = is.others ∙ ap (λ n. replicate n empty_slot) k in
    let none : slot_bytes (slice_index_or now.slots i empty_slot) ≡ 0 = ap slot_bytes (empty_there now.slots i (count - (i + 1)) empty) in
    let next : IsFilling old (with_slot now i slot) octets behind' (i + 1) (left - slot_bytes slot) = record {
      read =
          ap (λ (l : List SlotData). behind l (slots_in old.limits (count - (i + 1)) (left - slot_bytes slot) behind')) (take_more_set now.slots i slot there)
          ∙ read_next old.limits (take i now.slots) count i left rest behind' slot (slots_in old.limits count old.limits.bytes octets) below read is.read;
      others = others_next now.slots i (count - (i + 1)) slot empty;
      room = omega (arith, is.room, room, none, sum_by-set slot_bytes now.slots i slot empty_slot there);
      count = length-set now.slots i slot ∙ is.count;
      same = ap (λ (st : StoreData). with_slot st i slot) is.same;
    } in
    let P : StoreData → Type 0 = λ st. IsFilling old st octets behind' (i + 1) (left - slot_bytes slot) in
    subst P (sym put) next

pub filling_stops : (old now : StoreData) (octets rest : List ℕ) (i left : ℕ) (e : StateFault) (slots : List SlotData) (last : List ℕ) → i < old.limits.slots
    → IsFilling old now octets rest i left → slot_in old.limits left rest ≡ Err e → slots_in old.limits old.limits.slots old.limits.bytes octets ≡ Ok (slots, last) → ⊥
unfolding slots_in
filling_stops old now octets rest i left e slots last below is read all =
    let count = old.limits.slots in
    let k : count - i ≡ suc (count - (i + 1)) = omega arith in
    let one : behind (take i now.slots) (slots_in old.limits (count - i) left rest) ≡ Err e = rw (k, read) refl in
    let both : (let r : Result (List SlotData × List ℕ) StateFault = Ok (slots, last) in r) ≡ Err e = sym all ∙ sym is.read ∙ one in
    cc

-- the messages that were read (own)
abbrev slots_of : Result (List SlotData × List ℕ) StateFault → List SlotData
slots_of (Ok x) = x.0
slots_of (Err e) = []

abbrev done : List SlotData → List ℕ → Result (List SlotData × List ℕ) StateFault
done slots rest = Ok (slots, rest)

pub filled_is : (old now : StoreData) (octets rest : List ℕ) (i left : ℕ) (slots : List SlotData) (last : List ℕ) → old.limits.slots ≤ i
    → IsFilling old now octets rest i left → slots_in old.limits old.limits.slots old.limits.bytes octets ≡ Ok (slots, last) → now ≡ record old { slots = slots }
unfolding slots_in
filled_is old now octets rest i left slots last all is read =
    let count = old.limits.slots in
    let k : count - i ≡ 0 = omega arith in
    let one : behind (take i now.slots) (slots_in old.limits (count - i) left rest) ≡ done (take i now.slots ++ []) rest = rw k refl in
    let both : done (take i now.slots ++ []) rest ≡ done slots last = sym one ∙ is.read ∙ read in
    let same : take i now.slots ++ [] ≡ slots = ap slots_of both in
    is.same ∙ ap (λ (l : List SlotData). let st : StoreData = record old { slots = l } in st)
    (sym (take_all i now.slots (omega (arith, is.count, all))) ∙ sym (append-nil (take i now.slots)) ∙ same)

-- ---- a table

pub table_uncounted : (limits : StoreLimits) (octets : List ℕ) (e : StateFault) → counted_in limits octets ≡ Err e → table_in limits octets ≡ Err e
unfolding table_in
table_uncounted limits octets e is = rw is refl

-- what was read, of the octets after it
pub readable : (read : Result (List SlotData × List ℕ) StateFault) (after : List ℕ) → rest_of read ≡ Ok after → (slots : List SlotData) × (last : List ℕ) × (read ≡ Ok (slots, last))
readable (Ok x) after is = (x.0, x.1, refl)
readable (Err e) after is = absurd cc

unread : (read : Result (List SlotData × List ℕ) StateFault) (e : StateFault) → rest_of read ≡ Err e → read ≡ Err e
unread (Ok x) e is = absurd cc
unread (Err f) e is = cc

behind_is : (read : Result (List SlotData × List ℕ) StateFault) (slots : List SlotData) (last after : List ℕ) → read ≡ Ok (slots, last) → rest_of read ≡ Ok after → last ≡ after
behind_is (Ok x) slots last after is rest = cc
behind_is (Err e) slots last after is rest = absurd cc

pub table_unread : (limits : StoreLimits) (octets rest : List ℕ) (e : StateFault) → counted_in limits octets ≡ Ok rest
    → rest_of (slots_in limits limits.slots limits.bytes rest) ≡ Err e → table_in limits octets ≡ Err e
unfolding table_in
table_unread limits octets rest e counted is = rw (counted, unread (slots_in limits limits.slots limits.bytes rest) e is) refl

pub table_read : (limits : StoreLimits) (octets rest after : List ℕ) (slots : List SlotData) (last : List ℕ) → counted_in limits octets ≡ Ok rest
    → slots_in limits limits.slots limits.bytes rest ≡ Ok (slots, last) → rest_of (slots_in limits limits.slots limits.bytes rest) ≡ Ok after
    → table_in limits octets ≡ cond (eqb (length after) 0) (Ok slots) (Err fault.Length)
unfolding table_in
table_read limits octets rest after slots last counted is behind-is =
    let same : last ≡ after = behind_is (slots_in limits limits.slots limits.bytes rest) slots last after is behind-is in
    rw (counted, is, same) refl

counted_again : (limits : StoreLimits) (slots : List SlotData) → length slots ≡ limits.slots → limits.slots < 2 ^ 16 → counted_in limits (table_octets slots) ≡ Ok (slots_octets slots)
unfolding counted_in
counted_again limits slots count few =
    let octets = table_octets slots in
    let long : ltb (length octets) 2 ≡ false = le-ltb _ _ (let e : 2 ≤ length octets = omega arith in e) in
    let read : big_number 2 octets ≡ length slots = big_number-reads_back 2 (length slots) (slots_octets slots) (omega (arith, count, few)) in
    let same : eqb (big_number 2 octets) limits.slots ≡ true = eq-eqb _ _ (read ∙ count) in
    rw (long, same) refl

pub table_again : (limits : StoreLimits) (slots : List SlotData) → length slots ≡ limits.slots → limits.slots < 2 ^ 16 → limits.max_string < 2 ^ 16
    → AllByRecursion (IsWhole limits) slots → sum_by slot_bytes slots ≤ limits.bytes → table_in limits (table_octets slots) ≡ Ok slots
table_again limits slots count few narrow are room =
    let octets = slots_octets slots in
    let read : slots_in limits limits.slots limits.bytes octets ≡ Ok (slots, []) =
    ap (λ n. slots_in limits n limits.bytes octets) (sym count)
    ∙ ap (slots_in limits (length slots) limits.bytes) (sym (append-nil octets))
    ∙ slots_again limits limits.bytes slots [] narrow are room in
    table_read limits (table_octets slots) octets [] slots [] (counted_again limits slots count few) read (ap rest_of read)

-- a refusal of the messages changes nothing
pub refused : (read : Result (List SlotData) StateFault) (old : StoreData) (result : Result (Unit {0}) StateFault) (e : StateFault) → read ≡ Err e → result ≡ Err e → Replaces read old old result
refused read old result e is was = let P : Result (List SlotData) StateFault → Type 0 = λ r. Replaces r old old result in subst P (sym is) (was, refl)

pub replaced : (read : Result (List SlotData) StateFault) (old new : StoreData) (slots : List SlotData) → read ≡ Ok slots → new ≡ record old { slots = slots } → Replaces read old new (Ok tt)
replaced read old new slots is put = let P : Result (List SlotData) StateFault → Type 0 = λ r. Replaces r old new (Ok tt) in subst P (sym is) (refl, put)
