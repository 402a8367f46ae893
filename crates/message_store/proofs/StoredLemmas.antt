-- How the slots with their texts follow what is kept.
use Rattle.std.proofs.Common.{◌≡◌, ℕ, zero, suc, ◌+◌, ◌*◌, ◌<◌, ◌≤◌, List, [], length, map, replicate, slice_set, slice_index_or, refl, sym, ap, ◌∙◌, subst, arith, true, not}
use Rattle.std.specs.List.{All, count_by, sum_by}
use Rattle.std.proofs.lemmas.List.{length-map, length-set, length-replicate, set-set, get_or-set_same}
use Rattle.std.proofs.lemmas.List.Sums.{sum_by-cons, sum_by-set, count_by-le-length}
use Rattle.std.proofs.lemmas.List.Elements.{All-get_or, All-set, All-replicate}
use Rattle.message_store.specs.declared.slot.Slot.{Slot}
use Rattle.message_store.specs.declared.limits.StoreLimits.{StoreLimits}
use Rattle.message_store.specs.declared.message.Permanent.{Permanent}
use Rattle.message_store.specs.internal.Pool.{Pool, used}
use Rattle.message_store.specs.Limits.{IsKept, IsShort, can_be_made, made}
use Rattle.message_store.specs.Slot.{SlotData, StoreData, slot_at, empty_slot, used_bytes, used_slots, is_not_used, permanent_of}
use Rattle.message_store.specs.Step.{cleared, with_slot}
use Rattle.message_store.proofs.WholeLemmas.{length-whole, get-whole, set-multi, set-owner, set-slot, used-whole, used_slots-whole, whole-empty}
use Rattle.message_store.proofs.LimitsLemmas.{sound-limits, sound-permanent}
use Rattle.message_store.specs.internal.Stored.{unused_slot, slot_of, whole, stored, IsStored}

-- ---- the store that is kept in these parts

-- what holds of it (own)
pub record IsSeen (limits : StoreLimits) (permanent : List Permanent) (slots : List Slot) (texts : Pool) (store : StoreData) : Type 0 where
  pub count_is : length store.slots ≡ length slots
  pub limits_is : store.limits ≡ limits
  pub permanent_is : length store.permanent ≡ length permanent
  pub used_slots_is : used_slots store ≡ count_by (λ (slot : Slot). not (is_not_used slot.status)) slots
  pub used_is : used_bytes store ≡ used texts
  pub pairs : length texts.texts ≡ 2 * length store.slots
  pub kept : IsKept store
  pub slot_is : (i : ℕ) (e : Slot) → i < length store.slots → slot_at store i ≡ slot_of (slice_index_or slots i e) (slot_at store i).multi (slot_at store i).owner
  pub multi_is : (i : ℕ) → i < length store.slots → (slot_at store i).multi ≡ slice_index_or texts.texts (2 * i) []
  pub owner_is : (i : ℕ) → i < length store.slots → (slot_at store i).owner ≡ slice_index_or texts.texts (2 * i + 1) []

-- a slot is its parts
rw-slot : (slot : Slot) (multi owner : List ℕ) (d : SlotData) → d ≡ slot_of slot multi owner → d ≡ slot_of slot d.multi d.owner
rw-slot slot multi owner d is = is ∙ ap (λ (m : List ℕ). slot_of slot m owner) (sym (ap (λ (x : SlotData). x.multi) is)) ∙ ap (λ (o : List ℕ). slot_of slot d.multi o) (sym (ap (λ (x : SlotData). x.owner) is))

seen-so : (limits : StoreLimits) (permanent : List Permanent) (slots : List Slot) (texts : Pool) → IsStored limits permanent slots texts → IsSeen limits permanent slots texts (stored limits permanent slots texts)
seen-so limits permanent slots texts is =
    let count = length-whole slots texts.texts in
    let used_is = used-whole slots texts.texts is.pairs in
    let count-le-length = count_by-le-length (λ (slot : SlotData). not (is_not_used slot.status)) (whole slots texts.texts) in
    record {
      count_is = count;
      limits_is = refl;
      permanent_is = length-map permanent permanent_of;
      used_slots_is = used_slots-whole slots texts.texts;
      used_is = used_is;
      pairs = omega (arith, is.pairs, count);
      kept = record {
        sound = is.sound;
        permanent = is.fixed;
        count = count ∙ is.count;
        short = is.short;
        within = omega (arith, used_is, is.within);
        used = omega (arith, count-le-length, count, is.count);
      };
      slot_is = λ i e below. rw-slot (slice_index_or slots i e) (slice_index_or texts.texts (2 * i) []) (slice_index_or texts.texts (2 * i + 1) []) _
          (get-whole slots texts.texts i empty_slot e (omega (arith, below, count)));
      multi_is = λ i below. ap (λ (slot : SlotData). slot.multi) (get-whole slots texts.texts i empty_slot unused_slot (omega (arith, below, count)));
      owner_is = λ i below. ap (λ (slot : SlotData). slot.owner) (get-whole slots texts.texts i empty_slot unused_slot (omega (arith, below, count)));
    }

pub seen : (limits : StoreLimits) (permanent : List Permanent) (slots : List Slot) (texts : Pool) (store : StoreData)
    → stored limits permanent slots texts ≡ store → IsStored limits permanent slots texts → IsSeen limits permanent slots texts store
seen limits permanent slots texts store is kept = let P : StoreData → Type 0 = IsSeen limits permanent slots texts in subst P is (seen-so limits permanent slots texts kept)

-- ---- one text is replaced

-- the pool with one text replaced (own)
abbrev pub with_text : Pool → ℕ → List ℕ → Pool
with_text texts place text = record texts { texts = slice_set texts.texts place text }

pub put-multi : (limits : StoreLimits) (permanent : List Permanent) (slots : List Slot) (texts : Pool) (store : StoreData) (i : ℕ) (text : List ℕ)
    → stored limits permanent slots texts ≡ store → IsStored limits permanent slots texts → i < length slots
    → stored limits permanent slots (with_text texts (2 * i) text) ≡ with_slot store i (record (slot_at store i) { multi = text })
put-multi limits permanent slots texts store i text is kept below =
    let all : List SlotData → StoreData = λ ss. record { limits = limits; permanent = map permanent_of permanent; slots = ss } in
    ap all (set-multi slots texts.texts i text empty_slot kept.pairs below) ∙ ap (λ (st : StoreData). with_slot st i (record (slot_at st i) { multi = text })) is

pub kept-multi : (limits : StoreLimits) (permanent : List Permanent) (slots : List Slot) (texts : Pool) (i : ℕ) (text : List ℕ)
    → IsStored limits permanent slots texts → i < length slots → length text ≤ limits.max_string → used texts + length text ≤ limits.bytes + length (slice_index_or texts.texts (2 * i) [])
    → IsStored limits permanent slots (with_text texts (2 * i) text)
kept-multi limits permanent slots texts i text is below short room =
    let old = slice_index_or (whole slots texts.texts) i empty_slot in
    let there : i < length (whole slots texts.texts) = omega (arith, below, length-whole slots texts.texts) in
    let was : IsShort limits old = All-get_or (IsShort limits) (whole slots texts.texts) i empty_slot there is.short in
    let now : IsShort limits (record old { multi = text }) = record { multi = short; owner = was.owner } in
    let P : List SlotData → Type 0 = All (IsShort limits) in
    record {
      sound = is.sound;
      fixed = is.fixed;
      count = is.count;
      pairs = length-set texts.texts (2 * i) text ∙ is.pairs;
      room = is.room;
      short = subst P (sym (set-multi slots texts.texts i text empty_slot is.pairs below)) (All-set (IsShort limits) (whole slots texts.texts) i (record old { multi = text }) now is.short);
      within = omega (arith, room, sum_by-set length texts.texts (2 * i) text [] (omega (arith, below, is.pairs)));
    }

pub put-owner : (limits : StoreLimits) (permanent : List Permanent) (slots : List Slot) (texts : Pool) (store : StoreData) (i : ℕ) (text : List ℕ)
    → stored limits permanent slots texts ≡ store → IsStored limits permanent slots texts → i < length slots
    → stored limits permanent slots (with_text texts (2 * i + 1) text) ≡ with_slot store i (record (slot_at store i) { owner = text })
put-owner limits permanent slots texts store i text is kept below =
    let all : List SlotData → StoreData = λ ss. record { limits = limits; permanent = map permanent_of permanent; slots = ss } in
    ap all (set-owner slots texts.texts i text empty_slot kept.pairs below) ∙ ap (λ (st : StoreData). with_slot st i (record (slot_at st i) { owner = text })) is

pub kept-owner : (limits : StoreLimits) (permanent : List Permanent) (slots : List Slot) (texts : Pool) (i : ℕ) (text : List ℕ)
    → IsStored limits permanent slots texts → i < length slots → length text ≤ 127 → used texts + length text ≤ limits.bytes + length (slice_index_or texts.texts (2 * i + 1) [])
    → IsStored limits permanent slots (with_text texts (2 * i + 1) text)
kept-owner limits permanent slots texts i text is below short room =
    let old = slice_index_or (whole slots texts.texts) i empty_slot in
    let there : i < length (whole slots texts.texts) = omega (arith, below, length-whole slots texts.texts) in
    let was : IsShort limits old = All-get_or (IsShort limits) (whole slots texts.texts) i empty_slot there is.short in
    let now : IsShort limits (record old { owner = text }) = record { multi = was.multi; owner = short } in
    let P : List SlotData → Type 0 = All (IsShort limits) in
    record {
      sound = is.sound;
      fixed = is.fixed;
      count = is.count;
      pairs = length-set texts.texts (2 * i + 1) text ∙ is.pairs;
      room = is.room;
      short = subst P (sym (set-owner slots texts.texts i text empty_slot is.pairs below)) (All-set (IsShort limits) (whole slots texts.texts) i (record old { owner = text }) now is.short);
      within = omega (arith, room, sum_by-set length texts.texts (2 * i + 1) text [] (omega (arith, below, is.pairs)));
    }

pub put-slot : (limits : StoreLimits) (permanent : List Permanent) (slots : List Slot) (texts : Pool) (store : StoreData) (i : ℕ) (slot : Slot)
    → stored limits permanent slots texts ≡ store → i < length slots
    → stored limits permanent (slice_set slots i slot) texts ≡ with_slot store i (slot_of slot (slot_at store i).multi (slot_at store i).owner)
put-slot limits permanent slots texts store i slot is below =
    let all : List SlotData → StoreData = λ ss. record { limits = limits; permanent = map permanent_of permanent; slots = ss } in
    ap all (set-slot slots texts.texts i slot empty_slot below) ∙ ap (λ (st : StoreData). with_slot st i (slot_of slot (slot_at st i).multi (slot_at st i).owner)) is

pub kept-slot : (limits : StoreLimits) (permanent : List Permanent) (slots : List Slot) (texts : Pool) (i : ℕ) (slot : Slot) → IsStored limits permanent slots texts → i < length slots
    → IsStored limits permanent (slice_set slots i slot) texts
kept-slot limits permanent slots texts i slot is below =
    let old = slice_index_or (whole slots texts.texts) i empty_slot in
    let there : i < length (whole slots texts.texts) = omega (arith, below, length-whole slots texts.texts) in
    let was : IsShort limits old = All-get_or (IsShort limits) (whole slots texts.texts) i empty_slot there is.short in
    let now : IsShort limits (slot_of slot old.multi old.owner) = record { multi = was.multi; owner = was.owner } in
    let P : List SlotData → Type 0 = All (IsShort limits) in
    record {
      sound = is.sound;
      fixed = is.fixed;
      count = length-set slots i slot ∙ is.count;
      pairs = omega (arith, is.pairs, length-set slots i slot);
      room = is.room;
      short = subst P (sym (set-slot slots texts.texts i slot empty_slot below)) (All-set (IsShort limits) (whole slots texts.texts) i (slot_of slot old.multi old.owner) now is.short);
      within = is.within;
    }

-- ---- a new store

-- a slot that is replaced again and again is what it was made at last
pub last-slot : (store : StoreData) (i : ℕ) (first second : SlotData) → with_slot (with_slot store i first) i second ≡ with_slot store i second
last-slot store i first second = ap (λ (ss : List SlotData). let st : StoreData = record store { slots = ss } in st) (set-set store.slots i first second)

-- a slot that was put in is there
pub slot-put : (store : StoreData) (i : ℕ) (slot : SlotData) → i < length store.slots → slot_at (with_slot store i slot) i ≡ slot
slot-put store i slot below = get_or-set_same store.slots i slot empty_slot below

-- a slot whose three parts are replaced one after the other
pub filled : (store first second third : StoreData) (i : ℕ) (slot : Slot) (multi owner : List ℕ) → i < length store.slots
    → first ≡ with_slot store i (slot_of slot (slot_at store i).multi (slot_at store i).owner)
    → second ≡ with_slot first i (record (slot_at first i) { multi = multi })
    → third ≡ with_slot second i (record (slot_at second i) { owner = owner })
    → third ≡ with_slot store i (slot_of slot multi owner)
filled store first second third i slot multi owner below put-slot-is put-multi-is put-owner-is =
    let old = slot_at store i in
    let one = slot_of slot old.multi old.owner in
    let two : second ≡ with_slot store i (slot_of slot multi old.owner) =
    put-multi-is
    ∙ ap (λ (st : StoreData). with_slot st i (record (slot_at st i) { multi = multi })) put-slot-is
    ∙ ap (λ (d : SlotData). with_slot (with_slot store i one) i (record d { multi = multi })) (slot-put store i one below)
    ∙ last-slot store i one (slot_of slot multi old.owner) in
    put-owner-is
    ∙ ap (λ (st : StoreData). with_slot st i (record (slot_at st i) { owner = owner })) two
    ∙ ap (λ (d : SlotData). with_slot (with_slot store i (slot_of slot multi old.owner)) i (record d { owner = owner })) (slot-put store i (slot_of slot multi old.owner) below)
    ∙ last-slot store i (slot_of slot multi old.owner) (slot_of slot multi owner)

-- empty texts have no octets
used-none : (count : ℕ) → sum_by (λ (t : List ℕ). length t) (replicate count []) ≡ 0
used-none zero = refl
used-none (suc count) = sum_by-cons (λ (t : List ℕ). length t) [] (replicate count []) ∙ omega (arith, used-none count)

-- the parts of a new store
pub kept-new : (limits : StoreLimits) (permanent : List Permanent) (slots : List Slot) (texts : Pool) (count : ℕ) → can_be_made limits (map permanent_of permanent) ≡ true → count ≡ limits.slots
    → slots ≡ replicate count unused_slot → texts ≡ record { texts = replicate (2 * count) []; room = limits.bytes } → IsStored limits permanent slots texts
kept-new limits permanent slots texts count are count-is slots-is texts-is =
    let pool : Pool = record { texts = replicate (2 * count) []; room = limits.bytes } in
    let both : IsStored limits permanent (replicate count unused_slot) pool = record {
      sound = sound-limits limits (map permanent_of permanent) are;
      fixed = sound-permanent limits (map permanent_of permanent) are;
      count = length-replicate count unused_slot ∙ count-is;
      pairs = length-replicate (2 * count) [] ∙ ap (λ n. 2 * n) (sym (length-replicate count unused_slot));
      room = refl;
      short = (let P : List SlotData → Type 0 = All (IsShort limits) in subst P (sym (whole-empty count unused_slot)) (All-replicate (IsShort limits) count empty_slot (record { multi = omega arith; owner = omega arith })));
      within = omega (arith, used-none (2 * count));
    } in
    let P : List Slot → Type 0 = λ ss. IsStored limits permanent ss pool in
    let Q : Pool → Type 0 = λ ts. IsStored limits permanent slots ts in
    subst Q (sym texts-is) (subst P (sym slots-is) both)

pub made-is : (limits : StoreLimits) (permanent : List Permanent) (slots : List Slot) (texts : Pool) (count : ℕ) → count ≡ limits.slots
    → slots ≡ replicate count unused_slot → texts ≡ record { texts = replicate (2 * count) []; room = limits.bytes }
    → stored limits permanent slots texts ≡ made limits (map permanent_of permanent)
made-is limits permanent slots texts count count-is slots-is texts-is =
    let all : List SlotData → StoreData = λ ss. record { limits = limits; permanent = map permanent_of permanent; slots = ss } in
    ap (λ (ss : List Slot). stored limits permanent ss texts) slots-is
    ∙ ap (λ (ts : Pool). stored limits permanent (replicate count unused_slot) ts) texts-is
    ∙ ap all (whole-empty count unused_slot)
    ∙ ap (λ n. all (replicate n empty_slot)) count-is

-- ---- a store that is cleared

-- the parts of a store that is cleared
pub kept-clear : (limits : StoreLimits) (permanent : List Permanent) (slots : List Slot) (texts : Pool) (empty : List Slot) (none : Pool)
    → IsStored limits permanent slots texts → empty ≡ replicate (length slots) unused_slot
    → none ≡ record texts { texts = replicate (length texts.texts) [] } → IsStored limits permanent empty none
kept-clear limits permanent slots texts empty none is empty_is none_is =
    let count = length slots in
    let pool : Pool = record { texts = replicate (2 * count) []; room = texts.room } in
    let both : IsStored limits permanent (replicate count unused_slot) pool = record {
      sound = is.sound;
      fixed = is.fixed;
      count = length-replicate count unused_slot ∙ is.count;
      pairs = length-replicate (2 * count) [] ∙ ap (λ n. 2 * n) (sym (length-replicate count unused_slot));
      room = is.room;
      short = (let P : List SlotData → Type 0 = All (IsShort limits) in subst P (sym (whole-empty count unused_slot)) (All-replicate (IsShort limits) count empty_slot (record { multi = omega arith; owner = omega arith })));
      within = omega (arith, used-none (2 * count));
    } in
    let same : none ≡ pool = none_is ∙ ap (λ n. let p : Pool = record { texts = replicate n []; room = texts.room } in p) is.pairs in
    let P : List Slot → Type 0 = λ ss. IsStored limits permanent ss pool in
    let Q : Pool → Type 0 = λ ts. IsStored limits permanent empty ts in
    subst Q (sym same) (subst P (sym empty_is) both)

pub cleared-is : (limits : StoreLimits) (permanent : List Permanent) (slots : List Slot) (texts : Pool) (store : StoreData) (empty : List Slot) (none : Pool)
    → stored limits permanent slots texts ≡ store → IsStored limits permanent slots texts → empty ≡ replicate (length slots) unused_slot
    → none ≡ record texts { texts = replicate (length texts.texts) [] } → stored limits permanent empty none ≡ cleared store
cleared-is limits permanent slots texts store empty none is kept empty_is none_is =
    let all : List SlotData → StoreData = λ ss. record { limits = limits; permanent = map permanent_of permanent; slots = ss } in
    ap (λ (ss : List Slot). stored limits permanent ss none) empty_is
    ∙ ap (λ (ts : Pool). stored limits permanent (replicate (length slots) unused_slot) ts) none_is
    ∙ ap (λ n. all (whole (replicate (length slots) unused_slot) (replicate n []))) kept.pairs
    ∙ ap all (whole-empty (length slots) unused_slot)
    ∙ ap (λ n. all (replicate n empty_slot)) (sym (length-whole slots texts.texts))
    ∙ ap cleared is
