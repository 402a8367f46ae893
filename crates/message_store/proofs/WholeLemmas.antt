-- The slots with their texts, of which two stand for each slot.
use Rattle.std.proofs.Common.{◌≡◌, ◌≢◌, ℕ, zero, suc, ◌+◌, ◌*◌, ◌<◌, List, [], ◌∷◌, length, replicate, drop, slice_set, slice_index_or, refl, sym, ap, ◌∙◌, arith, cond, not, nat_lt, Option, Some, None, length-drop}
use Rattle.std.specs.List.{count_by, sum_by, position, position_or_len}
use Rattle.std.proofs.lemmas.List.{drop-set-add, get_or-drop, get_or-set_other}
use Rattle.std.proofs.lemmas.List.Sums.{sum_by-cons}
use Rattle.message_store.specs.declared.slot.Slot.{Slot}
use Rattle.message_store.specs.Slot.{SlotData, slot_bytes, is_not_used, is_validating}
use Rattle.message_store.specs.internal.Stored.{slot_of, whole}

pub length-whole : (slots : List Slot) (texts : List (List ℕ)) → length (whole slots texts) ≡ length slots
length-whole [] texts = refl
length-whole (slot ∷ slots) texts = ap suc (length-whole slots (drop 2 texts))

-- twice the next number
next-even : (i : ℕ) → 2 * suc i ≡ 2 + 2 * i
next-even i = omega arith

next-odd : (i : ℕ) → 2 * suc i + 1 ≡ 2 + (2 * i + 1)
next-odd i = omega arith

pub get-whole : (slots : List Slot) (texts : List (List ℕ)) (i : ℕ) (d : SlotData) (e : Slot) → i < length slots
    → slice_index_or (whole slots texts) i d ≡ slot_of (slice_index_or slots i e) (slice_index_or texts (2 * i) []) (slice_index_or texts (2 * i + 1) [])
get-whole [] texts i d e below = absurd (omega (arith, below))
get-whole (slot ∷ slots) texts zero d e below = refl
get-whole (slot ∷ slots) texts (suc i) d e below =
    get-whole slots (drop 2 texts) i d e (omega (arith, below))
    ∙ ap (λ (l : List ℕ). slot_of (slice_index_or slots i e) l (slice_index_or (drop 2 texts) (2 * i + 1) []))
    (get_or-drop 2 texts (2 * i) [] ∙ ap (λ n. slice_index_or texts n []) (sym (next-even i)))
    ∙ ap (λ (l : List ℕ). slot_of (slice_index_or slots i e) (slice_index_or texts (2 * suc i) []) l)
    (get_or-drop 2 texts (2 * i + 1) [] ∙ ap (λ n. slice_index_or texts n []) (sym (next-odd i)))

-- texts after the first two are those of the slots after the first
whole-behind : (slot : Slot) (slots : List Slot) (texts : List (List ℕ)) (n : ℕ) (text : List ℕ)
    → whole (slot ∷ slots) (slice_set texts (2 + n) text) ≡ slot_of slot (slice_index_or texts 0 []) (slice_index_or texts 1 []) ∷ whole slots (slice_set (drop 2 texts) n text)
whole-behind slot slots texts n text =
    let after = slice_set texts (2 + n) text in
    let zeroth : 0 ≢ 2 + n = λ e. omega (arith, e) in
    let first : 1 ≢ 2 + n = λ e. omega (arith, e) in
    ap (λ (l : List ℕ). slot_of slot l (slice_index_or after 1 []) ∷ whole slots (drop 2 after)) (get_or-set_other texts (2 + n) 0 text [] zeroth)
    ∙ ap (λ (l : List ℕ). slot_of slot (slice_index_or texts 0 []) l ∷ whole slots (drop 2 after)) (get_or-set_other texts (2 + n) 1 text [] first)
    ∙ ap (λ (l : List (List ℕ)). slot_of slot (slice_index_or texts 0 []) (slice_index_or texts 1 []) ∷ whole slots l) (drop-set-add 2 texts n text)

pairs-behind : (texts : List (List ℕ)) (n : ℕ) → length texts ≡ 2 * suc n → length (drop 2 texts) ≡ 2 * n
pairs-behind texts n pairs = omega (arith, length-drop 2 texts, pairs)

-- a slot's MULTI text is replaced
pub set-multi : (slots : List Slot) (texts : List (List ℕ)) (i : ℕ) (text : List ℕ) (d : SlotData) → length texts ≡ 2 * length slots → i < length slots
    → whole slots (slice_set texts (2 * i) text) ≡ slice_set (whole slots texts) i (record (slice_index_or (whole slots texts) i d) { multi = text })
set-multi [] texts i text d pairs below = absurd (omega (arith, below))
set-multi (slot ∷ slots) [] i text d pairs below = absurd (omega (arith, pairs))
set-multi (slot ∷ slots) (t ∷ texts) zero text d pairs below = refl
set-multi (slot ∷ slots) (t ∷ texts) (suc i) text d pairs below =
    ap (λ n. whole (slot ∷ slots) (slice_set (t ∷ texts) n text)) (next-even i)
    ∙ whole-behind slot slots (t ∷ texts) (2 * i) text
    ∙ ap (λ (l : List SlotData). slot_of slot t (slice_index_or texts 0 []) ∷ l)
    (set-multi slots (drop 1 texts) i text d (pairs-behind (t ∷ texts) (length slots) pairs) (omega (arith, below)))

-- a slot's owner is replaced
pub set-owner : (slots : List Slot) (texts : List (List ℕ)) (i : ℕ) (text : List ℕ) (d : SlotData) → length texts ≡ 2 * length slots → i < length slots
    → whole slots (slice_set texts (2 * i + 1) text) ≡ slice_set (whole slots texts) i (record (slice_index_or (whole slots texts) i d) { owner = text })
set-owner [] texts i text d pairs below = absurd (omega (arith, below))
set-owner (slot ∷ slots) [] i text d pairs below = absurd (omega (arith, pairs))
set-owner (slot ∷ slots) (t ∷ []) i text d pairs below = absurd (omega (arith, pairs))
set-owner (slot ∷ slots) (t ∷ o ∷ texts) zero text d pairs below = refl
set-owner (slot ∷ slots) (t ∷ o ∷ texts) (suc i) text d pairs below =
    ap (λ n. whole (slot ∷ slots) (slice_set (t ∷ o ∷ texts) n text)) (next-odd i)
    ∙ whole-behind slot slots (t ∷ o ∷ texts) (2 * i + 1) text
    ∙ ap (λ (l : List SlotData). slot_of slot t o ∷ l)
    (set-owner slots texts i text d (pairs-behind (t ∷ o ∷ texts) (length slots) pairs) (omega (arith, below)))

-- what a slot holds beside its texts is replaced
pub set-slot : (slots : List Slot) (texts : List (List ℕ)) (i : ℕ) (slot : Slot) (d : SlotData) → i < length slots
    → whole (slice_set slots i slot) texts ≡ slice_set (whole slots texts) i (slot_of slot (slice_index_or (whole slots texts) i d).multi (slice_index_or (whole slots texts) i d).owner)
set-slot [] texts i slot d below = absurd (omega (arith, below))
set-slot (first ∷ slots) texts zero slot d below = refl
set-slot (first ∷ slots) texts (suc i) slot d below =
    ap (λ (l : List SlotData). slot_of first (slice_index_or texts 0 []) (slice_index_or texts 1 []) ∷ l) (set-slot slots (drop 2 texts) i slot d (omega (arith, below)))

-- the octets of all slots are those of all texts
pub used-whole : (slots : List Slot) (texts : List (List ℕ)) → length texts ≡ 2 * length slots → sum_by slot_bytes (whole slots texts) ≡ sum_by length texts
used-whole [] [] pairs = refl
used-whole [] (t ∷ texts) pairs = absurd (omega (arith, pairs))
used-whole (slot ∷ slots) [] pairs = absurd (omega (arith, pairs))
used-whole (slot ∷ slots) (t ∷ []) pairs = absurd (omega (arith, pairs))
used-whole (slot ∷ slots) (t ∷ o ∷ texts) pairs =
    sum_by-cons slot_bytes (slot_of slot t o) (whole slots texts)
    ∙ omega (arith, used-whole slots texts (omega (arith, pairs)), sum_by-cons length t (o ∷ texts), sum_by-cons length o texts)

-- the used slots are those of the slots without their texts
pub used_slots-whole : (slots : List Slot) (texts : List (List ℕ))
    → count_by (λ (slot : SlotData). not (is_not_used slot.status)) (whole slots texts) ≡ count_by (λ (slot : Slot). not (is_not_used slot.status)) slots
used_slots-whole [] texts = refl
used_slots-whole (slot ∷ slots) texts =
    let n = cond (not (is_not_used slot.status)) 1 0 in
    sum_by-cons (λ (s : SlotData). cond (not (is_not_used s.status)) 1 0) (slot_of slot (slice_index_or texts 0 []) (slice_index_or texts 1 [])) (whole slots (drop 2 texts))
    ∙ ap (λ k. n + k) (used_slots-whole slots (drop 2 texts))
    ∙ sym (sum_by-cons (λ (s : Slot). cond (not (is_not_used s.status)) 1 0) slot slots)

pub whole-empty : (count : ℕ) (slot : Slot) → whole (replicate count slot) (replicate (2 * count) []) ≡ replicate count (slot_of slot [] [])
whole-empty zero slot = refl
whole-empty (suc count) slot =
    ap (λ n. whole (replicate (suc count) slot) (replicate n [])) (let e : 2 * suc count ≡ suc (suc (2 * count)) = omega arith in e)
    ∙ ap (λ (l : List SlotData). slot_of slot [] [] ∷ l) (whole-empty count slot)

-- the slot that waits
first-whole : (slots : List Slot) (texts : List (List ℕ))
    → position_or_len (λ (slot : SlotData). is_validating slot.status) (whole slots texts) ≡ position_or_len (λ (slot : Slot). is_validating slot.status) slots
first-whole [] texts = refl
first-whole (slot ∷ slots) texts = ap (λ n. cond (not (is_validating slot.status)) (1 + n) 0) (first-whole slots (drop 2 texts))

pub position-whole : (slots : List Slot) (texts : List (List ℕ))
    → position (λ (slot : SlotData). is_validating slot.status) (whole slots texts) ≡ position (λ (slot : Slot). is_validating slot.status) slots
position-whole slots texts =
    let at : ℕ → ℕ → Option ℕ = λ n count. cond (nat_lt n count) (Some n) None in
    ap (λ n. at n (length (whole slots texts))) (first-whole slots texts) ∙ ap (λ count. at (position_or_len (λ (slot : Slot). is_validating slot.status) slots) count) (length-whole slots texts)
