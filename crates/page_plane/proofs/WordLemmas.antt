-- Words over eight octets, and rows that are put by them.
use Rattle.std.proofs.Common.{◌≡◌, ◌≢◌, ℕ, zero, suc, ◌<◌, ◌≤◌, ◌+◌, ◌-◌, ◌*◌, ◌/◌, ◌%◌, ◌^◌, min, Bool, true, false, ◌==◌, ◌&&◌, nat_le, nat_lt, if◌then◌else◌, List, length, ◌++◌, get_or, slice_index, take, drop, [], append-nil, refl, sym, ap, ◌∙◌, inl, inr, arith, bit_and, bit_or}
use Rattle.std.specs.Int.{bit_at, byte_at, bytes_low_first, bytes_high_first, to_le_bytes, to_be_bytes, from_le_bytes, swap_bytes, w64}
use Rattle.std.proofs.lemmas.Bool.{and_right, lt-ltb, le-ltb, le-leb, lt-leb, eq-eqb, eqb-true, ne_eqb, cases_lt, cases_eq}
use Rattle.std.proofs.lemmas.Nat.{shr-shr, pow-add, le_bytes_8, be_bytes_8}
use Rattle.std.proofs.lemmas.Nat.Bits.{bit_at-lt, bit_at_and, bit_at_or, bit_at_not, bit_at_ones, bit_at_ones_above, bit_at-zero, ones_shl, bit_at_mask_inside, bit_at_mask_below}
use Rattle.std.proofs.Math.Nat.{mul-le-mul_right}
use Rattle.std.proofs.Math.ListN.{get_or-append}
use Rattle.std.proofs.lemmas.List.{get_or-take, get_or-drop, get_or_past, get_or-append_right, length-take-le}
use Rattle.page_plane.specs.Octets.{row_octets, is_bit_set, bit_place}
use Rattle.page_plane.specs.Put.{is_put, is_first_put, IsBlockPutAt, is_in_word}
use Rattle.page_plane.proofs.BitLemmas.{low_bit, clear_bit}
use Rattle.page_plane.proofs.PutLemmas.{put_at, put_left, put_right, first_none, first_below, first_here, first_other}

-- BYTES OF A NUMBER

byte_power : (k : ℕ) → 256 ^ k ≡ 2 ^ (8 * k)
byte_power zero = refl
byte_power (suc k) =
    let more : 8 * suc k ≡ 8 * k + 8 = omega arith in
    let before = byte_power k in
    let next : suc k ≡ k + 1 = omega arith in
    ap (λ n. 256 ^ n) next ∙ pow-add 256 k 1 ∙ ap (λ n. n * 256) before ∙ sym (pow-add 2 (8 * k) 8) ∙ ap (λ n. 2 ^ n) (sym more)

byte_bit : (k n i : ℕ) → i < 8 → bit_at (byte_at k n) i ≡ bit_at n (8 * k + i)
byte_bit zero n i h = let same : i ≡ 8 * 0 + i = omega arith in low_bit n 8 i h ∙ ap (bit_at n) same
byte_bit (suc k) n i h =
    low_bit (n / 256 ^ suc k) 8 i h ∙ ap (λ p. bit_at (n / p) i) (byte_power (suc k)) ∙ ap (λ m. m % 2) (shr-shr n (8 * suc k) i)

low_first : (j count n k : ℕ) → k < count → get_or (bytes_low_first j count n) k 0 ≡ byte_at (j + k) n
low_first j zero n k h = absurd (omega arith)
low_first j (suc count) n zero h = let same : j ≡ j + 0 = omega arith in ap (λ m. byte_at m n) same
low_first j (suc count) n (suc k) h =
    let same : suc j + k ≡ j + suc k = omega arith in
    low_first (suc j) count n k (omega arith) ∙ ap (λ m. byte_at m n) same

high_first : (count n k : ℕ) → k < count → get_or (bytes_high_first count n) k 0 ≡ byte_at (count - 1 - k) n
high_first zero n k h = absurd (omega arith)
high_first (suc count) n zero h = let same : count ≡ suc count - 1 - 0 = omega arith in ap (λ m. byte_at m n) same
high_first (suc count) n (suc k) h =
    let same : count - 1 - k ≡ suc count - 1 - suc k = omega arith in
    high_first count n k (omega arith) ∙ ap (λ m. byte_at m n) same

small_byte : (k n : ℕ) → byte_at k n < 256
small_byte zero n = omega arith
small_byte (suc k) n = omega arith

small_bytes : (n i : ℕ) → get_or (to_le_bytes w64 n) i 0 < 256
small_bytes n i = elim (cases_lt i 8) [
  | inl h ↦ let from : 0 + i ≡ i = omega arith in let byte = low_first 0 8 n i h in let small = small_byte (0 + i) n in omega (arith, byte, small)
  | inr h ↦ let none = get_or_past (to_le_bytes w64 n) i 0 h in omega (arith, none)
]

-- a bit of a number in its octets, the lowest first
pub low_octet_bit : (n k i : ℕ) → k < 8 → i < 8 → bit_at (get_or (to_le_bytes w64 n) k 0) i ≡ bit_at n (8 * k + i)
low_octet_bit n k i h l =
    let from : 0 + k ≡ k = omega arith in
    ap (λ b. bit_at b i) (low_first 0 8 n k h ∙ ap (λ m. byte_at m n) from) ∙ byte_bit k n i l

-- a bit of a number whose octets were turned round
turned_round : (n k i : ℕ) → k < 8 → i < 8 → bit_at (swap_bytes w64 n) (8 * k + i) ≡ bit_at n (8 * (7 - k) + i)
turned_round n k i h l =
    let turned = swap_bytes w64 n in
    let octets : to_be_bytes w64 turned ≡ to_le_bytes w64 n = be_bytes_8 (to_le_bytes w64 n) turned refl (small_bytes n) refl in
    let back : 8 - 1 - (7 - k) ≡ k = omega arith in
    sym (byte_bit k turned i l) ∙ ap (λ m. bit_at (byte_at m turned) i) (sym back)
    ∙ ap (λ b. bit_at b i) (sym (high_first 8 turned (7 - k) (omega arith)))
    ∙ ap (λ os. bit_at (get_or os (7 - k) 0) i) octets
    ∙ low_octet_bit n (7 - k) i (omega arith) l

-- WORDS THAT ARE PAINTED

-- a set bit of the part becomes on, any other stays
pub word_painted : (word part : ℕ) (on : Bool) (i : ℕ) → part < 2 ^ 64 → i < 64
    → (bit_at (bit_or (bit_and word (18446744073709551615 - part)) (bit_and part (if on then 18446744073709551615 else 0))) i == 1)
    ≡ (if bit_at part i == 1 then on else bit_at word i == 1)
word_painted word part true i small h =
    let all : ℕ = 18446744073709551615 in
    let rest = bit_and word (all - part) in
    let a = bit_at-lt word i in
    let b = bit_at-lt part i in
    let not : bit_at (all - part) i ≡ 1 - bit_at part i = bit_at_not w64 part i small h in
    let kept = bit_at_and word (all - part) i in
    let ones : bit_at all i ≡ 1 = bit_at_ones 64 i h in
    let put = bit_at_and part all i in
    let both = bit_at_or rest (bit_and part all) i in
    elim (cases_eq (bit_at part i) 1) [
      | inl e ↦ rw (eq-eqb (bit_at part i) 1 e) (eq-eqb (bit_at (bit_or rest (bit_and part all)) i) 1 (omega arith))
      | inr e ↦
          let same : bit_at (bit_or rest (bit_and part all)) i ≡ bit_at word i = omega arith in
          rw (ne_eqb (bit_at part i) 1 e, same) refl
    ]
word_painted word part false i small h =
    let all : ℕ = 18446744073709551615 in
    let rest = bit_and word (all - part) in
    let a = bit_at-lt word i in
    let b = bit_at-lt part i in
    let not : bit_at (all - part) i ≡ 1 - bit_at part i = bit_at_not w64 part i small h in
    let kept = bit_at_and word (all - part) i in
    let none = bit_at-zero i in
    let put = bit_at_and part 0 i in
    let both = bit_at_or rest (bit_and part 0) i in
    elim (cases_eq (bit_at part i) 1) [
      | inl e ↦ rw (eq-eqb (bit_at part i) 1 e) (ne_eqb (bit_at (bit_or rest (bit_and part 0)) i) 1 (λ one. absurd (omega arith)))
      | inr e ↦
          let same : bit_at (bit_or rest (bit_and part 0)) i ≡ bit_at word i = omega arith in
          rw (ne_eqb (bit_at part i) 1 e, same) refl
    ]

-- the octets of a painted word, where the word has its lowest octet first and the part is turned round
pub octets_painted : (octets : List ℕ) (part turned word new m : ℕ) (on : Bool) → length octets ≡ 8 → ((i : ℕ) → get_or octets i 0 < 256)
    → turned ≡ swap_bytes w64 part → turned < 2 ^ 64 → word ≡ from_le_bytes w64 octets
    → new ≡ bit_or (bit_and word (18446744073709551615 - turned)) (bit_and turned (if on then 18446744073709551615 else 0))
    → m < 64 → is_bit_set (to_le_bytes w64 new) m ≡ (if bit_at part (63 - m) == 1 then on else is_bit_set octets m)
unfolding is_bit_set
octets_painted octets part turned word new m on whole small is_turned turned_small is_word is_new h =
    let k = m / 8 in
    let i = 7 - m % 8 in
    let place = 8 * k + i in
    let few : k < 8 = omega arith in
    let there : place < 64 = omega arith in
    let back : 8 * (7 - k) + i ≡ 63 - m = omega arith in
    let of_part : bit_at turned place ≡ bit_at part (63 - m) =
    ap (λ n. bit_at n place) is_turned ∙ turned_round part k i few (omega arith) ∙ ap (bit_at part) back in
    let of_word : bit_at word place ≡ bit_at (get_or octets k 0) i =
    sym (low_octet_bit word k i few (omega arith)) ∙ ap (λ os. bit_at (get_or os k 0) i) (le_bytes_8 octets word whole small is_word) in
    ap (λ b. b == 1) (low_octet_bit new k i few (omega arith)) ∙ ap (λ n. bit_at n place == 1) is_new
    ∙ word_painted word turned on place turned_small there
    ∙ rw (of_part, of_word) refl

-- the octets after a word stay
pub first_put : (old chunk new : List ℕ) (behind part place : ℕ) (on : Bool) → behind ≡ 8 → 8 ≤ length old → chunk ≡ take 8 old → length new ≡ 8
    → ((m : ℕ) → m < 64 → is_bit_set new m ≡ (if bit_at part (63 - m) == 1 then on else is_bit_set chunk m))
    → is_bit_set (new ++ drop behind old) place ≡ (if is_in_word 0 part place then on else is_bit_set old place)
unfolding is_bit_set
first_put old chunk new behind part place on eight room is_chunk whole painted = elim (cases_lt place 64) [
  | inl h ↦
      let octet : get_or (new ++ drop behind old) (place / 8) 0 ≡ get_or new (place / 8) 0 = get_or-append new (drop behind old) 0 (place / 8) (omega arith) in
      let kept : get_or chunk (place / 8) 0 ≡ get_or old (place / 8) 0 = ap (λ l. get_or l (place / 8) 0) is_chunk ∙ get_or-take 8 old (place / 8) 0 (omega arith) in
      let same : place - 0 ≡ place = omega arith in
      rw (octet, le-leb (8 * 0) place (omega arith), lt-ltb place (8 * 0 + 64) (omega arith), same) (painted place h ∙ rw kept refl)
  | inr h ↦
      let there : 8 + (place / 8 - 8) ≡ place / 8 = omega arith in
      let octet : get_or (new ++ drop behind old) (place / 8) 0 ≡ get_or old (place / 8) 0 =
      ap (λ n. get_or (new ++ drop n old) (place / 8) 0) eight ∙ get_or-append_right new (drop 8 old) 8 (place / 8) 0 whole (omega arith)
      ∙ get_or-drop 8 old (place / 8 - 8) 0 ∙ ap (λ n. get_or old n 0) there in
      rw (octet, le-leb (8 * 0) place (omega arith), le-ltb place (8 * 0 + 64) (omega arith)) refl
]

-- and those before it
pub part_put : (old lent new rest : List ℕ) (at part place : ℕ) (on : Bool) → at ≤ length old → rest ≡ [] → lent ≡ drop at old
    → ((place : ℕ) → is_bit_set new place ≡ (if is_in_word 0 part place then on else is_bit_set lent place))
    → is_bit_set (take at old ++ (new ++ rest)) place ≡ (if is_in_word at part place then on else is_bit_set old place)
unfolding is_bit_set
part_put old lent new rest at part place on room none is put = ap (λ l. is_bit_set (take at old ++ (new ++ l)) place) none ∙ ap (λ l. is_bit_set (take at old ++ l) place) (append-nil new) ∙ elim (cases_lt place (8 * at)) [
  | inl h ↦
      let octet : get_or (take at old ++ new) (place / 8) 0 ≡ get_or old (place / 8) 0 =
      get_or-append (take at old) new 0 (place / 8) (omega (arith, length-take-le at old room)) ∙ get_or-take at old (place / 8) 0 (omega arith) in
      rw (octet, lt-leb (8 * at) place h) refl
  | inr h ↦
      let k = place - 8 * at in
      let octet : get_or (take at old ++ new) (place / 8) 0 ≡ get_or new (place / 8 - at) 0 =
      get_or-append_right (take at old) new at (place / 8) 0 (length-take-le at old room) (omega arith) in
      let there : place / 8 - at ≡ k / 8 = omega arith in
      let bit : place % 8 ≡ k % 8 = omega arith in
      let kept : get_or lent (k / 8) 0 ≡ get_or old (place / 8) 0 = let here : at + k / 8 ≡ place / 8 = omega arith in ap (λ l. get_or l (k / 8) 0) is ∙ get_or-drop at old (k / 8) 0 ∙ ap (λ n. get_or old n 0) here in
      let same : k - 0 ≡ k = omega arith in
      elim (cases_lt k 64) [
        | inl l ↦
            rw (octet, there, bit, le-leb (8 * at) place h, lt-ltb place (8 * at + 64) (omega arith))
            (put k ∙ rw (le-leb (8 * 0) k (omega arith), lt-ltb k (8 * 0 + 64) (omega arith), same, kept) refl)
        | inr l ↦
            rw (octet, there, bit, le-leb (8 * at) place h, le-ltb place (8 * at + 64) (omega arith))
            (put k ∙ rw (le-leb (8 * 0) k (omega arith), le-ltb k (8 * 0 + 64) (omega arith), kept) refl)
      ]
]

-- ROWS THAT ARE PUT, ONE AFTER THE OTHER

-- the bits that lie under a row
pub mask_bit : (turn width m : ℕ) → 0 < width → turn + width ≤ 64 → m < 64
    → (bit_at (bit_and (18446744073709551615 / 2 ^ turn) (18446744073709551615 * 2 ^ (64 - (turn + width)) % 18446744073709551616)) (63 - m) == 1)
    ≡ (nat_le turn m && nat_lt m (turn + width))
mask_bit turn width m some few h =
    let all : ℕ = 18446744073709551615 in
    let after = 64 - (turn + width) in
    let mask = bit_and (all / 2 ^ turn) (all * 2 ^ after % 18446744073709551616) in
    let both : bit_at mask (63 - m) ≡ min (bit_at (all / 2 ^ turn) (63 - m)) (bit_at (all * 2 ^ after % 18446744073709551616) (63 - m)) =
    bit_at_and (all / 2 ^ turn) (all * 2 ^ after % 18446744073709551616) (63 - m) in
    let first : bit_at (all / 2 ^ turn) (63 - m) ≡ bit_at all (turn + (63 - m)) = ap (λ n. n % 2) (shr-shr all turn (63 - m)) in
    let last : bit_at (all * 2 ^ after % 18446744073709551616) (63 - m) ≡ bit_at (18446744073709551616 - 2 ^ after) (63 - m) =
    ap (λ n. bit_at n (63 - m)) (ones_shl 64 after (omega arith)) in
    elim (cases_lt m turn) [
      | inl e ↦
          let none : bit_at all (turn + (63 - m)) ≡ 0 = bit_at_ones_above 64 (turn + (63 - m)) (omega arith) in
          rw (lt-leb turn m e) (ne_eqb (bit_at mask (63 - m)) 1 (λ one. absurd (omega arith)))
      | inr e ↦
          let set : bit_at all (turn + (63 - m)) ≡ 1 = bit_at_ones 64 (turn + (63 - m)) (omega arith) in
          elim (cases_lt m (turn + width)) [
            | inl l ↦
                let inside : bit_at (18446744073709551616 - 2 ^ after) (63 - m) ≡ 1 = bit_at_mask_inside after 64 (63 - m) (omega arith) (omega arith) in
                rw (le-leb turn m e, lt-ltb m (turn + width) l) (eq-eqb (bit_at mask (63 - m)) 1 (omega arith))
            | inr g ↦
                let none : bit_at (18446744073709551616 - 2 ^ after) (63 - m) ≡ 0 = bit_at_mask_below after 64 (63 - m) (omega arith) in
                rw (le-leb turn m e, le-ltb m (turn + width) g) (ne_eqb (bit_at mask (63 - m)) 1 (λ one. absurd (omega arith)))
          ]
    ]

-- a bit of a row that is turned to the right, under a mask
pub word_bit : (bits turn mask i : ℕ) → bit_at (bit_and (bits / 2 ^ turn) mask) i ≡ min (bit_at mask i) (bit_at bits (turn + i))
word_bit bits turn mask i =
    let both = bit_at_and (bits / 2 ^ turn) mask i in
    let turned : bit_at (bits / 2 ^ turn) i ≡ bit_at bits (turn + i) = ap (λ n. n % 2) (shr-shr bits turn i) in
    omega arith

-- the bits of a word are those of a row of this width that begins `turn` pixels after it
pub record IsWordOf (turn width bits part : ℕ) : Type 0 where
  pub few : turn + width ≤ 64
  pub inside : (m : ℕ) → turn ≤ m → m < turn + width → bit_at part (63 - m) ≡ bit_at bits (63 - (m - turn))
  pub outside : (m : ℕ) → m < 64 → (nat_le turn m && nat_lt m (turn + width)) ≡ false → bit_at part (63 - m) ≡ 0

pub is_word : (turn width bits mask part : ℕ) → turn + width ≤ 64
    → ((m : ℕ) → m < 64 → (bit_at mask (63 - m) == 1) ≡ (nat_le turn m && nat_lt m (turn + width)))
    → ((i : ℕ) → i < 64 → bit_at part i ≡ min (bit_at mask i) (bit_at bits (turn + i))) → IsWordOf turn width bits part
is_word turn width bits mask part few masked shown = record {
  few = few;
  inside = λ m least most.
      let on : bit_at mask (63 - m) ≡ 1 = eqb-true (bit_at mask (63 - m)) 1 (masked m (omega arith) ∙ rw (le-leb turn m least, lt-ltb m (turn + width) most) refl) in
      let there : turn + (63 - m) ≡ 63 - (m - turn) = omega arith in
      let small = bit_at-lt bits (63 - (m - turn)) in
      let bit : bit_at bits (turn + (63 - m)) ≡ bit_at bits (63 - (m - turn)) = ap (bit_at bits) there in
      let is = shown (63 - m) (omega arith) in
      omega arith;
  outside = λ m h none.
      let off : bit_at mask (63 - m) ≡ 0 = clear_bit mask (63 - m) (masked m h ∙ none) in
      let is = shown (63 - m) (omega arith) in
      omega arith;
}

in_word_before : (at turn width bits part place : ℕ) → IsWordOf turn width bits part → place < 8 * at + turn → is_in_word at part place ≡ false
in_word_before at turn width bits part place is h = elim (cases_lt place (8 * at)) [
  | inl l ↦ rw (lt-leb (8 * at) place l) refl
  | inr l ↦
      let m = place - 8 * at in
      let few = is.few in
      let none : bit_at part (63 - m) ≡ 0 = is.outside m (omega arith) (rw (lt-leb turn m (omega arith)) refl) in
      rw (le-leb (8 * at) place l, lt-ltb place (8 * at + 64) (omega arith), none) refl
]

in_word_behind : (at turn width bits part place : ℕ) → IsWordOf turn width bits part → 8 * at + turn + width ≤ place → is_in_word at part place ≡ false
in_word_behind at turn width bits part place is h = elim (cases_lt place (8 * at + 64)) [
  | inl l ↦
      let m = place - 8 * at in
      let none : bit_at part (63 - m) ≡ 0 = is.outside m (omega arith) (and_right (nat_le turn m) (nat_lt m (turn + width)) (le-ltb m (turn + width) (omega arith))) in
      rw (le-leb (8 * at) place (omega arith), lt-ltb place (8 * at + 64) l, none) refl
  | inr l ↦ rw (le-leb (8 * at) place (omega arith), le-ltb place (8 * at + 64) l) refl
]

in_word_here : (at turn width bits part place pixel x y : ℕ) → IsWordOf turn width bits part → pixel < width → place ≡ 8 * at + turn + pixel
    → is_in_word at part place ≡ is_put x y width bits (x + pixel) y
in_word_here at turn width bits part place pixel x y is h e =
    let m = place - 8 * at in
    let few = is.few in
    let back : 63 - (m - turn) ≡ 63 - pixel = omega arith in
    let bit : bit_at part (63 - m) ≡ bit_at bits (63 - pixel) = is.inside m (omega arith) (omega arith) ∙ ap (bit_at bits) back in
    rw (le-leb (8 * at) place (omega arith), lt-ltb place (8 * at + 64) (omega arith), bit) (sym (put_at x y width bits pixel h))

-- in its own row of octets a word puts the row's pixels
in_word_row : (at turn width bits part len x y column : ℕ) → IsWordOf turn width bits part → turn ≡ x % 8 → at ≡ y * len + x / 8
    → is_in_word at part (8 * (y * len) + column) ≡ is_put x y width bits column y
in_word_row at turn width bits part len x y column is turned there = elim (cases_lt column x) [
  | inl l ↦ in_word_before at turn width bits part (8 * (y * len) + column) is (omega arith) ∙ sym (put_left x y width bits column y l)
  | inr l ↦ elim (cases_lt column (x + width)) [
    | inl g ↦
        let pixel = column - x in
        let back : x + pixel ≡ column = omega arith in
        in_word_here at turn width bits part (8 * (y * len) + column) pixel x y is (omega arith) (omega arith) ∙ ap (λ c. is_put x y width bits c y) back
    | inr g ↦ in_word_behind at turn width bits part (8 * (y * len) + column) is (omega arith) ∙ sym (put_right x y width bits column y g)
  ]
]

-- and nothing in another
in_word_elsewhere : (at turn width bits part columns x y column row : ℕ) → IsWordOf turn width bits part → turn ≡ x % 8 → x + width ≤ columns
    → at ≡ y * row_octets columns + x / 8 → column < 8 * row_octets columns → row ≢ y → is_in_word at part (8 * (row * row_octets columns) + column) ≡ false
in_word_elsewhere at turn width bits part columns x y column row is turned fits there within other =
    let len = row_octets columns in
    elim (cases_lt row y) [
      | inl l ↦
          let rows : (row + 1) * len ≤ y * len = mul-le-mul_right len (omega arith) in
          in_word_before at turn width bits part (8 * (row * len) + column) is (omega arith)
      | inr l ↦
          let more : y + 1 ≤ row = elim (cases_eq row y) [ inl e ↦ absurd (other e) | inr m ↦ omega arith ] in
          let rows : (y + 1) * len ≤ row * len = mul-le-mul_right len more in
          in_word_behind at turn width bits part (8 * (row * len) + column) is (omega arith)
    ]

pub words_none : (octets : List ℕ) (columns x y width : ℕ) (rows : List ℕ) (on : Bool) → IsBlockPutAt octets octets columns x y width rows 0 on
words_none octets columns x y width rows on column row within = rw (first_none x y width rows column row) refl

-- one row more
pub words_more : (old now new : List ℕ) (columns x y width : ℕ) (rows : List ℕ) (count at bits part turn : ℕ) (on : Bool)
    → IsWordOf turn width bits part → turn ≡ x % 8 → x + width ≤ columns → at ≡ (y + count) * row_octets columns + x / 8 → bits ≡ slice_index rows count
    → ((place : ℕ) → is_bit_set new place ≡ (if is_in_word at part place then on else is_bit_set now place))
    → IsBlockPutAt old now columns x y width rows count on → IsBlockPutAt old new columns x y width rows (count + 1) on
words_more old now new columns x y width rows count at bits part turn on is turned fits there read put before column row within =
    let len = row_octets columns in
    let place = bit_place columns column row in
    put place ∙ elim (cases_eq row (y + count)) [
      | inl e ↦
          let under : is_in_word at part place ≡ is_first_put x y width rows (count + 1) column row =
          ap (λ r. is_in_word at part (8 * (r * len) + column)) e
          ∙ in_word_row at turn width bits part len x (y + count) column is turned there
          ∙ ap (λ b. is_put x (y + count) width b column (y + count)) read ∙ ap (λ r. is_put x (y + count) width (slice_index rows count) column r) (sym e)
          ∙ sym (first_here x y width rows count column row e) in
          let kept : is_bit_set now place ≡ is_bit_set old place =
          before column row within ∙ rw (first_below x y width rows count column row (omega arith)) refl in
          rw (under, kept) refl
      | inr n ↦
          let none = in_word_elsewhere at turn width bits part columns x (y + count) column row is turned fits there within n in
          rw none (before column row within ∙ rw (first_other x y width rows count column row n) refl)
    ]
