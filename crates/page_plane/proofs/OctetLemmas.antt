-- Bits of octets after a write, and in a part.
use Rattle.std.proofs.Common.{◌≡◌, ◌≢◌, ℕ, ◌<◌, ◌≤◌, ◌+◌, ◌-◌, ◌*◌, ◌/◌, ◌%◌, Bool, true, false, ◌==◌, ◌&&◌, nat_lt, if◌then◌else◌, List, length, set, get_or, slice_index, take, drop, replicate, refl, sym, ap, ◌∙◌, inl, inr, arith}
use Rattle.std.specs.Int.{bit_at}
use Rattle.std.proofs.lemmas.Bool.{and_right, lt-ltb, le-ltb, eq-eqb, ne_eqb, cases_lt, cases_eq}
use Rattle.std.proofs.lemmas.Nat.{mod-mul-add, div-mul-add}
use Rattle.std.proofs.lemmas.Nat.Bits.{bit_at-zero, bit_at_ones}
use Rattle.std.proofs.lemmas.List.{get_or-set_same, get_or-set_other, get_or_past, get_or-take, get_or-drop, get_or-replicate, length-replicate, length-set}
use Rattle.page_plane.specs.Octets.{row_octets, is_bit_set, bit_place}
use Rattle.page_plane.specs.Put.{is_put, is_first_put, IsBlockPutAt, IsStripPutAt}
use Rattle.page_plane.proofs.PutLemmas.{put_one_row, first_left, first_right, first_none, first_below, first_here, first_other}

-- a write changes the bits of its octet alone
pub set_here : (octets : List ℕ) (at octet place : ℕ) → at < length octets → place / 8 ≡ at → is_bit_set (set octets at octet) place ≡ (bit_at octet (7 - place % 8) == 1)
unfolding is_bit_set
set_here octets at octet place h e = rw (e, get_or-set_same octets at octet 0 h) refl

pub set_elsewhere : (octets : List ℕ) (at octet place : ℕ) → place / 8 ≢ at → is_bit_set (set octets at octet) place ≡ is_bit_set octets place
unfolding is_bit_set
set_elsewhere octets at octet place n = rw (get_or-set_other octets at (place / 8) octet 0 n) refl

-- the bit of an octet that was read
pub bit_of : (octets : List ℕ) (at octet place : ℕ) → place / 8 ≡ at → octet ≡ get_or octets at 0 → is_bit_set octets place ≡ (bit_at octet (7 - place % 8) == 1)
unfolding is_bit_set
bit_of octets at octet place e r = rw (e, sym r) refl

-- past the octets no bit is set
pub none_past : (octets : List ℕ) (place : ℕ) → 8 * length octets ≤ place → is_bit_set octets place ≡ false
unfolding is_bit_set
none_past octets place h = rw (get_or_past octets (place / 8) 0 (omega arith), bit_at-zero (7 - place % 8)) refl

-- octets of 0 have no bit set
pub none_set : (n place : ℕ) → is_bit_set (replicate n 0) place ≡ false
unfolding is_bit_set
none_set n place = elim (cases_lt (place / 8) n) [
  | inl h ↦ rw (get_or-replicate {A = ℕ} n (place / 8) 0 0 h, bit_at-zero (7 - place % 8)) refl
  | inr h ↦ rw (get_or_past {X = ℕ} (replicate n 0) (place / 8) 0 (simp length-replicate h), bit_at-zero (7 - place % 8)) refl
]

-- a bit of a part
pub part_bit : (octets : List ℕ) (start len place : ℕ) → place < 8 * len → is_bit_set (take len (drop start octets)) place ≡ is_bit_set octets (8 * start + place)
unfolding is_bit_set
part_bit octets start len place h =
    let at : (8 * start + place) / 8 ≡ start + place / 8 = omega arith in
    let in_octet : (8 * start + place) % 8 ≡ place % 8 = omega arith in
    rw (at, in_octet, get_or-take len (drop start octets) (place / 8) 0 (omega arith), get_or-drop start octets (place / 8) 0) refl

-- ROWS THAT ARE FILLED

-- the bits of the first places are those of filled rows
abbrev pub IsFilledBelow : List ℕ → ℕ → Bool → ℕ → Type 0
IsFilledBelow octets width on end = (place : ℕ) → place < end → is_bit_set octets place ≡ (on && nat_lt (place % (8 * row_octets width)) width)

-- octets of 255 have every bit set
pub all_set : (n place : ℕ) → place < 8 * n → is_bit_set (replicate n 255) place ≡ true
unfolding is_bit_set
all_set n place h = rw (get_or-replicate {A = ℕ} n (place / 8) 255 0 (omega arith)) (eq-eqb (bit_at 255 (7 - place % 8)) 1 (bit_at_ones 8 (7 - place % 8) (omega arith)))

-- the first rows are those of a filled plane, and all bits after them are set
abbrev pub AreEnded : List ℕ → ℕ → ℕ → Type 0
AreEnded octets width y = (place : ℕ) → place < 8 * length octets
    → is_bit_set octets place ≡ (if nat_lt place (y * (8 * row_octets width)) then nat_lt (place % (8 * row_octets width)) width else true)

pub ended_none : (octets : List ℕ) (width : ℕ) → octets ≡ replicate (length octets) 255 → AreEnded octets width 0
ended_none octets width full place h =
    ap (λ (ns : List ℕ). is_bit_set ns place) full ∙ all_set (length octets) place h ∙ rw (le-ltb place (0 * (8 * row_octets width)) (omega arith)) refl

-- one row more
pub ended_more : (octets : List ℕ) (width y last : ℕ) → width < 8 * row_octets width → (y + 1) * row_octets width ≤ length octets
    → ((j : ℕ) → j < 8 → (bit_at last (7 - j) == 1) ≡ nat_lt (8 * (row_octets width - 1) + j) width)
    → AreEnded octets width y → AreEnded (set octets (y * row_octets width + (row_octets width - 1)) last) width (y + 1)
ended_more octets width y last some room bits before place within =
    let len = row_octets width in
    let at = y * len + (len - 1) in
    let inside : place < 8 * length octets = rw (length-set octets at last) at within in
    elim (cases_eq (place / 8) at) [
      | inl e ↦
          let j = place % 8 in
          let there : place ≡ y * (8 * len) + (8 * (len - 1) + j) = omega arith in
          let column : place % (8 * len) ≡ 8 * (len - 1) + j = ap (λ n. n % (8 * len)) there ∙ mod-mul-add y (8 * len) (8 * (len - 1) + j) (omega arith) in
          let done : place < (y + 1) * (8 * len) = omega arith in
          set_here octets at last place (omega arith) e ∙ bits j (omega arith) ∙ rw (lt-ltb place ((y + 1) * (8 * len)) done, column) refl
      | inr n ↦ set_elsewhere octets at last place n ∙ before place inside ∙ elim (cases_lt place (y * (8 * len))) [
        | inl l ↦
            let done : place < (y + 1) * (8 * len) = omega arith in
            rw (lt-ltb place (y * (8 * len)) l, lt-ltb place ((y + 1) * (8 * len)) done) refl
        | inr g ↦ elim (cases_lt place ((y + 1) * (8 * len))) [
          | inl l ↦
              let k = place - y * (8 * len) in
              let there : place ≡ y * (8 * len) + k = omega arith in
              let column : place % (8 * len) ≡ k = ap (λ m. m % (8 * len)) there ∙ mod-mul-add y (8 * len) k (omega arith) in
              let early : k < width = elim (cases_lt k (8 * (len - 1))) [ inl s ↦ omega arith | inr t ↦ absurd (n (omega arith)) ] in
              rw (le-ltb place (y * (8 * len)) g, lt-ltb place ((y + 1) * (8 * len)) l, column, lt-ltb k width early) refl
          | inr m ↦ rw (le-ltb place (y * (8 * len)) g, le-ltb place ((y + 1) * (8 * len)) m) refl
        ]
      ]
    ]

-- ROWS THAT ARE PUT, ONE OCTET OF EACH ROW OF OCTETS AFTER THE OTHER

pub strip_none : (octets : List ℕ) (columns strip x y width : ℕ) (rows : List ℕ) (on : Bool) → IsStripPutAt octets octets columns strip x y width rows 0 on
strip_none octets columns strip x y width rows on column row within = rw (and_right (column / 8 == strip) (is_first_put x y width rows 0 column row) (first_none x y width rows column row)) refl

-- one row more
pub strip_more : (old now : List ℕ) (columns strip x y width : ℕ) (rows : List ℕ) (count at bits part was octet : ℕ) (on : Bool)
    → strip < row_octets columns → at ≡ (y + count) * row_octets columns + strip → at < length now
    → bits ≡ slice_index rows count → was ≡ get_or now at 0
    → ((j : ℕ) → j < 8 → (bit_at part (7 - j) == 1) ≡ is_put x 0 width bits (8 * strip + j) 0)
    → ((i : ℕ) → i < 8 → (bit_at octet i == 1) ≡ (if bit_at part i == 1 then on else bit_at was i == 1))
    → IsStripPutAt old now columns strip x y width rows count on → IsStripPutAt old (set now at octet) columns strip x y width rows (count + 1) on
strip_more old now columns strip x y width rows count at bits part was octet on inside here h is read parts painted before column row within =
    let len = row_octets columns in
    let place = bit_place columns column row in
    let of : place / 8 ≡ row * len + column / 8 = omega arith in
    elim (cases_eq (place / 8) at) [
      | inl e ↦
          let same : row * len + column / 8 ≡ (y + count) * len + strip = omega arith in
          let at_row : row ≡ y + count = sym (div-mul-add row len (column / 8) (omega arith)) ∙ ap (λ n. n / len) same ∙ div-mul-add (y + count) len strip inside in
          let at_strip : column / 8 ≡ strip = sym (mod-mul-add row len (column / 8) (omega arith)) ∙ ap (λ n. n % len) same ∙ mod-mul-add (y + count) len strip inside in
          let j = place % 8 in
          let there : 8 * strip + j ≡ column = omega arith in
          let under : (bit_at part (7 - j) == 1) ≡ is_first_put x y width rows (count + 1) column row =
          parts j (omega arith) ∙ ap (λ c. is_put x 0 width bits c 0) there ∙ put_one_row x 0 (y + count) width bits column
          ∙ ap (λ b. is_put x (y + count) width b column (y + count)) is ∙ ap (λ r. is_put x (y + count) width (slice_index rows count) column r) (sym at_row)
          ∙ sym (first_here x y width rows count column row at_row) in
          let kept : (bit_at was (7 - j) == 1) ≡ is_bit_set old place =
          sym (bit_of now at was place e read) ∙ (before column row within ∙ rw (first_below x y width rows count column row (omega arith), and_right (column / 8 == strip) false refl) refl) in
          set_here now at octet place h e ∙ (painted (7 - j) (omega arith) ∙ rw (under, kept, eq-eqb (column / 8) strip at_strip) refl)
      | inr n ↦ set_elsewhere now at octet place n ∙ (before column row within ∙ elim (cases_eq (column / 8) strip) [
        | inl c ↦
            let other : row ≢ y + count = λ e. n (of ∙ rw (e, c) (sym here)) in
            rw (first_other x y width rows count column row other) refl
        | inr c ↦ rw (ne_eqb (column / 8) strip c) refl
      ])
    ]

-- the bits of the first columns are those under the rows, and all others are as before
abbrev pub IsPutLeftOf : List ℕ → List ℕ → ℕ → ℕ → ℕ → ℕ → List ℕ → Bool → ℕ → Type 0
IsPutLeftOf old new columns x y width rows on end = (column row : ℕ) → column < 8 * row_octets columns
    → is_bit_set new (bit_place columns column row)
    ≡ (if nat_lt column end && is_first_put x y width rows (length rows) column row then on else is_bit_set old (bit_place columns column row))

pub left_none : (octets : List ℕ) (columns x y width : ℕ) (rows : List ℕ) (on : Bool) (end : ℕ) → end ≤ x → IsPutLeftOf octets octets columns x y width rows on end
left_none octets columns x y width rows on end h column row within = elim (cases_lt column end) [
  | inl l ↦ rw (first_left x y width rows (length rows) column row (omega arith), and_right (nat_lt column end) false refl) refl
  | inr g ↦ rw (le-ltb column end g) refl
]

-- one octet of each row of octets more
pub left_more : (old now new : List ℕ) (columns strip x y width : ℕ) (rows : List ℕ) (on : Bool)
    → IsStripPutAt now new columns strip x y width rows (length rows) on
    → IsPutLeftOf old now columns x y width rows on (8 * strip) → IsPutLeftOf old new columns x y width rows on (8 * (strip + 1))
left_more old now new columns strip x y width rows on put before column row within =
    put column row within ∙ elim (cases_eq (column / 8) strip) [
      | inl e ↦
          let kept : is_bit_set now (bit_place columns column row) ≡ is_bit_set old (bit_place columns column row) =
          before column row within ∙ rw (le-ltb column (8 * strip) (omega arith)) refl in
          rw (eq-eqb (column / 8) strip e, lt-ltb column (8 * (strip + 1)) (omega arith), kept) refl
      | inr n ↦ rw (ne_eqb (column / 8) strip n) (before column row within ∙ elim (cases_lt column (8 * strip)) [
        | inl l ↦ rw (lt-ltb column (8 * strip) l, lt-ltb column (8 * (strip + 1)) (omega arith)) refl
        | inr g ↦ rw (le-ltb column (8 * strip) g, le-ltb column (8 * (strip + 1)) (omega arith)) refl
      ])
    ]

-- to the right of the rows nothing is put
pub left_all : (old new : List ℕ) (columns x y width : ℕ) (rows : List ℕ) (on : Bool) (end : ℕ) → x + width ≤ end
    → IsPutLeftOf old new columns x y width rows on end → IsBlockPutAt old new columns x y width rows (length rows) on
left_all old new columns x y width rows on end h all column row within = all column row within ∙ elim (cases_lt column end) [
  | inl l ↦ rw (lt-ltb column end l) refl
  | inr g ↦ rw (le-ltb column end g, first_right x y width rows (length rows) column row (omega arith)) refl
]
