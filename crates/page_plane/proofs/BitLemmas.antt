-- Single bits of octets and of rows.
use Rattle.std.proofs.Common.{◌≡◌, ℕ, ◌<◌, ◌≤◌, ◌+◌, ◌-◌, ◌*◌, ◌/◌, ◌%◌, ◌^◌, min, max, Bool, true, false, ◌==◌, ◌&&◌, nat_le, nat_lt, if◌then◌else◌, refl, sym, ap, subst, ◌∙◌, inl, inr, arith, add-zero, bit_and, bit_or}
use Rattle.std.specs.Int.{bit_at, rotate_left, w8, w64}
use Rattle.std.proofs.lemmas.Bool.{lt-ltb, le-ltb, le-leb, lt-leb, eq-eqb, eqb-true, ne_eqb, cases_lt, cases_eq}
use Rattle.std.proofs.lemmas.Nat.{shr-shr, shl-shr, shr_split, mod_low, mod-pow-add, pow_pos}
use Rattle.std.proofs.lemmas.Nat.Bits.{bit_at_ones, bit_at_ones_above, bit_at_and, bit_at_or, bit_at_not, bit_at-lt, bit_at_above, bit_at-zero, bit_at_cat_low, bit_at_cat_high, ones_shl, bit_at_mask_inside, bit_at_mask_below}
use Rattle.page_plane.specs.Put.{is_put}
use Rattle.page_plane.proofs.PutLemmas.{put_at, put_left, put_right}

-- an octet of a filled row in which the row ends
last_octet : (k j width : ℕ) → j < 8 → 8 * k < width → width < 8 * k + 8 → (bit_at (255 * 2 ^ (8 * k + 8 - width) % 256) (7 - j) == 1) ≡ nat_lt (8 * k + j) width
last_octet k j width h l g =
    let spare = 8 * k + 8 - width in
    let few : spare < 8 = omega arith in
    let mask : 255 * 2 ^ spare % 256 ≡ 256 - 2 ^ spare = ones_shl 8 spare (omega arith) in
    elim (cases_lt (8 * k + j) width) [
      | inl e ↦
          let one : bit_at (256 - 2 ^ spare) (7 - j) ≡ 1 = bit_at_mask_inside spare 8 (7 - j) (omega arith) (omega arith) in
          rw mask (eq-eqb (bit_at (256 - 2 ^ spare) (7 - j)) 1 one ∙ sym (lt-ltb (8 * k + j) width e))
      | inr e ↦
          let none : bit_at (256 - 2 ^ spare) (7 - j) ≡ 0 = bit_at_mask_below spare 8 (7 - j) (omega arith) in
          rw mask (ne_eqb (bit_at (256 - 2 ^ spare) (7 - j)) 1 (λ one. absurd (omega arith)) ∙ sym (le-ltb (8 * k + j) width e))
    ]

-- the last octet of rows of this many octets, which the width ends in
pub end_octet : (len j width : ℕ) → j < 8 → 8 * (len - 1) < width → width < 8 * len → (bit_at (255 * 2 ^ (8 * len - width) % 256) (7 - j) == 1) ≡ nat_lt (8 * (len - 1) + j) width
end_octet len j width h l g =
    let same : 8 * (len - 1) + 8 ≡ 8 * len = omega arith in
    subst (λ n. (bit_at (255 * 2 ^ (n - width) % 256) (7 - j) == 1) ≡ nat_lt (8 * (len - 1) + j) width) same (last_octet (len - 1) j width h l (omega arith))

-- a set bit of the part becomes on, any other stays
pub painted_with : (octet part : ℕ) (on : Bool) (i : ℕ) → part < 256 → i < 8
    → (bit_at (bit_or (bit_and octet (255 - part)) (bit_and part (if on then 255 else 0))) i == 1) ≡ (if bit_at part i == 1 then on else bit_at octet i == 1)
painted_with octet part true i small h =
    let rest = bit_and octet (255 - part) in
    let a = bit_at-lt octet i in
    let b = bit_at-lt part i in
    let not : bit_at (255 - part) i ≡ 1 - bit_at part i = bit_at_not w8 part i small h in
    let kept = bit_at_and octet (255 - part) i in
    let ones : bit_at 255 i ≡ 1 = bit_at_ones 8 i h in
    let put = bit_at_and part 255 i in
    let both = bit_at_or rest (bit_and part 255) i in
    elim (cases_eq (bit_at part i) 1) [
      | inl e ↦ rw (eq-eqb (bit_at part i) 1 e) (eq-eqb (bit_at (bit_or rest (bit_and part 255)) i) 1 (omega arith))
      | inr e ↦
          let same : bit_at (bit_or rest (bit_and part 255)) i ≡ bit_at octet i = omega arith in
          rw (ne_eqb (bit_at part i) 1 e, same) refl
    ]
painted_with octet part false i small h =
    let rest = bit_and octet (255 - part) in
    let a = bit_at-lt octet i in
    let b = bit_at-lt part i in
    let not : bit_at (255 - part) i ≡ 1 - bit_at part i = bit_at_not w8 part i small h in
    let kept = bit_at_and octet (255 - part) i in
    let none = bit_at-zero i in
    let put = bit_at_and part 0 i in
    let both = bit_at_or rest (bit_and part 0) i in
    elim (cases_eq (bit_at part i) 1) [
      | inl e ↦ rw (eq-eqb (bit_at part i) 1 e) (ne_eqb (bit_at (bit_or rest (bit_and part 0)) i) 1 (λ one. absurd (omega arith)))
      | inr e ↦
          let same : bit_at (bit_or rest (bit_and part 0)) i ≡ bit_at octet i = omega arith in
          rw (ne_eqb (bit_at part i) 1 e, same) refl
    ]

-- the low bits of a number, and of one that is moved to the left
pub low_bit : (a j i : ℕ) → i < j → bit_at (a % 2 ^ j) i ≡ bit_at a i
low_bit a j i h = sym (bit_at_cat_low (a / 2 ^ j) j (a % 2 ^ j) i h) ∙ ap (λ n. bit_at n i) (shr_split a j)

shifted : (a k w : ℕ) → k ≤ w → a * 2 ^ k % 2 ^ w ≡ a % 2 ^ (w - k) * 2 ^ k + 0
shifted a k w h =
    let all : w ≡ w - k + k = omega arith in
    let clear : a * 2 ^ k % 2 ^ k ≡ 0 = ap (λ n. n % 2 ^ k) (sym (add-zero (a * 2 ^ k))) ∙ mod_low a k 0 (pow_pos k) in
    ap (λ n. a * 2 ^ k % 2 ^ n) all ∙ (mod-pow-add (a * 2 ^ k) (w - k) k ∙ rw (shl-shr a k, clear) refl)

shifted_low : (a k w i : ℕ) → k ≤ w → i < k → bit_at (a * 2 ^ k % 2 ^ w) i ≡ 0
shifted_low a k w i h l = ap (λ n. bit_at n i) (shifted a k w h) ∙ (bit_at_cat_low (a % 2 ^ (w - k)) k 0 i l ∙ bit_at-zero i)

shifted_high : (a k w i : ℕ) → k ≤ w → k ≤ i → i < w → bit_at (a * 2 ^ k % 2 ^ w) i ≡ bit_at a (i - k)
shifted_high a k w i h l g =
    ap (λ n. bit_at n i) (shifted a k w h) ∙ (bit_at_cat_high (a % 2 ^ (w - k)) k 0 i (pow_pos k) l ∙ low_bit a (w - k) (i - k) (omega arith))

-- a bit of the lowest octet of a row that is turned to the left
pub turned_bit : (bits turn j : ℕ) → bits < 2 ^ 64 → j < 8 → 8 ≤ turn + j → turn + j < 72 → bit_at (rotate_left w64 bits turn) (7 - j) ≡ bit_at bits (71 - (turn + j))
turned_bit bits turn j small h from to =
    let by = turn % 64 in
    let back = (64 - by) % 64 in
    let bit = bit_at bits (71 - (turn + j)) in
    let both : bit_at (rotate_left w64 bits turn) (7 - j) ≡ max (bit_at (bits * 2 ^ by % 2 ^ 64) (7 - j)) (bit_at (bits / 2 ^ back) (7 - j)) =
    bit_at_or (bits * 2 ^ by % 2 ^ 64) (bits / 2 ^ back) (7 - j) in
    let right : bit_at (bits / 2 ^ back) (7 - j) ≡ bit_at bits (back + (7 - j)) = ap (λ n. n % 2) (shr-shr bits back (7 - j)) in
    elim (cases_lt turn 64) [
      | inl less ↦
          let none : bit_at (bits * 2 ^ by % 2 ^ 64) (7 - j) ≡ 0 = shifted_low bits by 64 (7 - j) (omega arith) (omega arith) in
          let there : back + (7 - j) ≡ 71 - (turn + j) = omega arith in
          let same : bit_at bits (back + (7 - j)) ≡ bit = ap (λ n. bit_at bits n) there in
          omega arith
      | inr more ↦
          let left : bit_at (bits * 2 ^ by % 2 ^ 64) (7 - j) ≡ bit_at bits (7 - j - by) = shifted_high bits by 64 (7 - j) (omega arith) (omega arith) (omega arith) in
          let there : 7 - j - by ≡ 71 - (turn + j) = omega arith in
          let same : bit_at bits (7 - j - by) ≡ bit = ap (λ n. bit_at bits n) there in
          elim (cases_eq by 0) [
            | inl zero ↦
                let also : back + (7 - j) ≡ 71 - (turn + j) = omega arith in
                let again : bit_at bits (back + (7 - j)) ≡ bit = ap (λ n. bit_at bits n) also in
                omega arith
            | inr some ↦
                let none : bit_at bits (back + (7 - j)) ≡ 0 = bit_at_above bits 64 (back + (7 - j)) small (omega arith) in
                omega arith
          ]
    ]

-- a bit under a mask of the lowest octet
pub masked_bit : (n mask i : ℕ) → i < 8 → bit_at (bit_and (bit_and n 255) mask) i ≡ min (bit_at mask i) (bit_at n i)
masked_bit n mask i h =
    let both = bit_at_and (bit_and n 255) mask i in
    let low = bit_at_and n 255 i in
    let ones : bit_at 255 i ≡ 1 = bit_at_ones 8 i h in
    let small = bit_at-lt n i in
    omega arith

-- the bits of an octet that a row's columns stand in
pub strip_bit : (x width start j : ℕ) → j < 8 → start < x + width → x < start + 8
    → (bit_at (bit_and (255 / 2 ^ (x - start)) (255 * 2 ^ (start + 8 - (x + width)) % 256)) (7 - j) == 1) ≡ (nat_le x (start + j) && nat_lt (start + j) (x + width))
strip_bit x width start j h left right =
    let before = x - start in
    let after = start + 8 - (x + width) in
    let mask = bit_and (255 / 2 ^ before) (255 * 2 ^ after % 256) in
    let both : bit_at mask (7 - j) ≡ min (bit_at (255 / 2 ^ before) (7 - j)) (bit_at (255 * 2 ^ after % 256) (7 - j)) =
    bit_at_and (255 / 2 ^ before) (255 * 2 ^ after % 256) (7 - j) in
    let first : bit_at (255 / 2 ^ before) (7 - j) ≡ bit_at 255 (before + (7 - j)) = ap (λ n. n % 2) (shr-shr 255 before (7 - j)) in
    let last : bit_at (255 * 2 ^ after % 256) (7 - j) ≡ bit_at (256 - 2 ^ after) (7 - j) = ap (λ n. bit_at n (7 - j)) (ones_shl 8 after (omega arith)) in
    elim (cases_lt (start + j) x) [
      | inl e ↦
          let none : bit_at 255 (before + (7 - j)) ≡ 0 = bit_at_ones_above 8 (before + (7 - j)) (omega arith) in
          rw (lt-leb x (start + j) e) (ne_eqb (bit_at mask (7 - j)) 1 (λ one. absurd (omega arith)))
      | inr e ↦ elim (cases_lt (start + j) (x + width)) [
        | inl l ↦
            let set : bit_at 255 (before + (7 - j)) ≡ 1 = bit_at_ones 8 (before + (7 - j)) (omega arith) in
            let inside : bit_at (256 - 2 ^ after) (7 - j) ≡ 1 = bit_at_mask_inside after 8 (7 - j) (omega arith) (omega arith) in
            rw (le-leb x (start + j) e, lt-ltb (start + j) (x + width) l) (eq-eqb (bit_at mask (7 - j)) 1 (omega arith))
        | inr g ↦
            let none : bit_at (256 - 2 ^ after) (7 - j) ≡ 0 = bit_at_mask_below after 8 (7 - j) (omega arith) in
            rw (le-leb x (start + j) e, le-ltb (start + j) (x + width) g) (ne_eqb (bit_at mask (7 - j)) 1 (λ one. absurd (omega arith)))
      ]
    ]

-- a bit that isn't 1
pub clear_bit : (n i : ℕ) → (bit_at n i == 1) ≡ false → bit_at n i ≡ 0
clear_bit n i e =
    let small = bit_at-lt n i in
    elim (cases_eq (bit_at n i) 1) [
      | inl one ↦ absurd (let wrong : true ≡ false = sym (eq-eqb (bit_at n i) 1 one) ∙ e in cc)
      | inr not ↦ omega arith
    ]

-- the pixels of a row that an octet shows
pub shown_bit : (x width start bits mask part turn j : ℕ) → j < 8 → width ≤ 64 → turn ≡ start + 8 - x → start < x + width → x < start + 8
    → ((bit_at mask (7 - j) == 1) ≡ (nat_le x (start + j) && nat_lt (start + j) (x + width)))
    → (8 ≤ turn + j → turn + j < 72 → bit_at part (7 - j) ≡ min (bit_at mask (7 - j)) (bit_at bits (71 - (turn + j))))
    → (bit_at mask (7 - j) ≡ 0 → bit_at part (7 - j) ≡ 0)
    → (bit_at part (7 - j) == 1) ≡ is_put x 0 width bits (start + j) 0
shown_bit x width start bits mask part turn j h most e left right masked shown hidden = elim (cases_lt (start + j) x) [
  | inl l ↦
      let off : bit_at mask (7 - j) ≡ 0 = clear_bit mask (7 - j) (masked ∙ rw (lt-leb x (start + j) l) refl) in
      rw (hidden off) (sym (put_left x 0 width bits (start + j) 0 l))
  | inr l ↦ elim (cases_lt (start + j) (x + width)) [
    | inl g ↦
        let on : bit_at mask (7 - j) ≡ 1 = eqb-true (bit_at mask (7 - j)) 1 (masked ∙ rw (le-leb x (start + j) l, lt-ltb (start + j) (x + width) g) refl) in
        let pixel = start + j - x in
        let there : 71 - (turn + j) ≡ 63 - pixel = omega arith in
        let same : bit_at bits (71 - (turn + j)) ≡ bit_at bits (63 - pixel) = ap (λ n. bit_at bits n) there in
        let few = bit_at-lt bits (63 - pixel) in
        let put : bit_at part (7 - j) ≡ bit_at bits (63 - pixel) = shown (omega arith) (omega arith) ∙ omega arith in
        let column : x + pixel ≡ start + j = omega arith in
        rw put (sym (put_at x 0 width bits pixel (omega arith)) ∙ ap (λ c. is_put x 0 width bits c 0) column)
    | inr g ↦
        let off : bit_at mask (7 - j) ≡ 0 = clear_bit mask (7 - j) (masked ∙ rw (le-leb x (start + j) l, le-ltb (start + j) (x + width) g) refl) in
        rw (hidden off) (sym (put_right x 0 width bits (start + j) 0 g))
  ]
]
