-- The octets of a plane, one row after the other.
use Rattle.std.proofs.Common.{◌≡◌, ℕ, suc, ◌+◌, ◌*◌, ◌/◌, ◌%◌, ◌<◌, ◌≤◌, Bool, false, List, [], ◌++◌, length, refl, sym, ap, ◌∙◌, arith, inl, inr}
use Rattle.std.proofs.Math.Nat.{mul-le-mul_right}
use Rattle.std.proofs.lemmas.Bool.{cases_lt}
use Rattle.std.proofs.lemmas.List.{get_or-append-add, get_or_append_left, length-append}
use Rattle.page_plane.specs.Octets.{bit_place, is_bit_set, row_octets}
use Rattle.latsefur_c.specs.Drawn.{HoldsPlane}

-- a bit of the octets in front
in_front : (front line : List ℕ) (place : ℕ) → place < 8 * length front → is_bit_set (front ++ line) place ≡ is_bit_set front place
unfolding is_bit_set
in_front front line place below = rw (get_or_append_left front line 0 (place / 8) (omega arith)) refl

-- a bit of the octets after them
behind : (front line : List ℕ) (place : ℕ) → is_bit_set (front ++ line) (8 * length front + place) ≡ is_bit_set line place
unfolding is_bit_set
behind front line place =
    let at : (8 * length front + place) / 8 ≡ length front + place / 8 = omega arith in
    let in_octet : (8 * length front + place) % 8 ≡ place % 8 = omega arith in
    rw (at, in_octet, get_or-append-add front line (place / 8) 0) refl

-- no row at first
pub no_rows : (width : ℕ) (lit : ℕ → ℕ → Bool) → HoldsPlane width 0 lit []
no_rows width lit = record {
  count = omega arith;
  pixels = λ x y left above. absurd (omega (arith, above));
  spare = λ x y right within above. absurd (omega (arith, above));
}

-- a bit of a row above the last one
above_last : (width row : ℕ) (front line : List ℕ) (x y : ℕ) → length front ≡ row_octets width * row → x < 8 * row_octets width → y < row
    → is_bit_set (front ++ line) (bit_place width x y) ≡ is_bit_set front (bit_place width x y)
above_last width row front line x y count within above =
    let rows : suc y * row_octets width ≤ row * row_octets width = mul-le-mul_right (row_octets width) (omega (arith, above)) in
    in_front front line (bit_place width x y) (omega (arith, count, within, rows))

-- a bit of the last row
in_last : (width row : ℕ) (front line : List ℕ) (x y : ℕ) → length front ≡ row_octets width * row → y ≡ row → is_bit_set (front ++ line) (bit_place width x y) ≡ is_bit_set line x
in_last width row front line x y count last =
    let place : bit_place width x y ≡ 8 * length front + x = rw last (omega (arith, count)) in
    ap (is_bit_set (front ++ line)) place ∙ behind front line x

-- one more row comes after those above it
pub one_row_more : (width row : ℕ) (lit : ℕ → ℕ → Bool) (front line : List ℕ) → HoldsPlane width row lit front → length line ≡ row_octets width
    → ((x : ℕ) → x < width → is_bit_set line x ≡ lit x row) → ((x : ℕ) → width ≤ x → is_bit_set line x ≡ false) → HoldsPlane width (row + 1) lit (front ++ line)
one_row_more width row lit front line holds len pixels spare = record {
  count = let both = length-append front line in omega (arith, both, len, holds.count);
  pixels = λ x y left above. elim (cases_lt y row) [
    | inl before ↦ above_last width row front line x y holds.count (omega (arith, left)) before ∙ holds.pixels x y left before
    | inr after ↦ let last : y ≡ row = omega (arith, above, after) in in_last width row front line x y holds.count last ∙ pixels x left ∙ ap (lit x) (sym last)
  ];
  spare = λ x y right within above. elim (cases_lt y row) [
    | inl before ↦ above_last width row front line x y holds.count within before ∙ holds.spare x y right within before
    | inr after ↦ let last : y ≡ row = omega (arith, above, after) in in_last width row front line x y holds.count last ∙ spare x right
  ];
}
