-- A plane over its octets.
use Rattle.std.proofs.Common.{◌≡◌, ℕ, ◌<◌, ◌≤◌, ◌+◌, ◌*◌, ◌%◌, Bool, true, false, ◌&&◌, nat_lt, if◌then◌else◌, List, length, replicate, take, drop, refl, sym, ap, ◌∙◌, inl, inr, arith}
use Rattle.std.proofs.lemmas.Bool.{lt-ltb, le-ltb, cases_lt, and_right}
use Rattle.std.proofs.lemmas.Nat.{mod-mul-add}
use Rattle.std.proofs.lemmas.List.{length-replicate, length-take}
use Rattle.std.proofs.Math.Nat.{mul-le-mul_right}
use Rattle.page_plane.specs.Plane.{is_lit}
use Rattle.page_plane.specs.Octets.{row_octets, is_bit_set, bit_place, stored_plane, IsStored}
use Rattle.page_plane.specs.Put.{is_block_put, IsBlockPutAt}
use Rattle.page_plane.proofs.PlaneLemmas.{lit_of, unlit_right, unlit_below}
use Rattle.page_plane.proofs.PutLemmas.{first_below, first_right}
use Rattle.page_plane.proofs.OctetLemmas.{IsFilledBelow, none_set, none_past, part_bit}

-- a pixel's place is among the octets
pub place_within : (width height x y : ℕ) (octets : List ℕ) → length octets ≡ row_octets width * height → x < 8 * row_octets width → y < height → bit_place width x y < 8 * length octets
place_within width height x y octets count h g =
    let rows : (y + 1) * row_octets width ≤ height * row_octets width = mul-le-mul_right (row_octets width) (omega arith) in
    omega arith

-- a pixel that stands in the plane is the bit at its place
pub stored_lit : (width height steps x y : ℕ) (octets : List ℕ) → x < width → y < height → is_lit (stored_plane width height steps octets) x y ≡ is_bit_set octets (bit_place width x y)
stored_lit width height steps x y octets h g = lit_of width height steps (λ x y. is_bit_set octets (bit_place width x y)) x y h g

-- OCTETS OF 0

pub stored_dark : (width height : ℕ) → (1 ≤ width) × (width ≤ 1024) → (1 ≤ height) × (height ≤ 128) → IsStored width height (replicate (row_octets width * height) 0)
stored_dark width height w h = record {
  width_range = w;
  height_range = h;
  count = length-replicate {A = ℕ} (row_octets width * height) 0;
  spare = λ x y _ _ _. none_set (row_octets width * height) (bit_place width x y);
}

pub dark : (width height steps n x y : ℕ) → is_lit (stored_plane width height steps (replicate n 0)) x y ≡ false
dark width height steps n x y = elim (cases_lt x width) [
  | inl h ↦ elim (cases_lt y height) [
    | inl g ↦ stored_lit width height steps x y (replicate n 0) h g ∙ none_set n (bit_place width x y)
    | inr l ↦ unlit_below (stored_plane width height steps (replicate n 0)) x y l
  ]
  | inr l ↦ unlit_right (stored_plane width height steps (replicate n 0)) x y l
]

-- FILLED ROWS

and_true : (b : Bool) → (b && true) ≡ b
and_true true = refl
and_true false = refl

filled_bit : (width height x y : ℕ) (old new : List ℕ) (on : Bool) → IsStored width height old → IsFilledBelow new width on (8 * length old) → x < 8 * row_octets width → y < height
    → is_bit_set new (bit_place width x y) ≡ (on && nat_lt x width)
filled_bit width height x y old new on stored filled h g =
    let len = row_octets width in
    let there : bit_place width x y ≡ y * (8 * len) + x = omega arith in
    let column : bit_place width x y % (8 * len) ≡ x = ap (λ n. n % (8 * len)) there ∙ mod-mul-add y (8 * len) x h in
    filled (bit_place width x y) (place_within width height x y old stored.count h g) ∙ ap (λ n. on && nat_lt n width) column

pub stored_filled : (width height : ℕ) (old new : List ℕ) (on : Bool) → IsStored width height old → length new ≡ length old → IsFilledBelow new width on (8 * length old) → IsStored width height new
stored_filled width height old new on stored size filled = record {
  width_range = stored.width_range;
  height_range = stored.height_range;
  count = size ∙ stored.count;
  spare = λ x y past within row. filled_bit width height x y old new on stored filled within row ∙ and_right on (nat_lt x width) (le-ltb x width past);
}

pub filled_lit : (width height steps x y : ℕ) (old new : List ℕ) (on : Bool) → IsStored width height old → IsFilledBelow new width on (8 * length old) → x < width → y < height
    → is_lit (stored_plane width height steps new) x y ≡ on
filled_lit width height steps x y old new on stored filled h g =
    stored_lit width height steps x y new h g
    ∙ filled_bit width height x y old new on stored filled (omega arith) g
    ∙ rw (lt-ltb x width h) (and_true on)

-- ROWS THAT ARE PUT

pub stored_put : (w h x y width : ℕ) (rows old new : List ℕ) (on : Bool) → IsStored w h old → length new ≡ length old → x + width ≤ w → IsBlockPutAt old new w x y width rows (length rows) on → IsStored w h new
stored_put w h x y width rows old new on stored size inside put = record {
  width_range = stored.width_range;
  height_range = stored.height_range;
  count = size ∙ stored.count;
  spare = λ column row past within below.
      put column row within ∙ rw (first_right x y width rows (length rows) column row (omega arith)) (stored.spare column row past within below);
}

pub put_lit : (w h s t x y width column row : ℕ) (rows old new : List ℕ) (on : Bool) → x + width ≤ w → y + length rows ≤ h → IsBlockPutAt old new w x y width rows (length rows) on
    → is_lit (stored_plane w h t new) column row ≡ (if is_block_put x y width rows column row then on else is_lit (stored_plane w h s old) column row)
put_lit w h s t x y width column row rows old new on inside above put = elim (cases_lt column w) [
  | inl c ↦ elim (cases_lt row h) [
    | inl r ↦ stored_lit w h t column row new c r ∙ put column row (omega arith) ∙ rw (stored_lit w h s column row old c r) refl
    | inr r ↦ rw (unlit_below (stored_plane w h t new) column row r, first_below x y width rows (length rows) column row (omega arith)) (sym (unlit_below (stored_plane w h s old) column row r))
  ]
  | inr c ↦ rw (unlit_right (stored_plane w h t new) column row c, first_right x y width rows (length rows) column row (omega arith)) (sym (unlit_right (stored_plane w h s old) column row c))
]

-- A ROW'S OCTETS

pub row_lit : (width height steps x y : ℕ) (octets : List ℕ) → x < width → y < height
    → is_bit_set (take (row_octets width) (drop (y * row_octets width) octets)) x ≡ is_lit (stored_plane width height steps octets) x y
row_lit width height steps x y octets h g =
    part_bit octets (y * row_octets width) (row_octets width) x (omega arith) ∙ sym (stored_lit width height steps x y octets h g)

pub row_spare : (width height x y : ℕ) (octets : List ℕ) → IsStored width height octets → width ≤ x → y < height
    → is_bit_set (take (row_octets width) (drop (y * row_octets width) octets)) x ≡ false
row_spare width height x y octets stored past g =
    let len = row_octets width in
    elim (cases_lt x (8 * len)) [
      | inl h ↦ part_bit octets (y * len) len x h ∙ stored.spare x y past h g
      | inr h ↦ none_past (take len (drop (y * len) octets)) x (simp length-take (omega arith))
    ]
