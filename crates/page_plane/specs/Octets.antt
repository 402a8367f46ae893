-- Planes by their pixels, and pixels in octets: a row begins on an octet, its leftmost pixel in the highest bit, and its spare bits are 0.
use Rattle.std.specs.Prelude.{◌≡◌, ◌<◌, ◌≤◌, ℕ, ◌+◌, ◌-◌, ◌*◌, ◌/◌, ◌%◌, Bool, false, ◌==◌, List, length, map, slice_index}
use Rattle.std.specs.Int.{bit_at}
use Rattle.std.specs.List.{range_with_len}
use Rattle.std.proofs.lemmas.List.FromFn.{length-map-range_with_len}
use Rattle.page_plane.specs.Plane.{BitPlane, is_lit}

-- the plane of this size and these steps that has lit the pixels of a test of column and row (own)
abbrev pub plane_of : ℕ → ℕ → ℕ → (ℕ → ℕ → Bool) → BitPlane
plane_of width height steps lit = record {
  width = width;
  height = height;
  steps = steps;
  pixels = map (λ place. lit (place % width) (place / width)) (range_with_len 0 (width * height));
  sized = length-map-range_with_len (λ place. lit (place % width) (place / width)) 0 (width * height);
}

-- a law: a plane is its size, its steps and its lit pixels (own)
abbrev pub APlaneIsItsPixels : Type 0
APlaneIsItsPixels = (a b : BitPlane) → a.width ≡ b.width → a.height ≡ b.height → a.steps ≡ b.steps
    → ((x y : ℕ) → x < a.width → y < a.height → is_lit a x y ≡ is_lit b x y) → a ≡ b

-- the octets of a row of this width (own)
abbrev pub row_octets : ℕ → ℕ
row_octets width = (width + 7) / 8

-- the octets of a plane (own)
abbrev pub octet_count : BitPlane → ℕ
octet_count plane = row_octets plane.width * plane.height

-- the bit at this place is set: eight places an octet, from its highest bit on (own)
unfoldable pub is_bit_set : List ℕ → ℕ → Bool
is_bit_set octets place = bit_at (slice_index octets (place / 8)) (7 - place % 8) == 1

-- the place of a pixel in the octets of a plane of this width (own)
abbrev pub bit_place : ℕ → ℕ → ℕ → ℕ
bit_place width x y = 8 * (y * row_octets width) + x

-- the plane of this size and these steps that octets hold (own)
abbrev pub stored_plane : ℕ → ℕ → ℕ → List ℕ → BitPlane
stored_plane width height steps octets = plane_of width height steps (λ x y. is_bit_set octets (bit_place width x y))

-- the octets are those of a plane of this size, and their spare bits are 0 (own)
pub record IsStored (width height : ℕ) (octets : List ℕ) : Type 0 where
  pub width_range : (1 ≤ width) × (width ≤ 1024)
  pub height_range : (1 ≤ height) × (height ≤ 128)
  pub count : length octets ≡ row_octets width * height
  pub spare : (x y : ℕ) → width ≤ x → x < 8 * row_octets width → y < height → is_bit_set octets (bit_place width x y) ≡ false
