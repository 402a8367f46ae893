-- Planes and their pixels.
use Rattle.std.proofs.Common.{◌≡◌, ℕ, ◌<◌, ◌≤◌, ◌+◌, ◌*◌, ◌/◌, ◌%◌, Bool, false, List, length, get_or, refl, sym, ap, ◌∙◌, inl, inr, arith}
use Rattle.std.proofs.lemmas.Bool.{lt-ltb, le-ltb, cases_lt}
use Rattle.std.proofs.lemmas.Nat.{mul-add-lt, mod-mul-add, div-mul-add, mod_below, div_below}
use mathlib.Core.HLevel.{Σ_prop_path}
use native.Mathlib.Nat.{ℕ_set}
use Rattle.std.proofs.lemmas.List.{ext_get_or}
use Rattle.std.proofs.lemmas.List.FromFn.{get_or-map-range_with_len}
use Rattle.page_plane.specs.Plane.{BitPlane, is_lit}
use Rattle.page_plane.specs.Octets.{plane_of, APlaneIsItsPixels}

-- outside a plane no pixel is lit
pub unlit_right : (plane : BitPlane) (x y : ℕ) → plane.width ≤ x → is_lit plane x y ≡ false
unfolding is_lit
unlit_right plane x y h = rw (le-ltb x plane.width h) refl

pub unlit_below : (plane : BitPlane) (x y : ℕ) → plane.height ≤ y → is_lit plane x y ≡ false
unfolding is_lit
unlit_below plane x y h = elim (cases_lt x plane.width) [
  | inl l ↦ rw (lt-ltb x plane.width l, le-ltb y plane.height h) refl
  | inr g ↦ rw (le-ltb x plane.width g) refl
]

-- inside the plane of a test that test says it
pub lit_of : (width height steps : ℕ) (lit : ℕ → ℕ → Bool) (x y : ℕ) → x < width → y < height → is_lit (plane_of width height steps lit) x y ≡ lit x y
unfolding is_lit
lit_of width height steps lit x y h g =
    let place = y * width + x in
    let read = get_or-map-range_with_len (λ p. lit (p % width) (p / width)) 0 (width * height) place place false (omega (arith, mul-add-lt y width x height g h)) (omega arith) in
    rw (lt-ltb x width h, lt-ltb y height g) (read ∙ rw (mod-mul-add y width x h, div-mul-add y width x h) refl)

-- A PLANE IS ITS PIXELS

-- the data of a plane
abbrev Data : Type 0
Data = ℕ × ℕ × ℕ × List Bool

abbrev IsSized : Data → Type 0
IsSized d = length d.3 ≡ d.0 * d.1

abbrev plane_of_data : ((d : Data) × IsSized d) → BitPlane
plane_of_data p = record { width = p.0.0; height = p.0.1; steps = p.0.2; pixels = p.0.3; sized = p.1 }

same_data : (a b : BitPlane) → a.width ≡ b.width → a.height ≡ b.height → a.steps ≡ b.steps → a.pixels ≡ b.pixels → a ≡ b
same_data a b w h s p =
    let data_of : BitPlane → ((d : Data) × IsSized d) = λ q. ((q.width, q.height, q.steps, q.pixels), q.sized) in
    let same : (data_of a).0 ≡ (data_of b).0 = λ i. (w i, h i, s i, p i) in
    ap plane_of_data (Σ_prop_path (λ (d : Data). ℕ_set (length d.3) (d.0 * d.1)) same)

pixel_at : (plane : BitPlane) (x y : ℕ) → x < plane.width → y < plane.height → is_lit plane x y ≡ get_or plane.pixels (y * plane.width + x) false
unfolding is_lit
pixel_at plane x y h g = rw (lt-ltb x plane.width h, lt-ltb y plane.height g) refl

pub a_plane_is_its_pixels : APlaneIsItsPixels
a_plane_is_its_pixels a b w h s lit =
    let sizes : length a.pixels ≡ length b.pixels = a.sized ∙ (ap (λ n. n * a.height) w ∙ ap (λ n. b.width * n) h) ∙ sym b.sized in
    let each : (k : ℕ) → k < length a.pixels → get_or a.pixels k false ≡ get_or b.pixels k false = λ k l.
    let some : 0 < a.width = elim (cases_lt 0 a.width) [ inl p ↦ p | inr z ↦ absurd (let none : a.width ≡ 0 = omega arith in omega (arith, a.sized, ap (λ n. n * a.height) none)) ] in
    let x : k % a.width < a.width = mod_below k a.width some in
    let y : k / a.width < a.height = div_below k a.width a.height some (omega (arith, a.sized)) in
    let there : k / a.width * a.width + k % a.width ≡ k = omega arith in
    ap (λ n. get_or a.pixels n false) (sym there) ∙ sym (pixel_at a (k % a.width) (k / a.width) x y)
    ∙ lit (k % a.width) (k / a.width) x y
    ∙ pixel_at b (k % a.width) (k / a.width) (omega arith) (omega arith)
    ∙ ap (λ n. get_or b.pixels (k / a.width * n + k % a.width) false) (sym w) ∙ ap (λ n. get_or b.pixels n false) there in
    same_data a b w h s (ext_get_or false a.pixels b.pixels sizes each)
