-- How many points a picture has, and which numbers they have.
use Rattle.std.proofs.Common.{◌≡◌, ℕ, zero, suc, ◌+◌, ◌*◌, ◌<◌, ◌≤◌, List, length, map, refl, ap, ◌∙◌, arith, length-append, inl, inr}
use Rattle.std.proofs.Math.ListN.{get_or-eq_default}
use Rattle.std.proofs.Math.Nat.{mul_assoc, mul-le-mul_left}
use Rattle.std.proofs.lemmas.List.Elements.{All-append, All-cons, All-nil}
use Rattle.std.proofs.lemmas.Bool.{cases_Bool, cases_lt}
use Rattle.std.specs.List.{All, flat_map, range_with_len}
use Rattle.page_picture.specs.Dots.{dot_line, dots, is_in_dot, line_points, point_of, row_points, value_at}

-- a row ends within all rows
pub row_inside : (width height row : ℕ) → row < height → width * row + width ≤ width * height
row_inside width height row above =
    let most : width * (row + 1) ≤ width * height = mul-le-mul_left width (omega (arith, above)) in
    omega (arith, most)

-- a pixel of a list of colours is a colour, also where there is none
pub small_at : (colours : List ℕ) (width column row : ℕ) → All (λ c. c < 15) colours → value_at colours width column row < 15
small_at colours width column row all =
    let place = width * row + column in
    elim (cases_lt place (length colours)) [
      | inl less ↦ all place 0 less
      | inr least ↦ let none = get_or-eq_default colours 0 least in omega (arith, none)
    ]

flat_length : (f : ℕ → List ℕ) (m a n : ℕ) → ((k : ℕ) → length (f k) ≡ m) → length (flat_map f (range_with_len a n)) ≡ m * n
flat_length f m a zero each = omega arith
flat_length f m a (suc n) each =
    let both = length-append (f a) (flat_map f (range_with_len (a + 1) n)) in
    let first = each a in
    let rest = flat_length f m (a + 1) n each in
    omega (arith, both, first, rest)

flat_all : (f : ℕ → List ℕ) (a n : ℕ) → ((k : ℕ) → All (λ p. p < 16) (f k)) → All (λ p. p < 16) (flat_map f (range_with_len a n))
flat_all f a zero each = All-nil (λ p. p < 16)
flat_all f a (suc n) each = All-append (λ p. p < 16) (f a) (flat_map f (range_with_len (a + 1) n)) (each a) (flat_all f (a + 1) n each)

map_length : (f : ℕ → ℕ) (a n : ℕ) → length (map f (range_with_len a n)) ≡ n
map_length f a zero = refl
map_length f a (suc n) = ap suc (map_length f (a + 1) n)

map_all : (f : ℕ → ℕ) (a n : ℕ) → ((k : ℕ) → f k < 16) → All (λ p. p < 16) (map f (range_with_len a n))
map_all f a zero each = All-nil (λ p. p < 16)
map_all f a (suc n) each = All-cons (λ p. p < 16) (f a) (map f (range_with_len (a + 1) n)) (each a) (map_all f (a + 1) n each)

point_small : (side colour line point : ℕ) → colour < 15 → point_of side colour line point < 16
point_small side colour line point small = elim (cases_Bool (is_in_dot side line point)) [
  | inl is ↦ rw is (omega (arith, small))
  | inr isn't ↦ rw isn't (omega arith)
]

dot_length : (side colour line : ℕ) → length (dot_line side colour line side) ≡ side
unfolding dot_line
dot_length side colour line = map_length (point_of side colour line) 0 side

dot_all : (side colour line : ℕ) → colour < 15 → All (λ p. p < 16) (dot_line side colour line side)
unfolding dot_line
dot_all side colour line small = map_all (point_of side colour line) 0 side (λ k. point_small side colour line k small)

-- each point of a picture is a number of the palette, and they fill it
pub all_dots : (side : ℕ) (at : ℕ → ℕ → ℕ) (width height : ℕ) → ((column row : ℕ) → at column row < 15)
    → All (λ p. p < 16) (dots side at width height) × (length (dots side at width height) ≡ side * width * (side * height))
unfolding dots row_points line_points
all_dots side at width height small = (
  flat_all (λ r. row_points side at width r side) 0 height (λ r.
      flat_all (λ l. line_points side at r l width) 0 side (λ l.
      flat_all (λ c. dot_line side (at c r) l side) 0 width (λ c. dot_all side (at c r) l (small c r)))),
  flat_length (λ r. row_points side at width r side) (side * width * side) 0 height (λ r.
      flat_length (λ l. line_points side at r l width) (side * width) 0 side (λ l.
      flat_length (λ c. dot_line side (at c r) l side) side 0 width (λ c. dot_length side (at c r) l)))
      ∙ mul_assoc (side * width) side height,
)
