-- The colours of pixels, in one list.
use Rattle.std.proofs.Common.{◌≡◌, ℕ, zero, suc, ◌+◌, ◌<◌, List, [], ◌∷◌, ◌++◌, length, map, refl, ap, ◌∙◌, arith, replicate, ◌*◌, subst, get_or}
use Rattle.std.proofs.Math.ListN.{get_or-append}
use Rattle.std.proofs.lemmas.List.{get_or-append-add, replicate-append-replicate}
use Rattle.std.specs.List.{flat_map, range_with_len}
use Rattle.page_plane.specs.Plane.{BitPlane}
use Rattle.sign_font.specs.Sign.{SignData}
use Rattle.multi_meaning.specs.Picture.{Lights, picture}
use Rattle.octet_text.proofs.TextLemmas.{flat_map_more, flat_map_same, map_more, map_same}
use Rattle.page_picture.specs.Colours.{row_values, values}
use Rattle.page_picture.specs.Dots.{value_at}

-- what a plane shows by a sign and octets it shows by the same ones
pub lights_by : (sign other : SignData) (octets others : List ℕ) (page phase colour : ℕ) (plane : BitPlane) → other ≡ sign → others ≡ octets
    → Lights plane (picture other others page phase colour) → Lights plane (picture sign octets page phase colour)
lights_by sign other octets others page phase colour plane same_sign same_octets shows =
    subst (λ (s : SignData). Lights plane (picture s octets page phase colour)) same_sign
    (subst (λ l. Lights plane (picture other l page phase colour)) same_octets shows)

-- no row is there at first
pub values_none : (at : ℕ → ℕ → ℕ) (width : ℕ) → values at width 0 ≡ []
unfolding values
values_none at width = refl

-- one more row comes after those above it
pub values_more : (at : ℕ → ℕ → ℕ) (width row : ℕ) → values at width (row + 1) ≡ values at width row ++ row_values at width row
unfolding values
values_more at width row =
    let next : row + 1 ≡ suc row = omega arith in
    ap (λ n. flat_map (row_values at width) (range_with_len 0 n)) next ∙ flat_map_more (row_values at width) 0 row row (omega arith)

-- one more pixel comes after those to the left of it
pub row_more : (at : ℕ → ℕ → ℕ) (row column : ℕ) → row_values at (column + 1) row ≡ row_values at column row ++ at column row ∷ []
row_more at row column =
    let next : column + 1 ≡ suc column = omega arith in
    ap (λ n. map (λ k. at k row) (range_with_len 0 n)) next ∙ map_more (λ k. at k row) 0 column column (omega arith)

-- what has the same pixels has the same values
pub values_same : (at other : ℕ → ℕ → ℕ) (width height : ℕ) → ((column row : ℕ) → column < width → row < height → at column row ≡ other column row)
    → values at width height ≡ values other width height
unfolding values
values_same at other width height same =
    flat_map_same (row_values at width) (row_values other width) 0 height (λ row above.
    map_same (λ k. at k row) (λ k. other k row) 0 width (λ column left. same column row (omega (arith, left)) (omega (arith, above))))

zeros : (a n : ℕ) → map {B = ℕ} (λ k. 0) (range_with_len a n) ≡ replicate n 0
zeros a zero = refl
zeros a (suc n) = ap (λ l. 0 ∷ l) (zeros (a + 1) n)

zero_rows : (a width n : ℕ) → flat_map {A = ℕ} (λ row. map {B = ℕ} (λ k. 0) (range_with_len 0 width)) (range_with_len a n) ≡ replicate (width * n) 0
zero_rows a width zero = ap (λ k. replicate k 0) (let none : 0 ≡ width * 0 = omega arith in none)
zero_rows a width (suc n) =
    ap (λ l. l ++ flat_map {A = ℕ} (λ row. map {B = ℕ} (λ k. 0) (range_with_len 0 width)) (range_with_len (a + 1) n)) (zeros 0 width)
    ∙ ap (λ l. replicate width 0 ++ l) (zero_rows (a + 1) width n)
    ∙ replicate-append-replicate width (width * n) 0
    ∙ ap (λ k. replicate k 0) (let all : width + width * n ≡ width * suc n = omega arith in all)

-- pixels that are all 0
pub values_zero : (width height : ℕ) → values (λ column row. 0) width height ≡ replicate (width * height) 0
unfolding values
values_zero width height = zero_rows 0 width height

row_get : (at : ℕ → ℕ → ℕ) (row a n k : ℕ) → k < n → get_or (map (λ column. at column row) (range_with_len a n)) k 0 ≡ at (a + k) row
row_get at row a zero k below = absurd (omega (arith, below))
row_get at row a (suc n) zero below = ap (λ c. at c row) (omega arith)
row_get at row a (suc n) (suc k) below =
    let next : a + 1 + k ≡ a + suc k = omega arith in
    row_get at row (a + 1) n k (omega (arith, below)) ∙ ap (λ c. at c row) next

row_count : (at : ℕ → ℕ → ℕ) (row a n : ℕ) → length (map (λ column. at column row) (range_with_len a n)) ≡ n
row_count at row a zero = refl
row_count at row a (suc n) = ap suc (row_count at row (a + 1) n)

values_get : (at : ℕ → ℕ → ℕ) (width a n row column : ℕ) → column < width → row < n
    → get_or (flat_map (row_values at width) (range_with_len a n)) (width * row + column) 0 ≡ at column (a + row)
values_get at width a zero row column left above = absurd (omega (arith, above))
values_get at width a (suc n) zero column left above =
    let first = row_values at width a in
    let rest = flat_map (row_values at width) (range_with_len (a + 1) n) in
    let count = row_count at a 0 width in
    let place : width * 0 + column ≡ column = omega arith in
    let here : a ≡ a + 0 = omega arith in
    let left_of : 0 + column ≡ column = omega arith in
    ap (λ k. get_or (first ++ rest) k 0) place
    ∙ get_or-append first rest 0 column (omega (arith, count, left))
    ∙ row_get at a 0 width column left
    ∙ ap (λ k. at k a) left_of
    ∙ ap (at column) here
values_get at width a (suc n) (suc row) column left above =
    let first = row_values at width a in
    let rest = flat_map (row_values at width) (range_with_len (a + 1) n) in
    let count = row_count at a 0 width in
    let next : a + 1 + row ≡ a + suc row = omega arith in
    let place : width * suc row + column ≡ length first + (width * row + column) = omega (arith, count) in
    ap (λ k. get_or (first ++ rest) k 0) place
    ∙ get_or-append-add first rest (width * row + column) 0
    ∙ values_get at width (a + 1) n row column left (omega (arith, above))
    ∙ ap (at column) next

-- the value of a pixel in the list of all
pub value_of : (at : ℕ → ℕ → ℕ) (width height column row : ℕ) → column < width → row < height → value_at (values at width height) width column row ≡ at column row
unfolding values
value_of at width height column row left above =
    let from : 0 + row ≡ row = omega arith in
    values_get at width 0 height row column left above ∙ ap (at column) from
