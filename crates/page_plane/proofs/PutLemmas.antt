-- Where the pixels of a row come to.
use Rattle.std.proofs.Common.{List, [], ◌∷◌, slice_index, ◌≡◌, ◌≢◌, ℕ, ◌<◌, ◌≤◌, ◌+◌, ◌-◌, false, refl, sym, ◌∙◌, inl, inr, arith}
use Rattle.std.proofs.lemmas.Bool.{and_right, lt-ltb, le-ltb, le-leb, lt-leb, eq-eqb, ne_eqb, cases_lt, cases_eq}
use Rattle.page_plane.specs.Put.{is_row_set, is_put, is_first_put, is_block_put}

-- pixel j of the row comes to column x + j of row y
pub put_at : (x y width bits j : ℕ) → j < width → is_put x y width bits (x + j) y ≡ is_row_set bits j
unfolding is_put
put_at x y width bits j h =
    let there : x + j - x ≡ j = omega arith in
    rw (eq-eqb y y refl, le-leb x (x + j) (omega arith), lt-ltb (x + j) (x + width) (omega arith), there) refl

-- nothing comes to another row, to the left of column x, or to the right of the row's last pixel
pub put_elsewhere : (x y width bits column row : ℕ) → row ≢ y → is_put x y width bits column row ≡ false
unfolding is_put
put_elsewhere x y width bits column row n = rw (ne_eqb row y n) refl

pub put_left : (x y width bits column row : ℕ) → column < x → is_put x y width bits column row ≡ false
unfolding is_put
put_left x y width bits column row h = elim (cases_eq row y) [
  | inl e ↦ rw (eq-eqb row y e, lt-leb x column h) refl
  | inr n ↦ rw (ne_eqb row y n) refl
]

pub put_right : (x y width bits column row : ℕ) → x + width ≤ column → is_put x y width bits column row ≡ false
unfolding is_put
put_right x y width bits column row h = elim (cases_eq row y) [
  | inl e ↦ rw (eq-eqb row y e, le-leb x column (omega arith), le-ltb column (x + width) h) refl
  | inr n ↦ rw (ne_eqb row y n) refl
]

-- the row number doesn't matter where both are one
pub put_one_row : (x y z width bits column : ℕ) → is_put x y width bits column y ≡ is_put x z width bits column z
unfolding is_put
put_one_row x y z width bits column = rw (eq-eqb y y refl, eq-eqb z z refl) refl

-- ROWS ONE UNDER THE OTHER

-- nothing comes past the last of the first rows, to the left of column x, or to the right of their last pixels
pub first_below : (x y width : ℕ) (rows : List ℕ) (count column row : ℕ) → y + count ≤ row → is_first_put x y width rows count column row ≡ false
unfolding is_first_put
first_below x y width rows count column row h = rw (le-leb y row (omega arith), le-ltb row (y + count) h) refl

pub first_left : (x y width : ℕ) (rows : List ℕ) (count column row : ℕ) → column < x → is_first_put x y width rows count column row ≡ false
unfolding is_first_put
first_left x y width rows count column row h = and_right _ _ (and_right _ _ (put_left x row width (slice_index rows (row - y)) column row h))

pub first_right : (x y width : ℕ) (rows : List ℕ) (count column row : ℕ) → x + width ≤ column → is_first_put x y width rows count column row ≡ false
unfolding is_first_put
first_right x y width rows count column row h = and_right _ _ (and_right _ _ (put_right x row width (slice_index rows (row - y)) column row h))

-- no rows put nothing
pub first_none : (x y width : ℕ) (rows : List ℕ) (column row : ℕ) → is_first_put x y width rows 0 column row ≡ false
unfolding is_first_put
first_none x y width rows column row = elim (cases_lt row y) [
  | inl h ↦ rw (lt-leb y row h) refl
  | inr h ↦ first_below x y width rows 0 column row (omega arith)
]

-- one more row puts its own pixels
pub first_here : (x y width : ℕ) (rows : List ℕ) (count column row : ℕ) → row ≡ y + count
    → is_first_put x y width rows (count + 1) column row ≡ is_put x (y + count) width (slice_index rows count) column row
unfolding is_first_put
first_here x y width rows count column row e =
    let there : row - y ≡ count = omega arith in
    rw (le-leb y row (omega arith), lt-ltb row (y + (count + 1)) (omega arith), there, e) refl

pub first_other : (x y width : ℕ) (rows : List ℕ) (count column row : ℕ) → row ≢ y + count
    → is_first_put x y width rows (count + 1) column row ≡ is_first_put x y width rows count column row
unfolding is_first_put
first_other x y width rows count column row n = elim (cases_lt row (y + count)) [
  | inl h ↦ rw (lt-ltb row (y + count) h, lt-ltb row (y + (count + 1)) (omega arith)) refl
  | inr h ↦
      let past : y + count + 1 ≤ row = elim (cases_eq row (y + count)) [ inl e ↦ absurd (n e) | inr m ↦ omega arith ] in
      rw (le-ltb row (y + count) h, le-ltb row (y + (count + 1)) (omega arith)) refl
]

-- one row alone
pub block_one : (x y width bits column row : ℕ) → is_block_put x y width (bits ∷ []) column row ≡ is_put x y width bits column row
block_one x y width bits column row = elim (cases_eq row (y + 0)) [
  | inl e ↦
      let here : y + 0 ≡ y = omega arith in
      first_here x y width (bits ∷ []) 0 column row e ∙ rw here refl
  | inr n ↦
      let other : row ≢ y = λ e. n (omega arith) in
      first_other x y width (bits ∷ []) 0 column row n ∙ first_none x y width (bits ∷ []) column row ∙ sym (put_elsewhere x y width bits column row other)
]
