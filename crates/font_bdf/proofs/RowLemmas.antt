-- How many numbers from one on pass a test, before one that doesn't, and rows in which no cell has a pixel.
use Rattle.std.proofs.Common.{◌≡◌, ℕ, zero, suc, ◌+◌, ◌<◌, Bool, true, false, List, map, refl, ap, ◌∙◌, arith}
use Rattle.std.specs.List.{list_all, prefix_len, range_with_len}
use Rattle.std.proofs.lemmas.Bool.{and_parts}
use Rattle.std.proofs.lemmas.List.Folds.{list_all-map}
use Rattle.sign_font.specs.Sign.{CellData, cell_of}
use Rattle.sign_font.specs.declared.parts.CellPart.{CellPart}
use Rattle.font_bdf.specs.Rows.{is_dark_in, is_dark_row}

next : (n : ℕ) → 1 + n ≡ suc n
next n = omega arith

pub prefix_stops : (p : ℕ → Bool) (a n k : ℕ) → list_all p (range_with_len a k) ≡ true → k < n → p (a + k) ≡ false → prefix_len p (range_with_len a n) ≡ k
prefix_stops p a zero k all below here = absurd (omega (arith, below))
prefix_stops p a (suc n) zero all below here =
    let none : p a ≡ false = ap p (let e : a ≡ a + 0 = omega arith in e) ∙ here in
    rw none refl
prefix_stops p a (suc n) (suc k) all below here =
    let parts = and_parts (p a) (list_all p (range_with_len (a + 1) k)) all in
    let rest = prefix_stops p (a + 1) n k parts.1 (omega (arith, below)) (ap p (let e : a + 1 + k ≡ a + suc k = omega arith in e) ∙ here) in
    rw (parts.0, rest) (next k)

pub prefix_all : (p : ℕ → Bool) (a n : ℕ) → list_all p (range_with_len a n) ≡ true → prefix_len p (range_with_len a n) ≡ n
prefix_all p a zero all = refl
prefix_all p a (suc n) all =
    let parts = and_parts (p a) (list_all p (range_with_len (a + 1) n)) all in
    rw (parts.0, prefix_all p (a + 1) n parts.1) (next n)

pub dark_cells : (cells : List CellPart) (row : ℕ) → is_dark_row (map cell_of cells) row ≡ list_all (λ cell. is_dark_in (cell_of cell) row) cells
dark_cells cells row = list_all-map (λ (cell : CellData). is_dark_in cell row) cell_of cells
