-- Rows of a table, and the characters in them.
use Rattle.std.proofs.Common.{◌≡◌, ℕ, suc, ◌+◌, ◌<◌, ◌≤◌, true, false, List, [], ◌∷◌, ◌++◌, length, drop, get_or, Option, None, Some, refl, sym, ap, ◌∙◌, arith, append-nil, append_assoc, drop-cons, eq-eqb}
use Rattle.std.specs.Prelude.{codes, cond, nat_lt, not, ◌==◌}
use Rattle.std.specs.Borrow.{Bor}
use Rattle.std.specs.List.{position, position_or_len}
use Rattle.std.proofs.lemmas.List.Quantifiers.{position-Some}
use Rattle.std.proofs.lemmas.List.{drop-map, drop_all, length-map}
use Rattle.sign_font.specs.Sign.{CellData}
use Rattle.font_bdf.specs.declared.listed.Columns.{Columns}
use Rattle.font_bdf.specs.Listed.{cell_in_row, cells_in_rows, column_in, column_named, columns_in, count_of, has_name}
use Rattle.font_bdf.specs.Lines.{◌>>=◌}
use Rattle.font_bdf.specs.Parts.{texts}
use Rattle.font_bdf.proofs.CellLemmas.{differs_eqb}
use Rattle.font_bdf.proofs.WordLemmas.{prefix_len_texts}

-- the first row that has a name
pub position_named : (name : List ℕ) (rows : List (Bor (List ℕ))) → position (has_name name) (texts rows) ≡ position (λ row. has_name name row.now) rows
position_named name rows =
    let first : ℕ = position_or_len (λ (row : Bor (List ℕ)). has_name name row.now) rows in
    ap (λ (n : ℕ). let o : Option ℕ = cond (nat_lt n (length (texts rows))) (Some n) None in o) (prefix_len_texts (λ row. not (has_name name row)) rows)
    ∙ ap (λ (n : ℕ). let o : Option ℕ = cond (nat_lt first n) (Some first) None in o) (length-map {A = Bor (List ℕ)} {B = List ℕ} rows (λ row. row.now))

-- which is one of them
pub named_there : (name : List ℕ) (rows : List (Bor (List ℕ))) (place : ℕ) → Some place ≡ position (has_name name) (texts rows) → place < length rows
named_there name rows place is =
    let there = (position-Some (has_name name) (texts rows) place [] (sym is)).0 in
    omega (arith, there, length-map {A = Bor (List ℕ)} {B = List ℕ} rows (λ row. row.now))

-- the columns of a heading that has all names
pub columns_are : (heading : List ℕ) (n w b k : ℕ) → Some n ≡ column_in (codes "characterNumber") heading → Some w ≡ column_in (codes "characterWidth") heading
    → Some b ≡ column_in (codes "characterBitmap") heading → k ≡ column_named [] heading
    → Some (record { number = n; width = w; bitmap = b; count = k }) ≡ columns_in heading
unfolding columns_in
columns_are heading n w b k number width bitmap count = rw (sym number, sym width, sym bitmap, count) refl

-- characters that were read, and those of the rows that are left
abbrev pub with_front : List CellData → Option (List CellData) → Option (List CellData)
with_front front None = None
with_front front (Some cells) = Some (front ++ cells)

pub front_none : (rest : Option (List CellData)) → with_front [] rest ≡ rest
front_none None = refl
front_none (Some cells) = refl

front_more : (front : List CellData) (cell : CellData) (o : Option (List CellData)) → with_front front (o >>= λ (cells : List CellData). Some (cell ∷ cells)) ≡ with_front (front ++ cell ∷ []) o
front_more front cell None = refl
front_more front cell (Some cells) = ap (λ (l : List CellData). let o : Option (List CellData) = Some l in o) (sym (append_assoc front (cell ∷ []) cells))

-- the rows from a place on
drop_row : (rows : List (Bor (List ℕ))) (i : ℕ) (d : Bor (List ℕ)) → i < length rows → drop i (texts rows) ≡ (get_or rows i d).now ∷ drop (i + 1) (texts rows)
drop_row rows i d there =
    drop-map (λ (b : Bor (List ℕ)). b.now) i rows
    ∙ ap (λ (bs : List (Bor (List ℕ))). texts bs) (drop-cons rows i d there)
    ∙ ap (λ (bs : List (List ℕ)). (get_or rows i d).now ∷ bs) (ap (λ (k : ℕ). texts (drop k rows)) (let e : suc i ≡ i + 1 = omega arith in e) ∙ sym (drop-map (λ (b : Bor (List ℕ)). b.now) (i + 1) rows))

-- a row without a field, one that is no character, and one that is
passes_here : (height : ℕ) (columns : Columns) (row : List ℕ) (rest : List (List ℕ)) → (count_of row == 0) ≡ true
    → cells_in_rows height columns (row ∷ rest) ≡ cells_in_rows height columns rest
unfolding cells_in_rows
passes_here height columns row rest none = rw none refl

fails_here : (height : ℕ) (columns : Columns) (row : List ℕ) (rest : List (List ℕ)) → (count_of row == 0) ≡ false → cell_in_row height columns row ≡ None
    → cells_in_rows height columns (row ∷ rest) ≡ None
unfolding cells_in_rows
fails_here height columns row rest some is = rw (some, is) refl

one_here : (height : ℕ) (columns : Columns) (row : List ℕ) (rest : List (List ℕ)) (cell : CellData) → (count_of row == 0) ≡ false → cell_in_row height columns row ≡ Some cell
    → cells_in_rows height columns (row ∷ rest) ≡ (cells_in_rows height columns rest >>= λ (cells : List CellData). Some (cell ∷ cells))
unfolding cells_in_rows
one_here height columns row rest cell some is = rw (some, is) refl

module _ (height : ℕ) (columns : Columns) (rows : List (Bor (List ℕ))) (i : ℕ) (d : Bor (List ℕ)) (front : List CellData) (all : Option (List CellData)) where
  at_row : i < length rows → cells_in_rows height columns (drop i (texts rows)) ≡ cells_in_rows height columns ((get_or rows i d).now ∷ drop (i + 1) (texts rows))
  at_row there = ap (cells_in_rows height columns) (drop_row rows i d there)

  pub row_passes : i < length rows → count_of (get_or rows i d).now ≡ 0 → with_front front (cells_in_rows height columns (drop i (texts rows))) ≡ all
      → with_front front (cells_in_rows height columns (drop (i + 1) (texts rows))) ≡ all
  row_passes there none is =
      ap (with_front front) (sym (at_row there ∙ passes_here height columns (get_or rows i d).now (drop (i + 1) (texts rows)) (eq-eqb (count_of (get_or rows i d).now) 0 none)))
      ∙ is

  pub row_fails : i < length rows → (count_of (get_or rows i d).now ≡ 0 → ⊥) → cell_in_row height columns (get_or rows i d).now ≡ None
      → with_front front (cells_in_rows height columns (drop i (texts rows))) ≡ all → all ≡ None
  row_fails there some none is =
      sym is ∙ ap (with_front front) (at_row there ∙ fails_here height columns (get_or rows i d).now (drop (i + 1) (texts rows)) (differs_eqb (count_of (get_or rows i d).now) 0 some) none)

  pub row_more : (cell : CellData) (grown : List CellData) → i < length rows → (count_of (get_or rows i d).now ≡ 0 → ⊥) → cell_in_row height columns (get_or rows i d).now ≡ Some cell
      → grown ≡ front ++ cell ∷ [] → with_front front (cells_in_rows height columns (drop i (texts rows))) ≡ all
      → with_front grown (cells_in_rows height columns (drop (i + 1) (texts rows))) ≡ all
  row_more cell grown there some one more is =
      ap (λ (l : List CellData). with_front l (cells_in_rows height columns (drop (i + 1) (texts rows)))) more
      ∙ sym (front_more front cell (cells_in_rows height columns (drop (i + 1) (texts rows))))
      ∙ ap (with_front front) (sym (one_here height columns (get_or rows i d).now (drop (i + 1) (texts rows)) cell (differs_eqb (count_of (get_or rows i d).now) 0 some) one) ∙ sym (at_row there))
      ∙ is

  pub rows_end : length rows ≤ i → with_front front (cells_in_rows height columns (drop i (texts rows))) ≡ all → all ≡ Some front
  unfolding cells_in_rows
  rows_end past is =
      sym is
      ∙ ap (λ (l : List (List ℕ)). with_front front (cells_in_rows height columns l)) (drop_all i (texts rows) (omega (arith, past, length-map {A = Bor (List ℕ)} {B = List ℕ} rows (λ row. row.now))))
      ∙ ap (λ (l : List CellData). let o : Option (List CellData) = Some l in o) (append-nil front)
