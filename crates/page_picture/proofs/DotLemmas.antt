-- The points of a picture, one after the other, and what they are painted with.
use Rattle.std.proofs.Common.{◌≡◌, ℕ, suc, ◌+◌, List, [], ◌∷◌, ◌++◌, map, refl, sym, ap, ◌∙◌, arith, append-nil}
use Rattle.std.proofs.lemmas.Grind.{flat_map-append}
use Rattle.std.specs.List.{flat_map, range_with_len}
use Rattle.octet_text.proofs.TextLemmas.{flat_map_more, map_more}
use Rattle.page_picture.specs.Dots.{dot_line, dots, line_points, point_of, row_points}

-- one more number of a range gives its points after those of the others
more : (f : ℕ → List ℕ) (n : ℕ) → flat_map f (range_with_len 0 (n + 1)) ≡ flat_map f (range_with_len 0 n) ++ f n
more f n =
    let next : n + 1 ≡ suc n = omega arith in
    ap (λ k. flat_map f (range_with_len 0 k)) next ∙ flat_map_more f 0 n n (omega arith)

pub dot_none : (side colour line : ℕ) → dot_line side colour line 0 ≡ []
unfolding dot_line
dot_none side colour line = refl

pub dot_more : (side colour line point : ℕ) → dot_line side colour line (point + 1) ≡ dot_line side colour line point ++ point_of side colour line point ∷ []
unfolding dot_line
dot_more side colour line point =
    let next : point + 1 ≡ suc point = omega arith in
    ap (λ k. map (point_of side colour line) (range_with_len 0 k)) next ∙ map_more (point_of side colour line) 0 point point (omega arith)

pub line_none : (side : ℕ) (at : ℕ → ℕ → ℕ) (row line : ℕ) → line_points side at row line 0 ≡ []
unfolding line_points
line_none side at row line = refl

pub line_more : (side : ℕ) (at : ℕ → ℕ → ℕ) (row line column : ℕ)
    → line_points side at row line (column + 1) ≡ line_points side at row line column ++ dot_line side (at column row) line side
unfolding line_points
line_more side at row line column = more (λ column. dot_line side (at column row) line side) column

pub row_none : (side : ℕ) (at : ℕ → ℕ → ℕ) (width row : ℕ) → row_points side at width row 0 ≡ []
unfolding row_points
row_none side at width row = refl

pub row_more : (side : ℕ) (at : ℕ → ℕ → ℕ) (width row line : ℕ) → row_points side at width row (line + 1) ≡ row_points side at width row line ++ line_points side at row line width
unfolding row_points
row_more side at width row line = more (λ line. line_points side at row line width) line

pub rows_none : (side : ℕ) (at : ℕ → ℕ → ℕ) (width : ℕ) → dots side at width 0 ≡ []
unfolding dots
rows_none side at width = refl

pub rows_more : (side : ℕ) (at : ℕ → ℕ → ℕ) (width row : ℕ) → dots side at width (row + 1) ≡ dots side at width row ++ row_points side at width row side
unfolding dots
rows_more side at width row = more (λ row. row_points side at width row side) row

-- points that are painted: those of no points
pub painted_none : (paint : ℕ → List ℕ) (points : List ℕ) → points ≡ [] → [] ≡ flat_map paint points
painted_none paint points none = sym (ap (flat_map paint) none)

-- and more points after others
pub painted_more : (paint : ℕ → List ℕ) (points new more : List ℕ) → new ≡ points ++ more → flat_map paint new ≡ flat_map paint points ++ flat_map paint more
painted_more paint points new more is = ap (flat_map paint) is ∙ flat_map-append paint points more

pub painted_one : (paint : ℕ → List ℕ) (points new : List ℕ) (point : ℕ) → new ≡ points ++ point ∷ [] → flat_map paint new ≡ flat_map paint points ++ paint point
painted_one paint points new point is = painted_more paint points new (point ∷ []) is ∙ ap (λ l. flat_map paint points ++ l) (append-nil (paint point))
