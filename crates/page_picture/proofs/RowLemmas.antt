-- The rows of a plane as text, one after the other.
use Rattle.std.proofs.Common.{◌≡◌, ℕ, zero, suc, ◌+◌, ◌-◌, ◌*◌, ◌/◌, ◌%◌, ◌<◌, ◌≤◌, ◌==◌, ◌&&◌, Bool, true, List, [], ◌∷◌, ◌++◌, get_or, length, map, replicate, subst, take, drop, refl, sym, ap, ◌∙◌, arith, append_assoc, append-nil, inl, inr}
use Rattle.std.specs.Int.{bit_at, from_le_bytes, to_le_bytes, w64}
use Rattle.std.specs.List.{flat_map, list_all, range_with_len}
use Rattle.std.proofs.Math.Nat.{mul-le-mul_left}
use Rattle.std.proofs.Math.Seq.{take-add}
use Rattle.std.proofs.lemmas.Bool.{and_parts, cases_Bool, eq-eqb, eqb-true}
use Rattle.std.proofs.lemmas.List.Folds.{list_all-append}
use Rattle.std.proofs.lemmas.Nat.{le_bytes_8}
use Rattle.std.proofs.lemmas.Nat.Bits.{bit_at_ones, bit_at-zero}
use Rattle.std.proofs.lemmas.List.{drop-drop, drop_all, drop_at, get_or-drop, get_or-replicate, get_or-take, length-append, length-drop, length-replicate, length-take-le, take-append-le, take_all}
use Rattle.std.proofs.lemmas.List.FromFn.{length-map-range_with_len, take-map-range_with_len}
use Rattle.octet_text.proofs.TextLemmas.{flat_map_more, flat_map_same, map_same}
use borrow.Rule.Slice.PartMut.{mid_of, put_mid}
use Rattle.page_plane.specs.Octets.{bit_place, is_bit_set, row_octets}
use Rattle.page_picture.proofs.PartLemmas.{lent_length, part_written, put_more}
use Rattle.page_picture.specs.Rows.{mark_of, marked_rows, octet_marks, row_text, rows_text}
use Rattle.page_picture.specs.internal.Marks.{WritesRows}

-- OCTETS

-- functions that agree on two ranges have the same values there
map_moved : (f g : ℕ → ℕ) (a b n : ℕ) → ((i j k : ℕ) → k < n → i ≡ a + k → j ≡ b + k → f i ≡ g j) → map f (range_with_len a n) ≡ map g (range_with_len b n)
map_moved f g a b zero same = refl
map_moved f g a b (suc n) same =
    ap (λ x. x ∷ map f (range_with_len (a + 1) n)) (same a b 0 (omega arith) (omega arith) (omega arith))
    ∙ ap (λ l. g b ∷ l) (map_moved f g (a + 1) (b + 1) n (λ i j k below at to. same i j (k + 1) (omega arith) (omega arith) (omega arith)))

-- the values on a range are those on its front and those after it
map_parts : (f : ℕ → ℕ) (a b n m : ℕ) → b ≡ a + n → map f (range_with_len a (n + m)) ≡ map f (range_with_len a n) ++ map f (range_with_len b m)
map_parts f a b zero m is =
    ap (λ k. map f (range_with_len a k)) (let none : 0 + m ≡ m = omega arith in none)
    ∙ ap (λ i. map f (range_with_len i m)) (let same : a ≡ b = omega (arith, is) in same)
map_parts f a b (suc n) m is =
    ap (λ k. map f (range_with_len a k)) (let next : suc n + m ≡ suc (n + m) = omega arith in next)
    ∙ ap (λ l. f a ∷ l) (map_parts f (a + 1) b n m (omega (arith, is)))

-- as many marks as pixels
pub marks_count : (mark : ℕ) (octets : List ℕ) (count : ℕ) → length (octet_marks mark octets count) ≡ count
marks_count mark octets count = length-map-range_with_len (λ place. mark_of mark (is_bit_set octets place)) 0 count

-- the bit at a place is one of the octet that stands there
bit_of : (octets : List ℕ) (k octet place j : ℕ) → place / 8 ≡ k → place % 8 ≡ j → octet ≡ get_or octets k 0 → is_bit_set octets place ≡ (bit_at octet (7 - j) == 1)
unfolding is_bit_set
bit_of octets k octet place j at rest is = rw (at, rest, is) refl

-- an octet has eight more pixels
pub marks_more : (mark : ℕ) (octets eight : List ℕ) (k octet : ℕ) → octet ≡ get_or octets k 0
    → eight ≡ map (λ j. mark_of mark (bit_at octet (7 - j) == 1)) (range_with_len 0 8) → octet_marks mark octets (8 * k) ++ eight ≡ octet_marks mark octets (8 * (k + 1))
marks_more mark octets eight k octet at is =
    let f : ℕ → ℕ = λ place. mark_of mark (is_bit_set octets place) in
    let next : 8 * k + 8 ≡ 8 * (k + 1) = omega arith in
    ap (λ l. octet_marks mark octets (8 * k) ++ l) (is ∙ sym (map_moved f (λ j. mark_of mark (bit_at octet (7 - j) == 1)) (8 * k) 0 8 (λ i j n below from to.
    ap (mark_of mark) (bit_of octets k octet i j (omega arith) (omega arith) at))))
    ∙ sym (map_parts f 0 (8 * k) (8 * k) 8 (omega arith)) ∙ ap (octet_marks mark octets) next

-- the bit at a place of a part is that of the whole
part_bit : (octets : List ℕ) (from n place : ℕ) → place < 8 * n → is_bit_set (take n (drop from octets)) place ≡ is_bit_set octets (8 * from + place)
unfolding is_bit_set
part_bit octets from n place below =
    let at : (8 * from + place) / 8 ≡ from + place / 8 = omega arith in
    let rest : (8 * from + place) % 8 ≡ place % 8 = omega arith in
    rw (at, rest, get_or-take n (drop from octets) (place / 8) 0 (omega (arith, below)), get_or-drop from octets (place / 8) 0) refl

-- the marks of a part of octets come after those of the octets before it
pub marks_part : (mark : ℕ) (octets part : List ℕ) (from n front size : ℕ) → part ≡ take n (drop from octets) → front ≡ 8 * from → size ≡ 8 * from + 8 * n
    → octet_marks mark octets front ++ octet_marks mark part (8 * n) ≡ octet_marks mark octets size
marks_part mark octets part from n front size is_part is_front is_size =
    let f : ℕ → ℕ = λ place. mark_of mark (is_bit_set octets place) in
    let g : ℕ → ℕ = λ place. mark_of mark (is_bit_set (take n (drop from octets)) place) in
    ap (λ k. octet_marks mark octets k ++ octet_marks mark part (8 * n)) is_front
    ∙ ap (λ l. octet_marks mark octets (8 * from) ++ octet_marks mark l (8 * n)) is_part
    ∙ ap (λ l. octet_marks mark octets (8 * from) ++ l) (sym (map_moved f g (8 * from) 0 (8 * n) (λ i j k below at to.
    let here : 8 * from + j ≡ i = omega (arith, at, to) in
    ap (mark_of mark) (ap (is_bit_set octets) (sym here) ∙ sym (part_bit octets from n j (omega (arith, to, below)))))))
    ∙ sym (map_parts f 0 (8 * from) (8 * from) (8 * n) (omega arith))
    ∙ ap (octet_marks mark octets) (sym is_size)

-- an octet among octets that are 0
zero_at : (n i : ℕ) → get_or (replicate {A = ℕ} n 0) i 0 ≡ 0
zero_at zero i = refl
zero_at (suc n) zero = refl
zero_at (suc n) (suc i) = zero_at n i

-- each of their pixels is a point
dark_point : (mark n place : ℕ) → mark_of mark (is_bit_set (replicate {A = ℕ} n 0) place) ≡ 46
unfolding is_bit_set
dark_point mark n place = rw (zero_at n (place / 8), bit_at-zero (7 - place % 8)) refl

-- and so are all of them
dark_points : (mark n from count : ℕ)
    → map (λ place. mark_of mark (is_bit_set (replicate {A = ℕ} n 0) place)) (range_with_len from count) ≡ replicate {A = ℕ} count 46
dark_points mark n from zero = refl
dark_points mark n from (suc count) =
    ap (λ x. x ∷ map (λ place. mark_of mark (is_bit_set (replicate {A = ℕ} n 0) place)) (range_with_len (from + 1) count)) (dark_point mark n from)
    ∙ ap (λ l. 46 ∷ l) (dark_points mark n (from + 1) count)

-- fewer marks are the first of them
pub marks_fewer : (mark : ℕ) (octets text rest : List ℕ) (width count : ℕ) → width ≤ count → text ≡ octet_marks mark octets count ++ rest
    → take width text ≡ octet_marks mark octets width
marks_fewer mark octets text rest width count few is =
    let size = marks_count mark octets count in
    ap (take width) is ∙ take-append-le width (octet_marks mark octets count) rest (omega (arith, size, few))
    ∙ take-map-range_with_len (λ place. mark_of mark (is_bit_set octets place)) 0 count width few

-- the marks of the first octets and those of the others after them are those of all
pub marks_joined : (mark a n : ℕ) (octets rest text one inner : List ℕ) → n ≡ 8 * a → a ≤ length octets → 8 * length octets ≤ length text
    → rest ≡ take (length octets - a) (drop a octets)
    → one ≡ octet_marks mark (take a octets) (8 * length (take a octets)) ++ drop (8 * length (take a octets)) text
    → inner ≡ octet_marks mark rest (8 * length rest) ++ drop (8 * length rest) (mid_of n (length one - n) one)
    → put_mid n (length one - n) one inner ≡ octet_marks mark octets (8 * length octets) ++ drop (8 * length octets) text
marks_joined mark a n octets rest text one inner is_n few room is_rest is_one is_inner =
    let first = take a octets in
    let size : length first ≡ a = length-take-le a octets few in
    let left : length rest ≡ length octets - a = ap length is_rest ∙ lent_length a octets few in
    let eight : 8 * length first ≡ n = omega (arith, size, is_n) in
    let piece = octet_marks mark octets n in
    let front : octet_marks mark first n ≡ piece = ap (octet_marks mark first) is_n ∙ marks_part mark octets first 0 a 0 n refl refl (omega (arith, is_n)) in
    let whole : one ≡ piece ++ drop n text =
    is_one ∙ ap (λ k. octet_marks mark first k ++ drop k text) eight ∙ ap (λ l. l ++ drop n text) front in
    let long = marks_count mark octets n in
    let behind = length-drop n text in
    let both = ap length whole ∙ length-append piece (drop n text) in
    put_more piece (octet_marks mark rest (8 * length rest)) one inner (drop n text) n (length one - n) (8 * length rest) whole long
    (marks_count mark rest (8 * length rest)) (omega (arith, left, both, long, behind, room, is_n, few)) (omega (arith, both, long, behind)) is_inner
    ∙ ap (λ k. (piece ++ octet_marks mark rest (8 * k)) ++ drop (8 * k) (drop n text)) left
    ∙ ap (λ l. l ++ drop (8 * (length octets - a)) (drop n text)) (marks_part mark octets rest a (length octets - a) n (8 * length octets) is_rest is_n (omega (arith, few)))
    ∙ ap (λ l. octet_marks mark octets (8 * length octets) ++ l) (drop-drop (8 * (length octets - a)) n text ∙ ap (λ k. drop k text) (let end : n + 8 * (length octets - a) ≡ 8 * length octets = omega (arith, is_n, few) in end))

-- ROWS

-- no row is written at first
pub rows_none : (at : ℕ → ℕ → ℕ) (width : ℕ) → rows_text at width 0 ≡ []
unfolding rows_text
rows_none at width = refl

-- one more row comes after those above it
pub rows_more : (at : ℕ → ℕ → ℕ) (width row : ℕ) → rows_text at width (row + 1) ≡ rows_text at width row ++ row_text at width row
unfolding rows_text
rows_more at width row =
    let next : row + 1 ≡ suc row = omega arith in
    ap (λ n. flat_map (row_text at width) (range_with_len 0 n)) next ∙ flat_map_more (row_text at width) 0 row row (omega arith)

-- what has the same pixels has the same rows
pub rows_same : (at other : ℕ → ℕ → ℕ) (width height : ℕ) → ((column row : ℕ) → column < width → row < height → at column row ≡ other column row)
    → rows_text at width height ≡ rows_text other width height
unfolding rows_text
rows_same at other width height same =
    flat_map_same (row_text at width) (row_text other width) 0 height (λ row above.
    ap (λ l. l ++ 10 ∷ []) (map_same (λ k. at k row) (λ k. other k row) 0 width (λ column left. same column row (omega arith) (omega arith))))

-- what lights the same pixels has the same rows
pub marked_same : (mark : ℕ) (lit other : ℕ → ℕ → Bool) (width height : ℕ) → ((column row : ℕ) → column < width → row < height → lit column row ≡ other column row)
    → marked_rows mark lit width height ≡ marked_rows mark other width height
marked_same mark lit other width height same =
    rows_same (λ column row. mark_of mark (lit column row)) (λ column row. mark_of mark (other column row)) width height
    (λ column row left above. ap (mark_of mark) (same column row left above))

-- the line of a row comes after the rows above it
pub row_next : (mark : ℕ) (lit : ℕ → ℕ → Bool) (octets : List ℕ) (width row : ℕ) → ((x : ℕ) → x < width → is_bit_set octets x ≡ lit x row)
    → marked_rows mark lit width row ++ (octet_marks mark octets width ++ 10 ∷ []) ≡ marked_rows mark lit width (row + 1)
row_next mark lit octets width row same =
    ap (λ l. marked_rows mark lit width row ++ (l ++ 10 ∷ [])) (map_same (λ place. mark_of mark (is_bit_set octets place)) (λ column. mark_of mark (lit column row)) 0 width
    (λ x below. ap (mark_of mark) (same x (omega (arith, below)))))
    ∙ sym (rows_more (λ column row. mark_of mark (lit column row)) width row)

-- the octets of rows
pub rows_count : (at : ℕ → ℕ → ℕ) (width height : ℕ) → length (rows_text at width height) ≡ (width + 1) * height
rows_count at width zero = ap length (rows_none at width) ∙ (let none : 0 ≡ (width + 1) * 0 = omega arith in none)
rows_count at width (suc row) =
    let marks = map (λ column. at column row) (range_with_len 0 width) in
    let next : suc row ≡ row + 1 = omega arith in
    let above = rows_count at width row in
    let line = length-append marks (10 ∷ []) in
    let size : length marks ≡ width = length-map-range_with_len (λ column. at column row) 0 width in
    let both = length-append (rows_text at width row) (row_text at width row) in
    ap (λ n. length (rows_text at width n)) next ∙ ap length (rows_more at width row) ∙ omega (arith, above, line, size, both)

-- the first row and the rows below it are all rows
rows_front : (at other : ℕ → ℕ → ℕ) (width height : ℕ) → ((column row : ℕ) → column < width → row < height → other column row ≡ at column (row + 1))
    → row_text at width 0 ++ rows_text other width height ≡ rows_text at width (height + 1)
rows_front at other width zero same =
    ap (λ l. row_text at width 0 ++ l) (rows_none other width) ∙ append-nil (row_text at width 0)
    ∙ sym (rows_more at width 0 ∙ ap (λ l. l ++ row_text at width 0) (rows_none at width))
rows_front at other width (suc height) same =
    let next : suc height ≡ height + 1 = omega arith in
    let below = rows_text other width height in
    let last : row_text other width height ≡ row_text at width (height + 1) =
    ap (λ l. l ++ 10 ∷ []) (map_same (λ k. other k height) (λ k. at k (height + 1)) 0 width (λ column left. same column height (omega arith) (omega arith))) in
    ap (λ n. row_text at width 0 ++ rows_text other width n) next
    ∙ ap (λ l. row_text at width 0 ++ l) (rows_more other width height)
    ∙ sym (append_assoc (row_text at width 0) below (row_text other width height))
    ∙ ap (λ l. l ++ row_text other width height) (rows_front at other width height (λ column row left above. same column row left (omega (arith, above))))
    ∙ ap (λ l. rows_text at width (height + 1) ++ l) last
    ∙ sym (rows_more at width (height + 1))
    ∙ ap (λ n. rows_text at width (n + 1)) (sym next)

-- the first row that stands in octets and the rows that stand in the others are all rows
lines_front : (mark width len height : ℕ) (octets : List ℕ) → len ≡ row_octets width → len * (height + 1) ≤ length octets
    → (octet_marks mark (take len octets) width ++ 10 ∷ [])
    ++ marked_rows mark (λ column row. is_bit_set (take (length octets - len) (drop len octets)) (bit_place width column row)) width height
    ≡ marked_rows mark (λ column row. is_bit_set octets (bit_place width column row)) width (height + 1)
lines_front mark width len height octets is_len room =
    let rest = take (length octets - len) (drop len octets) in
    let at : ℕ → ℕ → ℕ = λ column row. mark_of mark (is_bit_set octets (bit_place width column row)) in
    let other : ℕ → ℕ → ℕ = λ column row. mark_of mark (is_bit_set rest (bit_place width column row)) in
    ap (λ l. (l ++ 10 ∷ []) ++ rows_text other width height) (map_same (λ place. mark_of mark (is_bit_set (take len octets) place)) (λ column. at column 0) 0 width
    (λ x below. ap (mark_of mark) (let there : 8 * 0 + x ≡ bit_place width x 0 = omega arith in part_bit octets 0 len x (omega (arith, is_len, below)) ∙ ap (is_bit_set octets) there)))
    ∙ rows_front at other width height (λ column row left above.
    let rows : len * (row + 1) ≤ len * height = mul-le-mul_left len (omega (arith, above)) in
    let there : 8 * len + bit_place width column row ≡ bit_place width column (row + 1) = omega (arith, is_len) in
    let here = ap (λ n. row * n) is_len in
    let within : bit_place width column row < 8 * (length octets - len) = omega (arith, here, is_len, room, rows, left) in
    ap (mark_of mark) (part_bit octets len (length octets - len) (bit_place width column row) within ∙ ap (is_bit_set octets) there))

-- a text of a row has the rows below it written after that row
pub lines_joined : (mark width len h height k : ℕ) (octets old row rest r : List ℕ) → len ≡ row_octets width → height ≡ h + 1
    → (width + 1) * height + 8 ≤ length old → len * height ≤ length octets → length row ≡ width + 9
    → take (width + 1) row ≡ octet_marks mark (take len octets) width ++ 10 ∷ [] → rest ≡ take (length octets - len) (drop len octets)
    → k ≡ length (row ++ drop (width + 9) old) - (width + 1) → WritesRows mark rest width h (mid_of (width + 1) k (row ++ drop (width + 9) old)) r
    → WritesRows mark octets width height old (put_mid (width + 1) k (row ++ drop (width + 9) old) r)
lines_joined mark width len h height k octets old row rest r is_len is_high room count size is_row is_rest is_k done =
    let a = width + 1 in
    let n = a * h in
    let t = row ++ drop (width + 9) old in
    let all : a * height ≡ a + n = ap (λ m. a * m) is_high ∙ (let more : a * (h + 1) ≡ a + a * h = omega arith in more) in
    let behind = length-drop (width + 9) old in
    let long : length t ≡ length old = length-append row (drop (width + 9) old) ∙ omega (arith, size, behind, room, all) in
    let left = length-drop a t in
    let mid : mid_of a k t ≡ drop a t = take_all k (drop a t) (omega (arith, left, is_k)) in
    let same : length r ≡ length t - a = done.len ∙ ap length mid ∙ left in
    let none : drop k (drop a t) ≡ [] = drop_all k (drop a t) (omega (arith, left, is_k)) in
    let whole : put_mid a k t r ≡ take a t ++ r = ap (λ l. take a t ++ (r ++ l)) none ∙ ap (λ l. take a t ++ l) (append-nil r) in
    let front : length (take a t) ≡ a = length-take-le a t (omega (arith, long, room, all)) in
    record {
      len = ap length whole ∙ length-append (take a t) r ∙ omega (arith, front, same, long, room, all);
      written = ap (λ m. take m (put_mid a k t r)) all
          ∙ part_written a n t r (drop k (drop a t)) (omega (arith, long, room, all)) (omega (arith, same, long, room, all))
          ∙ ap (λ l. l ++ take n r) (take-append-le a row (drop (width + 9) old) (omega (arith, size)) ∙ is_row)
          ∙ ap (λ l. (octet_marks mark (take len octets) width ++ 10 ∷ []) ++ l) (done.written
          ∙ ap (λ l. marked_rows mark (λ column row. is_bit_set l (bit_place width column row)) width h) is_rest)
          ∙ lines_front mark width len h octets is_len (let rows = ap (λ m. len * m) is_high in omega (arith, rows, count))
          ∙ ap (marked_rows mark (λ column row. is_bit_set octets (bit_place width column row)) width) (sym is_high);
      behind =
          let end : a * height + 8 ≡ a + (n + 8) = omega (arith, all) in
          let past : a * height + 8 ≡ width + 9 + n = omega (arith, all) in
          ap (drop (a * height + 8)) whole ∙ ap (λ m. drop m (take a t ++ r)) end ∙ sym (drop-drop (n + 8) a (take a t ++ r))
          ∙ ap (drop (n + 8)) (drop_at (take a t) r a front) ∙ done.behind ∙ ap (drop (n + 8)) mid ∙ drop-drop (n + 8) a t
          ∙ ap (λ m. drop m t) (sym end ∙ past) ∙ sym (drop-drop n (width + 9) t) ∙ ap (drop n) (drop_at row (drop (width + 9) old) (width + 9) size)
          ∙ drop-drop n (width + 9) old ∙ ap (λ m. drop m old) (sym past);
    }

-- DARK OCTETS

-- octets that are all this one
pub all_same : (octet : ℕ) (l : List ℕ) → list_all (λ other. other == octet) l ≡ true → l ≡ replicate (length l) octet
all_same octet [] all = refl
all_same octet (other ∷ l) all =
    let parts = and_parts (other == octet) (list_all (λ other. other == octet) l) all in
    ap (λ x. x ∷ l) (eqb-true other octet parts.0) ∙ ap (λ r. octet ∷ r) (all_same octet l parts.1)

-- and back
all_of : (octet n : ℕ) → list_all (λ other. other == octet) (replicate n octet) ≡ true
all_of octet zero = refl
all_of octet (suc n) = rw (eq-eqb octet octet refl) (all_of octet n)

-- each of them is an octet
small_at : (octet n i : ℕ) → octet < 256 → get_or (replicate n octet) i 0 < 256
small_at octet zero i small = omega arith
small_at octet (suc n) zero small = small
small_at octet (suc n) (suc i) small = small_at octet n i small

-- they are written as points
pub dark_written : (mark : ℕ) (octets text points : List ℕ) → list_all (λ octet. octet == 0) octets ≡ true → 8 * length octets ≤ length text
    → points ≡ replicate (length (take (8 * length octets) text)) 46
    → points ++ drop (8 * length octets) text ≡ octet_marks mark octets (8 * length octets) ++ drop (8 * length octets) text
dark_written mark octets text points dark room are =
    let count = 8 * length octets in
    ap (λ l. l ++ drop count text)
    (are ∙ ap (λ n. replicate n 46) (length-take-le count text room) ∙ sym (dark_points mark (length octets) 0 count)
    ∙ ap (λ l. octet_marks mark l count) (sym (all_same 0 octets dark)))

-- eight octets are all this one exactly if they are the same word
pub same_word : (octet : ℕ) (octets eight : List ℕ) (word other : ℕ) → octet < 256 → length octets ≡ 8 → ((i : ℕ) → get_or octets i 0 < 256) → eight ≡ take 8 octets
    → word ≡ from_le_bytes w64 eight → other ≡ from_le_bytes w64 (replicate 8 octet) → (word == other) ≡ list_all (λ o. o == octet) octets
same_word octet octets eight word other fits whole small is_eight is_word is_other =
    let all : eight ≡ octets = is_eight ∙ take_all 8 octets (omega (arith, whole)) in
    elim (cases_Bool (list_all (λ o. o == octet) octets)) [
      | inl same ↦
          let each : octets ≡ replicate 8 octet = all_same octet octets same ∙ ap (λ n. replicate n octet) whole in
          eq-eqb word other (is_word ∙ ap (from_le_bytes w64) (all ∙ each) ∙ sym is_other) ∙ sym same
      | inr mixed ↦ elim (cases_Bool (word == other)) [
        | inl one ↦
            let each : octets ≡ replicate 8 octet =
            sym all ∙ sym (le_bytes_8 eight word (ap length all ∙ whole) (λ i. subst (λ l. get_or l i 0 < 256) (sym all) (small i)) is_word)
            ∙ ap (to_le_bytes w64) (eqb-true word other one)
            ∙ le_bytes_8 (replicate 8 octet) other (length-replicate 8 octet) (λ i. small_at octet 8 i fits) is_other in
            one ∙ sym (ap (list_all (λ o. o == octet)) each ∙ all_of octet 8)
        | inr two ↦ two ∙ sym mixed
      ]
    ]

-- octets are all this one if those of their front and of the part after it are
pub same_more : (octet : ℕ) (octets part : List ℕ) (front n size : ℕ) → size ≡ front + n → part ≡ take n (drop front octets)
    → list_all (λ o. o == octet) (take size octets) ≡ (list_all (λ o. o == octet) (take front octets) && list_all (λ o. o == octet) part)
same_more octet octets part front n size is_size is_part =
    ap (λ k. list_all (λ o. o == octet) (take k octets)) is_size ∙ ap (list_all (λ o. o == octet)) (take-add front n octets)
    ∙ list_all-append (λ o. o == octet) (take front octets) (take n (drop front octets))
    ∙ ap (λ l. list_all (λ o. o == octet) (take front octets) && list_all (λ o. o == octet) l) (sym is_part)

-- octets are all this one if those of their front and those of their end are, which reach to one another
pub same_ends : (octet : ℕ) (octets : List ℕ) (a b : ℕ) → b ≤ a → list_all (λ o. o == octet) (take a octets) ≡ true → list_all (λ o. o == octet) (drop b octets) ≡ true
    → list_all (λ o. o == octet) octets ≡ true
same_ends octet [] a b reach front end = refl
same_ends octet (other ∷ l) zero zero reach front end = end
same_ends octet (other ∷ l) zero (suc b) reach front end = absurd (omega arith)
same_ends octet (other ∷ l) (suc a) zero reach front end = end
same_ends octet (other ∷ l) (suc a) (suc b) reach front end =
    let parts = and_parts (other == octet) (list_all (λ o. o == octet) (take a l)) front in
    rw (parts.0) (same_ends octet l a b (omega (arith, reach)) parts.1 end)

-- OCTETS WITH ALL BITS

-- each pixel of octets with all bits is lit
all_set : (n place : ℕ) → place < 8 * n → is_bit_set (replicate {A = ℕ} n 255) place ≡ true
unfolding is_bit_set
all_set n place below =
    rw (get_or-replicate {A = ℕ} n (place / 8) 255 0 (omega (arith, below))) (eq-eqb (bit_at 255 (7 - place % 8)) 1 (bit_at_ones 8 (7 - place % 8) (omega arith)))

-- the marks of all of them are the same
full_marks : (mark n from count : ℕ) → from + count ≤ 8 * n
    → map (λ place. mark_of mark (is_bit_set (replicate {A = ℕ} n 255) place)) (range_with_len from count) ≡ replicate {A = ℕ} count mark
full_marks mark n from zero within = refl
full_marks mark n from (suc count) within =
    let here : mark_of mark (is_bit_set (replicate {A = ℕ} n 255) from) ≡ mark =
    ap (mark_of mark) (all_set n from (omega (arith, within))) in
    ap (λ x. x ∷ map (λ place. mark_of mark (is_bit_set (replicate {A = ℕ} n 255) place)) (range_with_len (from + 1) count)) here
    ∙ ap (λ l. mark ∷ l) (full_marks mark n (from + 1) count (omega (arith, within)))

-- they are written by one mark
pub full_written : (mark lit : ℕ) (octets text marks : List ℕ) → list_all (λ o. o == 255) octets ≡ true → 8 * length octets ≤ length text → lit ≡ mark
    → marks ≡ replicate (length (take (8 * length octets) text)) lit
    → marks ++ drop (8 * length octets) text ≡ octet_marks mark octets (8 * length octets) ++ drop (8 * length octets) text
full_written mark lit octets text marks full room is_lit are =
    let count = 8 * length octets in
    ap (λ l. l ++ drop count text)
    (are ∙ ap (λ n. replicate n lit) (length-take-le count text room) ∙ ap (replicate count) is_lit ∙ sym (full_marks mark (length octets) 0 count (omega arith))
    ∙ ap (λ l. octet_marks mark l count) (sym (all_same 255 octets full)))
