-- Pixels that are painted, one after the other.
use Rattle.std.proofs.Common.{◌≡◌, ℕ, zero, suc, ◌+◌, ◌-◌, ◌*◌, ◌/◌, ◌%◌, ◌<◌, ◌≤◌, Bool, true, false, ◌==◌, ◌&&◌, ◌||◌, nat_lt, List, [], ◌∷◌, length, set, get_or, refl, sym, ap, subst, ◌∙◌, arith, inl, inr, if◌then◌else◌}
use Rattle.std.proofs.Math.Nat.{mul-le-mul_left}
use Rattle.std.specs.Int.{bit_at}
use Rattle.std.specs.List.{list_all}
use Rattle.std.proofs.lemmas.Nat.Bits.{bit_at-zero}
use Rattle.std.proofs.lemmas.Bool.{eqb-true, false≢true, and_right, cases_Bool, cases_eq, cases_lt, eq-eqb, le-ltb, lt-ltb, ne_eqb}
use Rattle.std.proofs.lemmas.List.{drop-set-lt, get_or-set_other, get_or-set_same, length-set}
use Rattle.page_plane.specs.Octets.{is_bit_set}
use Rattle.page_picture.specs.Dots.{value_at}
use Rattle.page_picture.specs.Painted.{IsPainted}
use Rattle.page_picture.proofs.CountLemmas.{row_inside}

-- where a test has nothing, nothing is painted
pub painted_none : (width height colour : ℕ) (has : ℕ → ℕ → Bool) (octets : List ℕ) → ((column row : ℕ) → has column row ≡ false)
    → IsPainted width height colour has octets octets
painted_none width height colour has octets none = record {
  count = refl;
  pixels = λ column row left above. rw (none column row) refl;
  behind = refl;
}

-- octets without a set bit are 0
zero_at : (octets : List ℕ) (place : ℕ) → list_all (λ octet. octet == 0) octets ≡ true → get_or octets place 0 ≡ 0
zero_at [] place dark = refl
zero_at (octet ∷ octets) zero dark = elim (cases_Bool (octet == 0)) [
  | inl none ↦ eqb-true octet 0 none
  | inr some ↦ absurd (false≢true (sym (ap (λ b. b && list_all (λ octet. octet == 0) octets) some) ∙ dark))
]
zero_at (octet ∷ octets) (suc place) dark = elim (cases_Bool (octet == 0)) [
  | inl none ↦ zero_at octets place (sym (ap (λ b. b && list_all (λ octet. octet == 0) octets) none) ∙ dark)
  | inr some ↦ absurd (false≢true (sym (ap (λ b. b && list_all (λ octet. octet == 0) octets) some) ∙ dark))
]

dark_at : (octets : List ℕ) (place : ℕ) → list_all (λ octet. octet == 0) octets ≡ true → is_bit_set octets place ≡ false
unfolding is_bit_set
dark_at octets place dark =
    let none : get_or octets (place / 8) 0 ≡ 0 = zero_at octets (place / 8) dark in
    rw none (ne_eqb (bit_at 0 (7 - place % 8)) 1 (λ one. let zero' = bit_at-zero (7 - place % 8) in absurd (omega (arith, zero', one))))

either : (colour old mid new : ℕ) (one two both : Bool) → mid ≡ (if one then colour else old) → new ≡ (if two then colour else mid) → both ≡ (one || two)
    → new ≡ (if both then colour else old)
either colour old mid new true true both first second all = rw all second
either colour old mid new true false both first second all = rw all (second ∙ first)
either colour old mid new false true both first second all = rw all second
either colour old mid new false false both first second all = rw all (second ∙ first)

-- what is painted after other pixels
pub painted_more : (width height colour : ℕ) (one two both : ℕ → ℕ → Bool) (old mid new : List ℕ)
    → ((column row : ℕ) → both column row ≡ (one column row || two column row))
    → IsPainted width height colour one old mid → IsPainted width height colour two mid new → IsPainted width height colour both old new
painted_more width height colour one two both old mid new all first second = record {
  count = second.count ∙ first.count;
  pixels = λ column row left above.
      either colour (value_at old width column row) (value_at mid width column row) (value_at new width column row) (one column row) (two column row) (both column row)
      (first.pixels column row left above) (second.pixels column row left above) (all column row);
  behind = second.behind ∙ first.behind;
}

-- what is painted by a test is painted by one with the same pixels
pub painted_same : (width height colour : ℕ) (one other : ℕ → ℕ → Bool) (old new : List ℕ)
    → ((column row : ℕ) → column < width → row < height → other column row ≡ one column row)
    → IsPainted width height colour one old new → IsPainted width height colour other old new
painted_same width height colour one other old new same is = record {
  count = is.count;
  pixels = λ column row left above. rw (same column row left above) (is.pixels column row left above);
  behind = is.behind;
}

-- a row without a lit pixel
pub painted_dark : (width height colour row : ℕ) (octets : List ℕ) (lit : ℕ → ℕ → Bool) (old : List ℕ) → list_all (λ octet. octet == 0) octets ≡ true
    → ((x : ℕ) → x < width → is_bit_set octets x ≡ lit x row) → IsPainted width height colour (λ x y. (y == row) && lit x y) old old
painted_dark width height colour row octets lit old dark bits =
    painted_same width height colour (λ x y. false) (λ x y. (y == row) && lit x y) old old
    (λ x y left above. elim (cases_eq y row) [
      | inl same ↦ and_right (y == row) (lit x y) (ap (lit x) same ∙ sym (bits x left) ∙ dark_at octets x dark)
      | inr other ↦ ap (λ b. b && lit x y) (ne_eqb y row other)
    ])
    (painted_none width height colour (λ x y. false) old (λ x y. refl))

-- another pixel stands at another place
other_row : (width x y column row : ℕ) → x < width → column < width → (y ≡ row → ⊥) → width * y + x ≡ width * row + column → ⊥
other_row width x y column row left beside other same = elim (cases_lt y row) [
  | inl below ↦ let most : width * (y + 1) ≤ width * row = mul-le-mul_left width (omega (arith, below)) in omega (arith, most, same, left)
  | inr least ↦ elim (cases_lt row y) [
    | inl below ↦ let most : width * (row + 1) ≤ width * y = mul-le-mul_left width (omega (arith, below)) in omega (arith, most, same, beside)
    | inr most ↦ other (omega (arith, least, most))
  ]
]

-- one pixel is painted, if it is lit
pub painted_one : (width height colour column row : ℕ) (lit : ℕ → ℕ → Bool) (octets : List ℕ) → column < width → row < height → width * height ≤ length octets
    → IsPainted width height colour (λ x y. (y == row) && ((x == column) && lit x y)) octets
    (set octets (width * row + column) (if lit column row then colour else get_or octets (width * row + column) 0))
painted_one width height colour column row lit octets beside here whole =
    let end = row_inside width height row here in
    let place = width * row + column in
    let new = if lit column row then colour else get_or octets place 0 in
    record {
      count = length-set octets place new;
      pixels = λ x y left above. elim (cases_eq y row) [
        | inl is ↦ elim (cases_eq x column) [
          | inl same ↦ rw (eq-eqb y row is, eq-eqb x column same, is, same) (get_or-set_same octets place new 0 (omega (arith, end, whole, beside)))
          | inr other ↦ rw (eq-eqb y row is, ne_eqb x column other, is) (get_or-set_other octets place (width * row + x) new 0 (λ e. other (omega (arith, e))))
        ]
        | inr isn't ↦ rw (ne_eqb y row isn't) (get_or-set_other octets place (width * y + x) new 0 (other_row width x y column row left beside isn't))
      ];
      behind = drop-set-lt (width * height) octets place new (omega (arith, end, beside));
    }

-- one column more of a row
pub column_more : (y row x column : ℕ) (lit : Bool) → ((y == row) && (nat_lt x (column + 1) && lit)) ≡ (((y == row) && (nat_lt x column && lit)) || ((y == row) && ((x == column) && lit)))
column_more y row x column lit = elim (cases_eq y row) [
  | inr isn't ↦ rw (ne_eqb y row isn't) refl
  | inl is ↦ rw (eq-eqb y row is) (elim (cases_lt x column) [
    | inl less ↦
        let next : x < column + 1 = omega (arith, less) in
        rw (lt-ltb x (column + 1) next, lt-ltb x column less) (elim (cases_Bool lit) [
          | inl on ↦ rw on refl
          | inr off ↦ rw (off, and_right (x == column) false refl) refl
        ])
    | inr least ↦ elim (cases_eq x column) [
      | inl same ↦
          let next : x < column + 1 = omega (arith, same) in
          rw (lt-ltb x (column + 1) next, le-ltb x column least, eq-eqb x column same) refl
      | inr other ↦
          let next : column + 1 ≤ x = elim (cases_lt column x) [ inl more ↦ omega (arith, more) | inr most ↦ absurd (other (omega (arith, least, most))) ] in
          rw (le-ltb x (column + 1) next, le-ltb x column least, ne_eqb x column other) refl
    ]
  ])
]

-- one row more
pub row_more : (y row : ℕ) (lit : Bool) → (nat_lt y (row + 1) && lit) ≡ ((nat_lt y row && lit) || ((y == row) && lit))
row_more y row lit = elim (cases_lt y row) [
  | inl less ↦
      let next : y < row + 1 = omega (arith, less) in
      rw (lt-ltb y (row + 1) next, lt-ltb y row less) (elim (cases_Bool lit) [
        | inl on ↦ rw on refl
        | inr off ↦ rw (off, and_right (y == row) false refl) refl
      ])
  | inr least ↦ elim (cases_eq y row) [
    | inl same ↦
        let next : y < row + 1 = omega (arith, same) in
        rw (lt-ltb y (row + 1) next, le-ltb y row least, eq-eqb y row same) refl
    | inr other ↦
        let next : row + 1 ≤ y = elim (cases_lt row y) [ inl more ↦ omega (arith, more) | inr most ↦ absurd (other (omega (arith, least, most))) ] in
        rw (le-ltb y (row + 1) next, le-ltb y row least, ne_eqb y row other) refl
  ]
]

-- the next pixel of a row
pub painted_next : (width height colour column row place : ℕ) (is_lit : Bool) (lit : ℕ → ℕ → Bool) (old mid new : List ℕ) → column < width → row < height
    → width * height ≤ length old → place ≡ width * row + column → is_lit ≡ lit column row → new ≡ set mid place (if is_lit then colour else get_or mid place 0)
    → IsPainted width height colour (λ x y. (y == row) && (nat_lt x column && lit x y)) old mid
    → IsPainted width height colour (λ x y. (y == row) && (nat_lt x (column + 1) && lit x y)) old new
painted_next width height colour column row place is_lit lit old mid new beside here whole at shows is before =
    let count = before.count in
    painted_more width height colour (λ x y. (y == row) && (nat_lt x column && lit x y)) (λ x y. (y == row) && ((x == column) && lit x y))
    (λ x y. (y == row) && (nat_lt x (column + 1) && lit x y)) old mid new (λ x y. column_more y row x column (lit x y)) before
    (subst (IsPainted width height colour (λ x y. (y == row) && ((x == column) && lit x y)) mid)
    (ap (λ p. set mid p (if lit column row then colour else get_or mid p 0)) (sym at) ∙ ap (λ b. set mid place (if b then colour else get_or mid place 0)) (sym shows) ∙ sym is)
    (painted_one width height colour column row lit mid beside here (omega (arith, whole, count))))

-- the next row
pub painted_row : (width height colour row : ℕ) (lit : ℕ → ℕ → Bool) (old mid new : List ℕ) → IsPainted width height colour (λ x y. nat_lt y row && lit x y) old mid
    → IsPainted width height colour (λ x y. (y == row) && lit x y) mid new → IsPainted width height colour (λ x y. nat_lt y (row + 1) && lit x y) old new
painted_row width height colour row lit old mid new =
    painted_more width height colour (λ x y. nat_lt y row && lit x y) (λ x y. (y == row) && lit x y) (λ x y. nat_lt y (row + 1) && lit x y) old mid new
    (λ x y. row_more y row (lit x y))

-- EIGHT COLUMNS AFTER THE OTHER

-- an octet of 0 has no lit pixel
pub octet_dark : (width height colour row place octet : ℕ) (bits : List ℕ) (lit : ℕ → ℕ → Bool) (old : List ℕ) → octet ≡ get_or bits place 0 → octet ≡ 0
    → ((x : ℕ) → x < width → is_bit_set bits x ≡ lit x row) → IsPainted width height colour (λ x y. (y == row) && ((x / 8 == place) && lit x y)) old old
unfolding is_bit_set
octet_dark width height colour row place octet bits lit old read none same =
    painted_same width height colour (λ x y. false) (λ x y. (y == row) && ((x / 8 == place) && lit x y)) old old
    (λ x y left above. elim (cases_eq y row) [
      | inl is ↦ elim (cases_eq (x / 8) place) [
        | inl at ↦
            let zero' : get_or bits (x / 8) 0 ≡ 0 = ap (λ n. get_or bits n 0) at ∙ sym read ∙ none in
            let off = bit_at-zero (7 - x % 8) in
            let dark : (bit_at (get_or bits (x / 8) 0) (7 - x % 8) == 1) ≡ false = rw zero' (ne_eqb (bit_at 0 (7 - x % 8)) 1 (λ one. absurd (omega (arith, off, one)))) in
            let unlit : lit x y ≡ false = ap (lit x) is ∙ sym (same x left) ∙ dark in
            rw (unlit, and_right (x / 8 == place) false refl, and_right (y == row) false refl) refl
        | inr off ↦ rw (ne_eqb (x / 8) place off, and_right (y == row) false refl) refl
      ]
      | inr other ↦ ap (λ b. b && ((x / 8 == place) && lit x y)) (ne_eqb y row other)
    ])
    (painted_none width height colour (λ x y. false) old (λ x y. refl))

-- the first columns of an octet
abbrev pub has_first : (lit : ℕ → ℕ → Bool) → ℕ → ℕ → ℕ → ℕ → ℕ → Bool
has_first lit row place end x y = (y == row) && ((x / 8 == place) && (nat_lt x end && lit x y))

pub first_columns_none : (width height colour row place : ℕ) (lit : ℕ → ℕ → Bool) (old : List ℕ)
    → IsPainted width height colour (has_first lit row place (8 * place)) old old
first_columns_none width height colour row place lit old =
    painted_none width height colour (has_first lit row place (8 * place)) old
    (λ x y. elim (cases_eq (x / 8) place) [
      | inl at ↦ rw (le-ltb x (8 * place) (omega (arith, at)), and_right (x / 8 == place) false refl) (and_right (y == row) false refl)
      | inr off ↦ rw (ne_eqb (x / 8) place off) (and_right (y == row) false refl)
    ])

first_columns_more : (lit : ℕ → ℕ → Bool) (row place column x y : ℕ) → column / 8 ≡ place
    → has_first lit row place (column + 1) x y ≡ (has_first lit row place column x y || ((y == row) && ((x == column) && lit x y)))
first_columns_more lit row place column x y inside = elim (cases_eq y row) [
  | inr other ↦ rw (ne_eqb y row other) refl
  | inl is ↦ elim (cases_eq x column) [
    | inl same ↦
        let at : x / 8 ≡ place = ap (λ n. n / 8) same ∙ inside in
        rw (eq-eqb y row is, eq-eqb (x / 8) place at, eq-eqb x column same, lt-ltb x (column + 1) (omega (arith, same)), le-ltb x column (omega (arith, same))) refl
    | inr other ↦ elim (cases_lt x column) [
      | inl less ↦
          rw (eq-eqb y row is, ne_eqb x column other, lt-ltb x (column + 1) (omega (arith, less)), lt-ltb x column less) (or_none ((x / 8 == place) && lit x y))
      | inr most ↦
          let more : column + 1 ≤ x = elim (cases_eq x column) [ inl e ↦ absurd (other e) | inr n ↦ omega (arith, most) ] in
          rw (eq-eqb y row is, ne_eqb x column other, le-ltb x (column + 1) more, le-ltb x column most) (or_none ((x / 8 == place) && false))
    ]
  ]
]
  where
    or_none : (b : Bool) → b ≡ (b || false)
    or_none true = refl
    or_none false = refl

pub first_columns_next : (width height colour row place column at octet : ℕ) (shows : Bool) (bits : List ℕ) (lit : ℕ → ℕ → Bool) (old mid new : List ℕ)
    → column < width → row < height → width * height ≤ length old → column / 8 ≡ place → at ≡ width * row + column → octet ≡ get_or bits place 0
    → ((x : ℕ) → x < width → is_bit_set bits x ≡ lit x row) → shows ≡ (bit_at octet (7 - column % 8) == 1)
    → new ≡ set mid at (if shows then colour else get_or mid at 0)
    → IsPainted width height colour (has_first lit row place column) old mid → IsPainted width height colour (has_first lit row place (column + 1)) old new
unfolding is_bit_set
first_columns_next width height colour row place column at octet shows bits lit old mid new left above whole inside is_at read same is_lit is_new before =
    let count = before.count in
    let bit : shows ≡ lit column row =
    is_lit ∙ ap (λ n. bit_at n (7 - column % 8) == 1) (read ∙ ap (λ n. get_or bits n 0) (sym inside)) ∙ same column left in
    let one = painted_one width height colour column row lit mid left above (omega (arith, whole, count)) in
    let list : set mid (width * row + column) (if lit column row then colour else get_or mid (width * row + column) 0) ≡ new =
    ap (λ n. set mid n (if lit column row then colour else get_or mid n 0)) (sym is_at) ∙ ap (λ b. set mid at (if b then colour else get_or mid at 0)) (sym bit) ∙ sym is_new in
    painted_more width height colour (has_first lit row place column) (λ x y. (y == row) && ((x == column) && lit x y)) (has_first lit row place (column + 1)) old mid new
    (λ x y. first_columns_more lit row place column x y inside) before
    (subst (λ l. IsPainted width height colour (λ x y. (y == row) && ((x == column) && lit x y)) mid l) list one)

-- all columns of an octet that stand on the page
pub first_columns_all : (width height colour row place end : ℕ) (lit : ℕ → ℕ → Bool) (old new : List ℕ) → ((x : ℕ) → x < width → x / 8 ≡ place → x < end)
    → IsPainted width height colour (has_first lit row place end) old new
    → IsPainted width height colour (λ x y. (y == row) && ((x / 8 == place) && lit x y)) old new
first_columns_all width height colour row place end lit old new all =
    painted_same width height colour (has_first lit row place end) (λ x y. (y == row) && ((x / 8 == place) && lit x y)) old new
    (λ x y left above. elim (cases_eq (x / 8) place) [
      | inl at ↦ rw (lt-ltb x end (all x left at)) refl
      | inr off ↦ rw (ne_eqb (x / 8) place off) refl
    ])

-- the first octets of a row
abbrev pub has_octets : (lit : ℕ → ℕ → Bool) → ℕ → ℕ → ℕ → ℕ → Bool
has_octets lit row place x y = (y == row) && (nat_lt x (8 * place) && lit x y)

pub octets_none : (width height colour row : ℕ) (lit : ℕ → ℕ → Bool) (old : List ℕ) → IsPainted width height colour (has_octets lit row 0) old old
octets_none width height colour row lit old =
    painted_none width height colour (has_octets lit row 0) old (λ x y. rw (le-ltb x (8 * 0) (omega arith)) (and_right (y == row) false refl))

octet_more : (lit : ℕ → ℕ → Bool) (row place x y : ℕ)
    → has_octets lit row (place + 1) x y ≡ (has_octets lit row place x y || ((y == row) && ((x / 8 == place) && lit x y)))
octet_more lit row place x y = elim (cases_eq y row) [
  | inr other ↦ rw (ne_eqb y row other) refl
  | inl is ↦ elim (cases_lt x (8 * place)) [
    | inl less ↦
        let off : x / 8 ≡ place → ⊥ = λ e. absurd (omega (arith, less, e)) in
        rw (eq-eqb y row is, lt-ltb x (8 * place) less, lt-ltb x (8 * (place + 1)) (omega (arith, less)), ne_eqb (x / 8) place off) (or_none (lit x y))
    | inr least ↦ elim (cases_lt x (8 * (place + 1))) [
      | inl less ↦
          let at : x / 8 ≡ place = omega (arith, less, least) in
          rw (eq-eqb y row is, le-ltb x (8 * place) least, lt-ltb x (8 * (place + 1)) less, eq-eqb (x / 8) place at) refl
      | inr most ↦
          let off : x / 8 ≡ place → ⊥ = λ e. absurd (omega (arith, most, e)) in
          rw (eq-eqb y row is, le-ltb x (8 * place) least, le-ltb x (8 * (place + 1)) most, ne_eqb (x / 8) place off) refl
    ]
  ]
]
  where
    or_none : (b : Bool) → b ≡ (b || false)
    or_none true = refl
    or_none false = refl

pub octets_next : (width height colour row place : ℕ) (lit : ℕ → ℕ → Bool) (old mid new : List ℕ) → IsPainted width height colour (has_octets lit row place) old mid
    → IsPainted width height colour (λ x y. (y == row) && ((x / 8 == place) && lit x y)) mid new
    → IsPainted width height colour (has_octets lit row (place + 1)) old new
octets_next width height colour row place lit old mid new =
    painted_more width height colour (has_octets lit row place) (λ x y. (y == row) && ((x / 8 == place) && lit x y)) (has_octets lit row (place + 1)) old mid new
    (octet_more lit row place)

pub octets_all : (width height colour row count : ℕ) (lit : ℕ → ℕ → Bool) (old new : List ℕ) → width ≤ 8 * count
    → IsPainted width height colour (has_octets lit row count) old new → IsPainted width height colour (λ x y. (y == row) && lit x y) old new
octets_all width height colour row count lit old new all =
    painted_same width height colour (has_octets lit row count) (λ x y. (y == row) && lit x y) old new
    (λ x y left above. rw (lt-ltb x (8 * count) (omega (arith, left, all))) refl)
