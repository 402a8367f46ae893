-- Placing items, and the groups of an area.
use Rattle.multi_meaning.proofs.Common.{length_push, get_or_at, nat_tests, ◌≡◌, ℕ, Bool, true, false, ◌==◌, List, [], ◌∷◌, ◌++◌, None, refl, ◌∙◌, append-nil, arith, cond, length, sym, ap, append_assoc, ◌+◌, ◌<◌, ◌≤◌, ◌&&◌, slice_index_or, ◌-◌, ◌*◌, if◌then◌else◌, nat_le, Some, and_parts, cases_Bool, false≢true, All-weaker, filter-append, All-filter, All-nil, All-head, All-tail, All-push, All-cons, filter, AllPass, All, after_last, count_by, list_any, sum_by, sum_by_push, sum_by-cons, page_number, SignData, CellData, cell_numbered, Spot, is_glyph, Standing, Put, is_break, in_area, in_group, area_of, lines_of, segment, Glyph, standing, char_gap, glyph_width, width_of, IsPlacing, ended_lines, largest, fit, area_fits, is_space, Meaning, ⊎_elim, ◌/◌, find, eq-eqb, ne_eqb, or_cases, cond_both, filter_passes, All-append, line_number, given_gap, bearers, line_height, SmallerFits, room_for}
use Rattle.multi_meaning.proofs.WordLemmas.{All-around, Cut, cut, cut_ind, cut_push, after_last_is, ended_is, All-split, largest_most, cut_behind_is, cut_ind_all, part, extent_push, extent-append-le, cut_with_item}

-- an item that passes, put after a list
pub filter_yes : {X : Type 0} (p : X → Bool) (xs : List X) (x : X) → p x ≡ true → filter p (xs ++ x ∷ []) ≡ filter p xs ++ x ∷ []
filter_yes p xs x h = filter-append p xs (x ∷ []) ∙ rw h refl

pub glyph_put : (at : Standing) (p : Put) → is_glyph (record { at = at; put = p }) ≡ true → (is_break (record { at = at; put = p }) ≡ false) × (given_gap (record { at = at; put = p }) ≡ None)
glyph_put at put e = grind arith

pub break_put : (at : Standing) (p : Put) → is_break (record { at = at; put = p }) ≡ true → is_glyph (record { at = at; put = p }) ≡ false
break_put at put e = grind arith

pub placing_group : (just : ℕ) (area : List Spot) → All IsPlacing area → All IsPlacing (in_group just area)
placing_group just area h = All-filter (λ t. page_number t.at.page_just == just) IsPlacing area h

-- an item of its own group
pub own_group : (just : ℕ) (area : List Spot) (s : Spot) → page_number s.at.page_just ≡ just → in_group just (area ++ s ∷ []) ≡ in_group just area ++ s ∷ []
own_group just area s e = filter_yes (λ t. page_number t.at.page_just == just) area s (eq-eqb (page_number s.at.page_just) just e)

-- a group after an item of another
pub in_group_other : (just : ℕ) (area : List Spot) (s : Spot) → (page_number s.at.page_just ≡ just → ⊥) → in_group just (area ++ s ∷ []) ≡ in_group just area
in_group_other just area s apart = filter-append (λ t. page_number t.at.page_just == just) area (s ∷ []) ∙ rw (ne_eqb (page_number s.at.page_just) just apart) (append-nil (in_group just area))

-- an area has placing items
pub in_area_placing : (area : ℕ) (spots : List Spot) → All IsPlacing (in_area area spots)
in_area_placing area spots = grind (arith, nat_tests, append_assoc, append-nil, All-weaker, or_cases, and_parts, filter_passes)

pub area_placing : (before : List Spot) (s : Spot) → All IsPlacing (area_of s before)
area_placing before s = in_area_placing s.at.area before

-- what stands around an item of a line of characters is characters
pub glyphs_around : (xs : List Spot) (x : Spot) (ys : List Spot) → AllPass is_glyph (xs ++ x ∷ ys) → AllPass is_glyph xs × AllPass is_glyph ys
glyphs_around xs x ys h = let parts = All-around (λ x. is_glyph x ≡ true) xs x ys h in (parts.0, parts.2)

-- one more `nl` ends the open line
pub ended_break : (g : List Spot) (s : Spot) → is_break s ≡ true → ended_lines (g ++ s ∷ []) ≡ ended_lines g ++ (after_last is_break g ++ s ∷ []) ∷ []
ended_break g s b = grind (arith, ended_is, cut_push, after_last_is)

-- one more character ends none
pub ended_glyph : (g : List Spot) (s : Spot) → is_glyph s ≡ true → ended_lines (g ++ s ∷ []) ≡ ended_lines g
ended_glyph g s b = ended_is is_break (g ++ s ∷ []) ∙ ap (λ (c : Cut Spot). c.closed) (cut_push is_break g s) ∙ rw (glyph_put s.at s.put b).0 (sym (ended_is is_break g))

pub closed_count : (g : List Spot) → length (cut is_break g).closed ≡ count_by is_break g
closed_count = cut_ind is_break (λ g c. length c.closed ≡ count_by is_break g) refl (λ g c s e ih.
    let sum_by_push' = sum_by_push (λ s. cond (is_break s) 1 0) g s in
    grind (arith, length_push, ih, sum_by_push', e)) (λ g c s e ih. grind (arith, ih, sum_by_push (λ s. cond (is_break s) 1 0) g s, e))

-- there are as many ended lines as `nl`s
pub ended_count : (g : List Spot) → length (ended_lines g) ≡ count_by is_break g
ended_count g = ap length (ended_is is_break g) ∙ closed_count g

-- a line of characters is its own bearers
pub filter_all : (line : List Spot) → AllPass is_glyph line → filter is_glyph line ≡ line
filter_all [] h = refl
filter_all (s ∷ line) h = rw (All-head (λ x. is_glyph x ≡ true) s line h) (ap (λ l. s ∷ l) (filter_all line (All-tail (λ x. is_glyph x ≡ true) s line h)))

pub bearers_glyphs : (line : List Spot) → AllPass is_glyph line → bearers line ≡ line
bearers_glyphs line h = cond_both (list_any is_glyph line) (filter is_glyph line) line (λ l. l ≡ line) (λ some. filter_all line h) (λ none. refl)

-- a `nl` ends a line: with characters it changes neither, without it gives both
pub any_glyph : (s : Spot) (line : List Spot) → AllPass is_glyph (s ∷ line) → list_any is_glyph (s ∷ line) ≡ true
any_glyph s line h = rw (All-head (λ x. is_glyph x ≡ true) s line h) refl

pub bearers_ended : (s : Spot) (line : List Spot) (b : Spot) → AllPass is_glyph (s ∷ line) → is_glyph b ≡ false → bearers ((s ∷ line) ++ b ∷ []) ≡ s ∷ line
bearers_ended s line b h n =
    grind (arith, All-head (λ x. is_glyph x ≡ true) s line h, filter_all line (All-tail (λ x. is_glyph x ≡ true) s line h), n, filter-append, append-nil)

pub bearers_empty : (b : Spot) → is_glyph b ≡ false → bearers (b ∷ []) ≡ b ∷ []
bearers_empty b n = rw n refl

-- what holds of nothing, and stays with a line of characters and its end, holds of the lines of placing items that an `nl` ended and
-- of what they are cut from; what stands open after them is characters
module _ (P : List Spot → List (List Spot) → Type 0) (none : P [] [])
    (more : (before : List Spot) (lines : List (List Spot)) (line : List Spot) (s : Spot) → AllPass is_glyph line → is_break s ≡ true
    → P before lines → P (before ++ (line ++ s ∷ [])) (lines ++ (line ++ s ∷ []) ∷ [])) where
  pub record Lines (group : List Spot) (c : Cut Spot) : Type 0 where
    pub before : List Spot
    pub is : group ≡ before ++ c.open'
    pub glyphs : AllPass is_glyph c.open'
    pub holds : P before c.closed

  pub lines_ind : (group : List Spot) → All IsPlacing group → Lines group (cut is_break group)
  lines_ind = cut_ind is_break (λ group c. All IsPlacing group → Lines group c)
      (λ all. record { before = []; is = refl; glyphs = All-nil (λ x. is_glyph x ≡ true); holds = none })
      (λ group c s e ih all.
      let h = ih (All-split IsPlacing group s all).0 in
      record {
        before = h.before ++ (c.open' ++ s ∷ []);
        is = grind (arith, h.is, append_assoc, append-nil);
        glyphs = All-nil (λ x. is_glyph x ≡ true);
        holds = more h.before c.closed c.open' s h.glyphs e h.holds;
      })
      (λ group c s e ih all.
      let (earlier, placing) = All-split IsPlacing group s all in
      let h = ih earlier in
      record {
        before = h.before;
        is = grind (arith, h.is, append_assoc);
        glyphs = grind (arith, All-push (λ x. is_glyph x ≡ true) c.open' s h.glyphs, placing, e);
        holds = h.holds;
      })

pub open_glyphs : (group : List Spot) → All IsPlacing group → AllPass is_glyph (cut is_break group).open'
open_glyphs group all = (lines_ind (λ before lines. Unit {0}) tt (λ before lines line s glyphs e h. tt) group all).glyphs

-- an item of a font of at least one pixel
abbrev High : Spot → Type 0
High s = 1 ≤ s.at.font.height

largest_some : {X : Type 0} (f : X → ℕ) (xs : List X) → 0 < length xs → All (λ x. 1 ≤ f x) xs → 1 ≤ largest f xs
largest_some f [] some all = absurd (omega arith)
largest_some f (x ∷ xs) some all = omega (arith, All-head (λ x. 1 ≤ f x) x xs all, All-head (λ y. f y ≤ largest f (x ∷ xs)) x xs (largest_most f (x ∷ xs)))

filter_some : {X : Type 0} (p : X → Bool) (xs : List X) → list_any p xs ≡ true → 0 < length (filter p xs)
filter_some p [] h = absurd (false≢true h)
filter_some p (x ∷ xs) h = ⊎_elim (λ yes. rw yes (omega arith)) (λ no. rw no (filter_some p xs (rw no at h))) (cases_Bool (p x))

-- a line with an item has at least one pixel
abbrev IsHigh : List Spot → Type 0
IsHigh line = 1 ≤ line_height line

line_high : (line : List Spot) → 0 < length line → All High line → IsHigh line
line_high line some high = grind (arith, largest_some, filter_some, All-filter is_glyph High line high)

-- and so has each line of a group
lines_high : (g : List Spot) → All High g → All IsHigh (lines_of g)
lines_high g all =
    let (closed, last) = cut_ind_all is_break High (λ c. All IsHigh c.closed × All High c.open') (All-nil IsHigh, All-nil High)
    (λ c s h e (lines, line).
    let All_push' = All-push IsHigh c.closed (c.open' ++ s ∷ []) lines in
    grind (arith, All-push High c.open' s line h, All_push', line_high (c.open' ++ s ∷ []), length_push c.open' s, All-nil))
    (λ c s h e (lines, line). (lines, All-push High c.open' s line h)) g all in
    let All_append' = All-append IsHigh (cut is_break g).closed (part is_break (cut is_break g).open') closed in
    grind (arith, cut_behind_is is_break g, All_append', line_high (cut is_break g).open', All-nil, All-cons, last)

pub sum_least : {X : Type 0} (f : X → ℕ) (xs : List X) → All (λ x. 1 ≤ f x) xs → length xs ≤ sum_by f xs
sum_least f [] all = omega arith
sum_least f (x ∷ xs) all = omega (arith, sum_by-cons f x xs, All-head (λ x. 1 ≤ f x) x xs all, sum_least f xs (All-tail (λ x. 1 ≤ f x) x xs all))

pub fit_each : (a b c height : ℕ) → fit a b c height ≡ true → a + b + c ≤ height
fit_each a b c height h = grind arith

-- what holds of the line justifications left, centre, right and full
pub each_just : (P : ℕ → Type 0) → P 2 → P 3 → P 4 → P 5 → (just : ℕ) → 2 ≤ just → just ≤ 5 → P just
each_just P p2 p3 p4 p5 just low high = grind arith

-- an area that fits has no more lines than pixels
pub lines_within : (height : ℕ) (area : List Spot) → area_fits height area ≡ true → All (λ (s : Spot). 1 ≤ s.at.font.height) area
    → length (lines_of (in_group 2 area)) + length (lines_of (in_group 3 area)) + length (lines_of (in_group 4 area)) ≤ height
lines_within height area fits all =
    let All_filter' = All-filter (λ t. page_number t.at.page_just == 4) High area all in
    let All_filter'' = All-filter (λ t. page_number t.at.page_just == 3) High area all in
    grind (arith, lines_high, All-filter (λ t. page_number t.at.page_just == 2) High area all, All_filter'', All_filter', sum_least line_height, fit_each)

-- what stands after an item of a segment makes it no narrower
wider : (j : ℕ) (open' rest : List Spot) (y : Spot) → is_glyph y ≡ true → line_number y.at.line_just ≡ j → 1 ≤ glyph_width y → width_of (segment j open') < width_of (segment j (open' ++ y ∷ rest))
wider j open' rest y glyph just wide =
    grind (arith, nat_tests, filter-append (λ t. is_glyph t && (line_number t.at.line_just == j)) open' (y ∷ rest), extent_push glyph_width char_gap (segment j open') y, extent-append-le glyph_width char_gap (segment j rest) (segment j open' ++ y ∷ []), append_assoc)

-- an item of a laid group ends its line exactly where the segment in which it would stand is as wide before it as on that line
pub full_known : (j : ℕ) (front : List Spot) (y : Spot) (back : List Spot) → IsPlacing y → (is_glyph y ≡ true → (line_number y.at.line_just ≡ j) × (1 ≤ glyph_width y))
    → (width_of (segment j (after_last is_break front)) == width_of (segment j (slice_index_or (lines_of (front ++ y ∷ back)) (count_by is_break front) []))) ≡ is_break y
full_known j front y back placing stands =
    grind (arith, cut_with_item is_break front y back, get_or_at, closed_count front, after_last_is is_break front, wider, filter-append, append-nil)

pub smaller_fits : SmallerFits
smaller_fits a b c a' b' c' len p q r h = grind (arith, nat_tests)

-- the room for a part at the start
pub room_start : (n length : ℕ) → fit n 0 0 length ≡ nat_le n length
room_start n length = grind arith

-- in the middle
pub room_middle : (a n length : ℕ) → fit a 0 0 length ≡ true → fit a n 0 length ≡ nat_le n (length - 2 * a)
room_middle a n length h = grind arith

-- and at the end
pub room_end : (a b n length : ℕ) → fit a b 0 length ≡ true → fit a b n length ≡ nat_le n (if b == 0 then length - a else (length - b) - (length - b) / 2)
room_end a b n length h = grind (arith, nat_tests)

-- a part with none before it may have the whole length
pub room_alone : (just length : ℕ) → room_for just 0 0 length ≡ length
room_alone just length = grind arith

-- the cell that was found has the number that was asked for
pub found_cell : (cells : List CellData) (n : ℕ) (cell : CellData) → find (λ c. c.number == n) cells ≡ Some cell → cell.number ≡ n
found_cell [] n cell e = cc
found_cell (c ∷ cells) n cell e = grind (arith, nat_tests, found_cell cells n cell)

-- it is a space by its number
pub spaces_is : (sign : SignData) (items : List Meaning) (number : ℕ) (cell : CellData) → cell_numbered (standing sign items).font number ≡ Some cell
    → is_space (record { at = standing sign items; put = Glyph cell }) ≡ (number == 32)
spaces_is sign items number cell found = ap (λ n. n == 32) (found_cell (standing sign items).font.cells number cell found)
