-- The lines that the table has while an area is read.
use Rattle.multi_layout.proofs.Common.{◌≡◌, ℕ, ◌+◌, ◌<◌, ◌≤◌, Bool, true, false, cond, ◌==◌, length, List, [], ◌∷◌, ◌++◌, refl, sym, ap, ◌∙◌, arith, append-nil, rules, nat_lt, if◌then◌else◌, All, after_last, cases_eq, eq-eqb, ne_eqb, page_number, Spot, in_group, is_break, is_glyph, lines_of, height_of, IsPlacing, ended_lines, placing_group, Area, Group, CountedLine, LineTable, HasCounted, HasKnown, HasRoom, area_sum, group_sum, group_lines, line_count, table_of, line_entry, group_of_own, open_entry, filter-append, list_any, cases_lt, le-ltb, lt-ltb, length_push, break_put, known_lines, group_behind, ended_most, lines_closed, lines_open, table_length, table_push}
use Rattle.multi_meaning.specs.Words.{largest}

-- ONE MORE LINE

-- a line is put after those of the group with a page justification
abbrev pub Pushed : ℕ → CountedLine → LineTable → LineTable → Type 0
Pushed page_just line old new = (just : ℕ) → (2 ≤ just) × (just ≤ 4) → group_lines just new ≡ (if just == page_just then group_lines just old ++ line ∷ [] else group_lines just old)

-- one more line of one group is known
module _ (old new : ℕ → List (List Spot)) (own : ℕ) (others : (just : ℕ) → (just ≡ own → ⊥) → new just ≡ old just) (line : List Spot) (more : new own ≡ old own ++ line ∷ []) (low : 2 ≤ own) (high : own ≤ 4)
    (table : LineTable) (has : (just : ℕ) → 2 ≤ just → just ≤ 4 → group_lines just table ≡ table_of (old just)) where
  -- it is put into the table
  lines_pushed : (entry : CountedLine) (table' : LineTable) → entry ≡ line_entry line (height_of (new own)) → Pushed own entry table table' → (just : ℕ) → 2 ≤ just → just ≤ 4 → group_lines just table' ≡ table_of (new just)
  lines_pushed entry table' is pushed just least most = first_of (search (rules, cases_eq, eq-eqb, ne_eqb, table_push), grind (arith, cases_eq, eq-eqb, ne_eqb, table_push))

  -- and there is room for it
  lines_room : (area : List Spot) → ((just : ℕ) → length (new just) ≤ length (lines_of (in_group just area))) → HasRoom area → line_count table < 128
  lines_room area all room = first_of (search (rules, cases_eq, length_push, table_length), grind (arith, cases_eq, length_push, table_length))

-- KNOWN LINES

module _ (present just : ℕ) (area : List Spot) where
  known_before : just < present → known_lines present just area ≡ lines_of (in_group just area)
  known_before less = ap (λ b. cond b (lines_of (in_group just area)) (ended_lines (in_group just area))) (lt-ltb just present less)

  known_from : present ≤ just → known_lines present just area ≡ ended_lines (in_group just area)
  known_from most = ap (λ b. cond b (lines_of (in_group just area)) (ended_lines (in_group just area))) (le-ltb just present most)

  -- a group without items has none
  pub known_none : in_group just area ≡ [] → known_lines present just area ≡ []
  known_none none = first_of (search (rules), grind (arith))

  -- no more are known than there are
  pub known_most : length (known_lines present just area) ≤ length (lines_of (in_group just area))
  known_most = first_of (search (rules, cases_lt, ended_most, known_before, known_from), grind (arith, cases_lt, ended_most, known_before, known_from))

module _ (area : List Spot) (table : LineTable) where
  -- after the groups that have items it doesn't matter which is the present one
  pub known_later : (n m : ℕ) → largest (λ (t : Spot). page_number t.at.page_just) area < n → largest (λ (t : Spot). page_number t.at.page_just) area < m → HasKnown n area table → HasKnown m area table
  known_later n m first second has just low high = first_of (search (rules, cases_lt, group_behind, known_before, known_none), grind (arith, cases_lt, group_behind, known_before, known_none))

  -- after them all, all lines are known
  pub counted_at_end : (n : ℕ) → largest (λ (t : Spot). page_number t.at.page_just) area < n → largest (λ (t : Spot). page_number t.at.page_just) area ≤ 4 → HasKnown n area table → HasCounted area table
  counted_at_end n first known has just low high = known_later n 5 first (omega arith) has just low high ∙ ap table_of (known_before 5 just area (omega arith))

  -- the groups after have no lines
  pub behind_empty : (present : ℕ) → largest (λ (t : Spot). page_number t.at.page_just) area ≤ present → 2 ≤ present → HasKnown present area table → (just : ℕ) → present < just → just ≤ 4 → group_lines just table ≡ []
  behind_empty present on some has just behind high = has just (omega arith) high ∙ ap table_of (known_none present just area (group_behind just area (omega arith)))

-- THE LAST LINE OF THE PRESENT GROUP

module _ (area : List Spot) (a : Area) (e : a ≡ area_sum area) where
  group_is : a.group ≡ group_sum (in_group a.present area)
  group_is = group_of_own area a e a.present refl

  any_is : (b : Bool) → a.group.line.any ≡ b → list_any is_glyph (after_last is_break (in_group a.present area)) ≡ b
  any_is b any = ap (λ (g : Group). g.line.any) (sym group_is) ∙ any

  -- those of the other groups are known as before
  known_next : (just : ℕ) → (just ≡ a.present → ⊥) → known_lines (a.present + 1) just area ≡ known_lines a.present just area
  known_next just other = first_of (search (rules, cases_lt, group_behind, known_before, known_none), grind (arith, cases_lt, group_behind, known_before, known_none))

  -- where it has none, its lines are known
  pub nothing_left : All IsPlacing area → (old : LineTable) → a.group.line.any ≡ false → HasKnown a.present area old → HasKnown (a.present + 1) area old
  nothing_left placing old none has just low high = first_of (search (rules, any_is, cases_eq, known_before, known_from, known_next, lines_closed, placing_group), grind (arith, any_is, cases_eq, known_before, known_from, known_next, lines_closed, placing_group))

  module _ (some : a.group.line.any ≡ true) (low : 2 ≤ a.present) (high : a.present ≤ 4) (old : LineTable) (has : HasKnown a.present area old) where
    abbrev spots : List Spot
    spots = in_group a.present area

    all_known : known_lines (a.present + 1) a.present area ≡ lines_of spots
    all_known = known_before (a.present + 1) a.present area (omega arith)

    with_last : known_lines (a.present + 1) a.present area ≡ known_lines a.present a.present area ++ after_last is_break spots ∷ []
    with_last = all_known ∙ lines_open spots (any_is true some) ∙ ap (λ l. l ++ after_last is_break spots ∷ []) (sym (known_from a.present a.present area (omega arith)))

    -- with it they are known
    pub last_known : (new : LineTable) (line : CountedLine) → line ≡ open_entry spots (height_of (lines_of spots)) → Pushed a.present line old new → HasKnown (a.present + 1) area new
    last_known new line is =
        lines_pushed (λ j. known_lines a.present j area) (λ j. known_lines (a.present + 1) j area) a.present known_next (after_last is_break spots) with_last low high old has line new
        (is ∙ ap (λ l. open_entry spots (height_of l)) (sym all_known))

    -- there is room for it
    pub last_room : HasRoom area → line_count old < 128
    last_room =
        lines_room (λ j. known_lines a.present j area) (λ j. known_lines (a.present + 1) j area) a.present known_next (after_last is_break spots) with_last low high old has area
        (λ j. known_most (a.present + 1) j area)

-- WHERE LINES ARE FILLED

-- what ends a line adds nothing to its entry
pub entry_ended : (line : List Spot) (s : Spot) (bottom : ℕ) → is_break s ≡ true → line_entry (line ++ s ∷ []) bottom ≡ line_entry line bottom
entry_ended line s bottom breaks = first_of (search (rules, append-nil, break_put, filter-append), grind (arith, append-nil, break_put, filter-append))

module _ (just : ℕ) (old new : List Spot) (others : (j : ℕ) → (j ≡ just → ⊥) → in_group j new ≡ in_group j old) where
  other_known : (j : ℕ) → (j ≡ just → ⊥) → known_lines just j new ≡ known_lines just j old
  other_known j differ = ap (λ g. cond (nat_lt j just) (lines_of g) (ended_lines g)) (others j differ)

  -- no line is ended
  pub known_unchanged : ended_lines (in_group just new) ≡ ended_lines (in_group just old) → (table : LineTable) → HasKnown just old table → HasKnown just new table
  known_unchanged same table has = first_of (search (rules, cases_eq, other_known, known_from), grind (arith, cases_eq, other_known, known_from))

  -- one is, and it is put into the table
  module _ (line : List Spot) (table : LineTable) (low : 2 ≤ just) (high : just ≤ 4) (more : ended_lines (in_group just new) ≡ ended_lines (in_group just old) ++ line ∷ []) (has : HasKnown just old table) where
    with_line : known_lines just just new ≡ known_lines just just old ++ line ∷ []
    with_line = known_from just just new (omega arith) ∙ more ∙ ap (λ l. l ++ line ∷ []) (sym (known_from just just old (omega arith)))

    pub known_pushed : (entry : CountedLine) (table' : LineTable) → entry ≡ line_entry line (height_of (ended_lines (in_group just new))) → Pushed just entry table table' → HasKnown just new table'
    known_pushed entry table' is =
        lines_pushed (λ j. known_lines just j old) (λ j. known_lines just j new) just other_known line with_line low high table has entry table' (is ∙ ap (λ l. line_entry line (height_of l)) (sym (known_from just just new (omega arith))))

    -- and there is room for it
    pub pushed_room : HasRoom new → line_count table < 128
    pushed_room = lines_room (λ j. known_lines just j old) (λ j. known_lines just j new) just other_known line with_line low high table has new (λ j. known_most just j new)
