-- The line table of a group: what one more `nl` adds to it, what its last line adds, and what is looked up in it.
use Rattle.multi_judge.proofs.Common.{false≢true, same_Some, append-nil, slice_get, ◌≡◌, ℕ, ◌+◌, ◌-◌, ◌<◌, true, false, length, take, List, [], ◌∷◌, ◌++◌, Option, Some, None, refl, sym, ap, ◌∙◌, suc, zero, arith, rules, ◌≤◌, ◌==◌, subst, slice_index_or, if◌then◌else◌, last_or, list_any, after_last, All, count_by, option_map_or, length-append, eqb-true, largest, Spot, is_glyph, is_break, lines_of, area_of, segment, group_of, line_before, height_of, width_of, glyph_width, ended_lines, IsPlacing, each_after_length, each_after_push, last_or_push, push_ind, cut, cut_behind_is, after_last_is, ended_is, largest_push, open_glyphs, own_group, ended_count, ended_glyph, each_just, line_number, page_number, clashes, CountedLine, counted_line, Area, Group, Attributes, Line, attributes_of, area_sum, counted, line_sum, take_more, length-filter, count_by-le-length, slice_get_within, each_after, cut_with_item, closed_count, line_entry, table_of, column_in, extent-append-le, min, get_or_at, append_assoc, filter-append}
use Rattle.multi_judge.proofs.Sums.{part_none, present_push, in_order, group_of_own}
use Rattle.multi_meaning.specs.declared.place.Place.{Place}
use Rattle.multi_meaning.specs.Place.{place_of, start, spread}
use Rattle.std.specs.Prelude.{◌^◌}
use Rattle.multi_judge.specs.internal.Table.{width_in}

-- ONE MORE LINE

-- a table after one more line
pub table_push : (lines : List (List Spot)) (line : List Spot) → table_of (lines ++ line ∷ []) ≡ table_of lines ++ counted_line lines line ∷ []
table_push lines line = each_after_push counted_line lines line

-- a table has one entry for each line
pub table_length : (lines : List (List Spot)) → length (table_of lines) ≡ length lines
table_length lines = each_after_length counted_line lines

-- the last entry of a table has the height of all its lines
pub last_bottom : (lines : List (List Spot)) → option_map_or (λ (l : CountedLine). l.bottom) (last_or None (table_of lines)) 0 ≡ height_of lines
last_bottom = push_ind (λ lines. option_map_or (λ (l : CountedLine). l.bottom) (last_or None (table_of lines)) 0 ≡ height_of lines) refl step
  where
    step : (lines : List (List Spot)) (line : List Spot) → option_map_or (λ (l : CountedLine). l.bottom) (last_or None (table_of lines)) 0 ≡ height_of lines
        → option_map_or (λ (l : CountedLine). l.bottom) (last_or None (table_of (lines ++ line ∷ []))) 0 ≡ height_of (lines ++ line ∷ [])
    step lines line ih = ap (λ o. option_map_or (λ (l : CountedLine). l.bottom) o 0) (ap (last_or None) (table_push lines line) ∙ last_or_push None (table_of lines) (counted_line lines line))

-- LOOK-UPS

last_behind : {X : Type 0} (x : X) (xs : List X) → slice_get (x ∷ xs) (length xs) ≡ last_or (Some x) xs
last_behind x [] = refl
last_behind x (y ∷ xs) = last_behind y xs

last_get : {X : Type 0} (xs : List X) → slice_get xs (length xs - 1) ≡ last_or None xs
last_get [] = refl
last_get (x ∷ xs) = let last : length (x ∷ xs) - 1 ≡ length xs = omega arith in rw last (last_behind x xs)

-- the last entry of a table, if there is one, has the height of all its lines
pub height_found : (lines : List (List Spot)) (found : Option CountedLine) → found ≡ slice_get (table_of lines) (length (table_of lines) - 1) → option_map_or (λ (l : CountedLine). l.bottom) found 0 ≡ height_of lines
height_found lines found e = ap (λ o. option_map_or (λ (l : CountedLine). l.bottom) o 0) (e ∙ last_get (table_of lines)) ∙ last_bottom lines

each_after_get : {X Y : Type 0} (f : List X → X → Y) (xs : List X) (k : ℕ) (d : X) → k < length xs → slice_get (each_after f xs) k ≡ Some (f (take k xs) (slice_index_or xs k d))
each_after_get f [] k d h = absurd (omega arith)
each_after_get f (x ∷ xs) zero d h = refl
each_after_get f (x ∷ xs) (suc k) d h = each_after_get (λ before. f (x ∷ before)) xs k d (omega arith)

-- the entry of a line
pub look_up : (lines : List (List Spot)) (k : ℕ) → k < length lines → slice_get (table_of lines) k ≡ Some (counted_line (take k lines) (slice_index_or lines k []))
look_up lines k h = each_after_get counted_line lines k [] h

-- ONE MORE ENTRY

-- the entry of the open line of a group
abbrev pub open_entry : List Spot → ℕ → CountedLine
open_entry g bottom = line_entry (after_last is_break g) bottom

-- THE LAST LINE

-- an open line with characters is the last line
pub lines_open : (g : List Spot) → list_any is_glyph (after_last is_break g) ≡ true → lines_of g ≡ ended_lines g ++ after_last is_break g ∷ []
lines_open g h = search (rules, after_last_is, cut, cut_behind_is, ended_is, false≢true)

-- else the ended lines are all
pub lines_closed : (g : List Spot) → All IsPlacing g → list_any is_glyph (after_last is_break g) ≡ false → lines_of g ≡ ended_lines g
lines_closed g placing h = search (rules, after_last_is, append-nil, cut, cut_behind_is, ended_is, open_glyphs, part_none)

-- THE LINE OF AN ITEM

-- the line of an item is one of the lines of its group
pub line_is_there : (g rest : List Spot) (s : Spot) → count_by is_break g < length (lines_of (g ++ s ∷ rest))
line_is_there g rest s = omega (arith, closed_count g, ap length (cut_with_item is_break g s rest).2, length-append {A = List Spot})

-- HOW MANY LINES

-- a group has no more ended lines than lines
pub ended_most : (g : List Spot) → length (ended_lines g) ≤ length (lines_of g)
ended_most g = rw (length-filter (list_any is_break) (lines_of g)) (count_by-le-length (list_any is_break) (lines_of g))

-- THE PLACE OF A CHARACTER

-- the entry of a line has the width of each of its segments
pub width_in_is : (before : List (List Spot)) (line : List Spot) (just : ℕ) → 2 ≤ just → just ≤ 5 → width_in just (counted_line before line) ≡ width_of (segment just line)
width_in_is before line = each_just (λ just. width_in just (counted_line before line) ≡ width_of (segment just line)) refl refl refl refl

-- a character's place, from the entry of its line
pub place_is : (before all : List Spot) (spot : Spot) (line : CountedLine)
    → slice_get (table_of (lines_of (group_of spot all))) (count_by is_break (group_of spot before)) ≡ Some line
    → place_of before all spot ≡ record {
      column = column_in line (line_before before spot) spot;
      row = spot.at.rectangle.top + start (page_number spot.at.page_just) spot.at.rectangle.height (height_of (lines_of (group_of spot all))) + (line.bottom - spot.at.font.height);
    }
unfolding place_of
place_is before all spot line found =
    let k = count_by is_break (group_of spot before) in
    let lines = lines_of (group_of spot all) in
    let within : k < length lines = subst (λ n. k < n) (table_length lines) (slice_get_within (table_of lines) k line found) in
    search (rules, eqb-true, look_up, same_Some, take_more, width_in_is)

-- the line of an item begins with what stands before the item, and the item
own_line_is : (g rest : List Spot) (s : Spot) → (more : List Spot) × (slice_index_or (lines_of (g ++ s ∷ rest)) (count_by is_break g) [] ≡ after_last is_break g ++ s ∷ more)
own_line_is g rest s =
    let (more, others, split, last) = cut_with_item is_break g s rest in (
      more,
      ap (λ l. slice_index_or l (count_by is_break g) []) split
          ∙ get_or_at (cut is_break g).closed ((cut is_break g).open' ++ s ∷ more) others [] (count_by is_break g) (omega (arith, closed_count g))
          ∙ ap (λ l. l ++ s ∷ more) (sym (after_last_is is_break g)),
    )

-- the entry of a character's line, in the table of its group
abbrev pub own_entry : List Spot → List Spot → Spot → CountedLine
own_entry before all spot =
    let lines = lines_of (group_of spot all) in
    let k = count_by is_break (group_of spot before) in counted_line (take k lines) (slice_index_or lines k [])

-- the present segment of a line whose last character this is, which is no wider than that of the whole line, nor has it more characters
pub part_with : (before all rest : List Spot) (spot : Spot) (kept : Line) (line : CountedLine) → is_glyph spot ≡ true → kept ≡ line_sum (line_before before spot ++ spot ∷ []) → list_any (clashes spot) (line_before before spot) ≡ false
    → group_of spot all ≡ group_of spot before ++ spot ∷ rest → line ≡ own_entry before all spot → width_in (line_number spot.at.line_just) line < 2 ^ 16 → line.characters < 2 ^ 16
    → (min kept.part.width (width_in (line_number spot.at.line_just) line) ≡ width_of (segment (line_number spot.at.line_just) (line_before before spot) ++ spot ∷ []))
    × (line_number spot.at.line_just == 5 ≡ true → min kept.part.count line.characters - 1 ≡ length (segment (line_number spot.at.line_just) (line_before before spot)))
part_with before all rest spot kept line glyph is apart joins entry narrow few =
    let just = line_number spot.at.line_just in
    let earlier = line_before before spot in
    let here = earlier ++ spot ∷ [] in
    let seen : kept.present ≡ largest (λ (t : Spot). line_number t.at.line_just) here = ap (λ (l : Line). l.present) is in
    let present : kept.present ≡ just = omega (arith, seen, largest_push (λ t. line_number t.at.line_just) earlier spot, in_order earlier spot (line_sum earlier) refl apart) in
    let k = count_by is_break (group_of spot before) in
    let (behind, own) = own_line_is (group_of spot before) rest spot in
    let line_is : slice_index_or (lines_of (group_of spot all)) k [] ≡ here ++ behind =
    ap (λ g. slice_index_or (lines_of g) k []) joins ∙ own ∙ sym (append_assoc earlier (spot ∷ []) behind) in
    search (rules, eqb-true, extent-append-le, filter-append, length-append, width_in_is)

-- a character's column, from the columns of its segment before it and their number
pub column_is : (line : CountedLine) (earlier : List Spot) (spot : Spot) (a : Attributes) (columns before : ℕ)
    → a ≡ attributes_of spot.at → columns ≡ width_of (segment (line_number spot.at.line_just) earlier ++ spot ∷ []) - glyph_width spot → (line_number spot.at.line_just == 5 ≡ true → before ≡ length (segment (line_number spot.at.line_just) earlier))
    → a.rectangle.left + start (line_number a.line_just) a.rectangle.width (width_in (line_number a.line_just) line) + columns
    + (if line_number a.line_just == 5 then spread before line.characters (a.rectangle.width - width_in (line_number a.line_just) line) else 0)
    ≡ column_in line earlier spot
column_is line earlier spot a columns before at wide count = search (rules)

-- a character's place, by the sums of its group and the entries of its group's lines
pub place_from : (before all : List Spot) (spot : Spot) (a : Attributes) (group : Group) (lines : List CountedLine) (line : CountedLine) (column row height : ℕ)
    → a ≡ attributes_of spot.at → group.ended ≡ count_by is_break (group_of spot before) → lines ≡ table_of (lines_of (group_of spot all))
    → count_by is_break (group_of spot before) < length (lines_of (group_of spot all)) → ((l : CountedLine) → slice_get lines group.ended ≡ Some l → line ≡ l)
    → column ≡ column_in line (line_before before spot) spot → height ≡ height_of (lines_of (group_of spot all))
    → row ≡ a.rectangle.top + start (page_number a.page_just) a.rectangle.height height + (line.bottom - a.font.height)
    → ◌≡◌ {A = Place} (record { column = column; row = row }) (place_of before all spot)
place_from before all spot a group lines line column row height at ended table there found wide high down =
    let all_lines = lines_of (group_of spot all) in
    let k = count_by is_break (group_of spot before) in
    let own : slice_get (table_of all_lines) k ≡ Some (counted_line (take k all_lines) (slice_index_or all_lines k [])) = look_up all_lines k there in
    let is : line ≡ counted_line (take k all_lines) (slice_index_or all_lines k []) = found (counted_line (take k all_lines) (slice_index_or all_lines k [])) (rw (table, ended) own) in
    search (rules, place_is)

-- the present group of an area whose last item is this character, and its present line
pub group_with : (before : List Spot) (spot : Spot) (area : Area) → is_glyph spot ≡ true → area ≡ area_sum (area_of spot before ++ spot ∷ []) → largest (λ (t : Spot). page_number t.at.page_just) (area_of spot before) ≤ page_number spot.at.page_just
    → (area.group.ended ≡ counted (count_by is_break (group_of spot before))) × (area.group.line ≡ line_sum (line_before before spot ++ spot ∷ []))
group_with before spot area glyph is order = search (rules, ended_count, ended_glyph, group_of_own, largest_push, own_group, present_push)
