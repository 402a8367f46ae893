-- The sums of a line after one more character.
use Rattle.multi_judge.proofs.Common.{cases_Option, length-append, append-nil, ◌≡◌, ℕ, ◌+◌, ◌<◌, ◌≤◌, max, Bool, true, false, cond, ◌&&◌, ◌||◌, ◌==◌, List, [], ◌∷◌, ◌++◌, Option, Some, None, refl, sym, ap, ◌∙◌, arith, rules, length, nat_lt, list_any, AllPass, last_or, after_last, cons_option, All, unwrap_or, option_map, option_map_or, and_right, cases_eq, cases_lt, eq-eqb, false≢true, le-ltb, lt-ltb, ne_eqb, or_parts, All-weaker, All-head, All-tail, All-cons, list_any-append, line_number, page_number, largest, Spot, is_glyph, segment, Break, is_break, in_group, lines_of, average, width_of, height_of, clashes, largest_most, largest_push, last_or_push, filter_none, Cut, cut, after_last_is, ended_is, cut_behind_is, each_just, filter_yes, open_glyphs, own_group, placing_group, IsPlacing, FontInfo, cut_with, Character, Segment, Line, kept_width, segment_sum, width_before, line_sum, IsCharacter, group_sum, IsBreak, Group, filter_map, filter-append, filter_map-append, All-append, bearers, line_height, line_spacing, given_gap, gap_before, any_largest, extent_push, cut_push, cut_if, part, any_glyph, counted, held, bearers_glyphs, bearers_ended, bearers_empty, glyph_put, width_push, ended_sum, push_ind, line_number_known}
use Rattle.multi_judge.specs.declared.area.Ended.{Ended}

-- a segment after one more character of its own
module _ (just : ℕ) (line : List Spot) (s : Spot) (c : Character) (is : IsCharacter s c) (own : line_number c.just ≡ just) where
  pub segment_own : (seg : Segment) (gap width : ℕ) → seg ≡ segment_sum just line → gap ≡ option_map_or (λ earlier. unwrap_or c.spacing (average earlier c.font.char_spacing)) seg.last 0 → width ≡ c.width
      → ◌≡◌ {A = Segment} (record { width = held (seg.width + (gap + width)); count = counted (seg.count + 1); last = Some c.font.char_spacing }) (segment_sum just (line ++ s ∷ []))
  segment_own seg gap width e g w = search (rules, filter_yes, gap_before, last_or_push, length-append, eq-eqb, width_push)

-- a segment after a character of another
pub segment_other : (just : ℕ) (line : List Spot) (s : Spot) → (line_number s.at.line_just ≡ just → ⊥) → segment_sum just (line ++ s ∷ []) ≡ segment_sum just line
segment_other just line s apart = search (rules, and_right, append-nil, filter-append, ne_eqb)

-- the largest number of a line of characters, after one more
largest_glyph : (f : Spot → ℕ) (line : List Spot) (s : Spot) → AllPass is_glyph line → is_glyph s ≡ true → largest f (bearers (line ++ s ∷ [])) ≡ max (largest f (bearers line)) (f s)
largest_glyph f line s h g =
    ap (largest f) (bearers_glyphs (line ++ s ∷ []) (Rattle.std.proofs.lemmas.List.Elements.All-push (λ x. is_glyph x ≡ true) line s h g))
    ∙ largest_push f line s
    ∙ ap (λ l. max (largest f l) (f s)) (sym (bearers_glyphs line h))

-- no character of a line is in a segment after the one with the largest justification
pub segment_behind : (just : ℕ) (line : List Spot) → largest (λ (t : Spot). line_number t.at.line_just) line < just → segment just line ≡ []
segment_behind just line less = search (rules, All-weaker, and_right, filter_none, largest_most, ne_eqb)

-- what is kept of a part before the present one is its size, where no other part has any
pub whole_before : (size : ℕ → ℕ) (present just : ℕ) → (present ≤ just → size just ≡ 0) → cond (nat_lt just present) (size just) 0 ≡ size just
whole_before size present just none = search (rules, cases_lt, le-ltb, lt-ltb)

-- all line justifications are known
justs_known : (line : List Spot) → largest (λ (t : Spot). line_number t.at.line_just) line ≤ 5
justs_known = push_ind (λ line. largest (λ (t : Spot). line_number t.at.line_just) line ≤ 5) (omega arith) (λ line s known. omega (arith, known, (line_number_known s.at.line_just).1, largest_push (λ (t : Spot). line_number t.at.line_just) line s))

-- the widths of the segments, by what is kept of the line
module _ (line : List Spot) (l : Line) (e : l ≡ line_sum line) where
  most_is : l.present ≡ largest (λ (t : Spot). line_number t.at.line_just) line
  most_is = ap (λ (l : Line). l.present) e

  pub none_of_later : (just : ℕ) → l.present < just → segment just line ≡ []
  none_of_later just later = segment_behind just line (omega (arith, most_is))

  kept_is : (just w : ℕ) → w ≡ width_before (largest (λ (t : Spot). line_number t.at.line_just) line) just line → cond (just == l.present) l.part.width w ≡ held (width_of (segment just line))
  kept_is just w is = search (rules, cases_eq, eq-eqb, most_is, ne_eqb, none_of_later, whole_before)

  pub present_known : l.present ≤ 5
  present_known = omega (arith, most_is, justs_known line)

  pub kept_width_is : (just : ℕ) → 2 ≤ just → just ≤ 5 → kept_width just l ≡ held (width_of (segment just line))
  kept_width_is = search (rules, each_just, justs_known, kept_is, le-ltb)

  -- the line goes on to a segment
  pub turned : (just : ℕ) → l.present ≤ just → (new : Line) → (just ≡ l.present → new ≡ l)
      → (l.present < just → (new.left ≡ kept_width 2 l) × (new.centre ≡ kept_width 3 l) × (new.right ≡ kept_width 4 l) × (new.part ≡ segment_sum 0 []))
      → (new.left ≡ width_before just 2 line) × (new.centre ≡ width_before just 3 line) × (new.right ≡ width_before just 4 line) × (new.part ≡ segment_sum just line)
  turned just order new same next = search (rules, cases_lt, kept_width_is, most_is, none_of_later, whole_before)

-- a line after one more character
module _ (line : List Spot) (s : Spot) (c : Character) (glyphs : AllPass is_glyph line) (is : IsCharacter s c) (l : Line) (e : l ≡ line_sum line) (order : l.present ≤ line_number c.just) where
  pub line_with : (r : Line) → r.present ≡ line_number c.just
      → r.left ≡ width_before (line_number c.just) 2 line → r.centre ≡ width_before (line_number c.just) 3 line → r.right ≡ width_before (line_number c.just) 4 line → r.part ≡ segment_sum (line_number c.just) (line ++ s ∷ [])
      → r.has_parts ≡ (l.has_parts || nat_lt (line_number c.just) 5) → r.height ≡ max l.height c.font.height → r.spacing ≡ max l.spacing c.font.line_spacing → r.any ≡ true
      → r ≡ line_sum (line ++ s ∷ [])
  line_with r present left centre right part parts height spacing any = search (rules, list_any-append, cases_lt, largest_glyph, largest_push, le-ltb, segment_other)

-- a line clashes by its largest justification, or as one of its characters isn't full
any_or : (n m : ℕ) (b : Bool) (line : List Spot) → list_any (λ (t : Spot). nat_lt n (line_number t.at.line_just) || (b && nat_lt (line_number t.at.line_just) m)) line ≡ (list_any (λ (t : Spot). nat_lt n (line_number t.at.line_just)) line || (b && list_any (λ (t : Spot). nat_lt (line_number t.at.line_just) m) line))
any_or n m b [] = search rules
any_or n m b (t ∷ line) = search (rules, any_or n m b line)

pub line_clashes : (line : List Spot) (s : Spot) → list_any (clashes s) line ≡ (nat_lt (line_number s.at.line_just) (largest (λ (t : Spot). line_number t.at.line_just) line) || ((line_number s.at.line_just == 5) && list_any (λ (t : Spot). nat_lt (line_number t.at.line_just) 5) line))
line_clashes line s =
    any_or (line_number s.at.line_just) 5 (line_number s.at.line_just == 5) line
    ∙ ap (λ b. b || ((line_number s.at.line_just == 5) && list_any (λ (t : Spot). nat_lt (line_number t.at.line_just) 5) line)) (any_largest (λ t. line_number t.at.line_just) (line_number s.at.line_just) line)

-- a character that clashes with none of its line isn't in a segment before the present one
pub in_order : (line : List Spot) (s : Spot) (l : Line) → l ≡ line_sum line → list_any (clashes s) line ≡ false → l.present ≤ line_number s.at.line_just
in_order line s l e none = search (rules, cases_lt, false≢true, line_clashes, lt-ltb, or_parts)

-- a line of no character is that of none
pub no_character : (line : List Spot) (sums : Line) → AllPass is_glyph line → sums ≡ line_sum line → sums.any ≡ false → line ≡ []
no_character [] sums glyphs e none = refl
no_character (s ∷ line) sums glyphs e none = absurd (false≢true (sym none ∙ ap (λ (l : Line). l.any) e ∙ any_glyph s line glyphs))

-- THE GAP AND THE HEIGHT OF A LINE

glyph_gaps : (line : List Spot) → AllPass is_glyph line → filter_map given_gap line ≡ []
glyph_gaps [] h = refl
glyph_gaps (s ∷ line) h =
    ap (λ o. cons_option o (filter_map given_gap line)) (glyph_put s.at s.put (All-head (λ x. is_glyph x ≡ true) s line h)).1
    ∙ glyph_gaps line (All-tail (λ x. is_glyph x ≡ true) s line h)

-- the gap of a line that an `nl` ends is the gap of its `nl`
pub gap_of_break : (line : List Spot) (s : Spot) (gap : Option ℕ) → AllPass is_glyph line → s.put ≡ Break gap → last_or None (filter_map given_gap (line ++ s ∷ [])) ≡ gap
gap_of_break line s gap h e = search (rules, cases_Option, filter_map-append, glyph_gaps)

-- a line that an `nl` ends has its height and spacing from its characters, else from the `nl`
pub largest_break : (f : Spot → ℕ) (line : List Spot) (s : Spot) → AllPass is_glyph line → is_glyph s ≡ false → largest f (bearers (line ++ s ∷ [])) ≡ cond (list_any is_glyph line) (largest f (bearers line)) (f s)
largest_break f [] s h n = search (rules, bearers_empty)
largest_break f (t ∷ line) s h n =
    ap (largest f) (bearers_ended t line s h n ∙ sym (bearers_glyphs (t ∷ line) h))
    ∙ sym (ap (λ b. cond (b || list_any is_glyph line) (largest f (bearers (t ∷ line))) (f s)) (All-head (λ x. is_glyph x ≡ true) t line h))

-- THE SUMS FROM THE CUT GROUP

abbrev pub sums : List (List Spot) → List Spot → Group
sums closed open' = record { ended = counted (length closed); closed = held (height_of closed); last = option_map ended_sum (last_or None closed); line = line_sum open' }

abbrev pub cut_sums : Cut Spot → Group
cut_sums c = sums c.closed c.open'

pub sums_are : (group : List Spot) → group_sum group ≡ cut_sums (cut is_break group)
sums_are group = ap (λ lines. sums lines (after_last is_break group)) (ended_is is_break group) ∙ ap (λ l. sums (cut is_break group).closed l) (after_last_is is_break group)

pub sums_push : (group : List Spot) (s : Spot) (b : Bool) → is_break s ≡ b → group_sum (group ++ s ∷ []) ≡ cut_sums (cut_if is_break b (cut is_break group) s)
sums_push group s b e = sums_are (group ++ s ∷ []) ∙ ap cut_sums (cut_push is_break group s) ∙ ap (λ b. cut_sums (cut_if is_break b (cut is_break group) s)) e

-- the present line of a group is characters
pub present_glyphs : (just : ℕ) (area : List Spot) → All IsPlacing area → AllPass is_glyph (after_last is_break (in_group just area))
present_glyphs just area h = search (rules, after_last_is, open_glyphs, placing_group)

-- a character stands on the present line
pub present_push : (group : List Spot) (s : Spot) → is_glyph s ≡ true → after_last is_break (group ++ s ∷ []) ≡ after_last is_break group ++ s ∷ []
present_push group s g = search (rules, Cut, after_last_is, cut, cut_if, cut_push, glyph_put)

-- a group after one more character
pub group_character : (just : ℕ) (area : List Spot) (s : Spot) → page_number s.at.page_just ≡ just → is_glyph s ≡ true → (group : Group) (line : Line) → group ≡ group_sum (in_group just area) → line ≡ line_sum (after_last is_break (in_group just area) ++ s ∷ [])
    → ◌≡◌ {A = Group} (record { ended = group.ended; closed = group.closed; last = group.last; line = line }) (group_sum (in_group just (area ++ s ∷ [])))
group_character just area s own g group line e l = search (rules, after_last_is, cut_push, ended_is, glyph_put, own_group, sums_are)

-- the height of the ended lines and one more, from the sums
pub more_height : (closed : List (List Spot)) (line : List Spot) (group : Group) (gap height spacing : ℕ) → group.closed ≡ held (height_of closed) → group.last ≡ option_map ended_sum (last_or None closed)
    → gap ≡ option_map_or (λ ended. unwrap_or ended.gap (average ended.spacing spacing)) group.last 0 → spacing ≡ line_spacing line → height ≡ line_height line → held (group.closed + (gap + height)) ≡ held (height_of (closed ++ line ∷ []))
more_height closed line group gap height spacing c last g s h = search (rules, extent_push, gap_before)

abbrev ended : Option ℕ → ℕ → Option Ended
ended gap spacing = Some (record { gap = gap; spacing = spacing })

-- a group after one more `nl`
module _ (before : List Spot) (s : Spot) (given : Option ℕ) (info : FontInfo) (placing : All IsPlacing before) (is : IsBreak s given info) where
  pub group_break : (group : Group) (line : Line) (gap height spacing : ℕ) → group ≡ group_sum before → line ≡ line_sum []
      → gap ≡ option_map_or (λ ended. unwrap_or ended.gap (average ended.spacing spacing)) group.last 0
      → height ≡ cond group.line.any group.line.height info.height → spacing ≡ cond group.line.any group.line.spacing info.line_spacing
      → ◌≡◌ {A = Group} (record { ended = counted (group.ended + 1); closed = held (group.closed + (gap + height)); last = Some (record { gap = given; spacing = spacing }); line = line }) (group_sum (before ++ s ∷ []))
  group_break group line gap height spacing e l g h n =
      let c = cut is_break before in
      let more = c.open' ++ s ∷ [] in
      let from : group ≡ cut_sums c = e ∙ sums_are before in
      let glyphs : AllPass is_glyph c.open' = open_glyphs before placing in
      let is_nl : is_break s ≡ true = ap (λ p. is_break (record { at = s.at; put = p })) is.put in
      let no_glyph : is_glyph s ≡ false = ap (λ p. is_glyph (record { at = s.at; put = p })) is.put in
      let high : height ≡ line_height more =
      h ∙ ap (λ (g : Group). cond g.line.any g.line.height info.height) from
      ∙ ap (λ (f : FontInfo). cond (list_any is_glyph c.open') (line_height c.open') f.height) is.font
      ∙ sym (largest_break (λ t. t.at.font.height) c.open' s glyphs no_glyph) in
      let spaced : spacing ≡ line_spacing more =
      n ∙ ap (λ (g : Group). cond g.line.any g.line.spacing info.line_spacing) from
      ∙ ap (λ (f : FontInfo). cond (list_any is_glyph c.open') (line_spacing c.open') f.line_spacing) is.font
      ∙ sym (largest_break (λ t. t.at.font.line_spacing) c.open' s glyphs no_glyph) in
      let total : held (group.closed + (gap + height)) ≡ held (height_of (c.closed ++ more ∷ [])) =
      more_height c.closed more group gap height spacing (ap (λ (g : Group). g.closed) from) (ap (λ (g : Group). g.last) from) g spaced high in
      let last : ended given spacing ≡ option_map ended_sum (last_or None (c.closed ++ more ∷ [])) =
      ap (ended given) spaced
      ∙ ap (λ o. ended o (line_spacing more)) (sym (gap_of_break c.open' s given glyphs is.put))
      ∙ ap (option_map ended_sum) (sym (last_or_push None c.closed more)) in
      let ended_is : counted (group.ended + 1) ≡ counted (length (c.closed ++ more ∷ [])) = omega (arith, ap (λ (g : Group). g.ended) from, length-append c.closed (more ∷ [])) in
      (λ i. let sums : Group = record { ended = ended_is i; closed = total i; last = last i; line = l i } in sums)
      ∙ sym (sums_push before s true is_nl)

-- THE HEIGHT OF A GROUP

pub part_none : (line : List Spot) → AllPass is_glyph line → list_any is_glyph line ≡ false → part is_break line ≡ []
part_none line h n = search (rules, All-head)

module _ (group : List Spot) (placing : All IsPlacing group) (sums : Group) (e : sums ≡ group_sum group) where
  -- where no character stands on the present line, the ended lines are all
  pub height_ended : sums.line.any ≡ false → sums.closed ≡ held (height_of (lines_of group))
  height_ended h = search (rules, append-nil, cut_behind_is, open_glyphs, part_none, sums_are)

  -- else the present line is one more
  pub height_present : sums.line.any ≡ true → (gap height : ℕ) → gap ≡ option_map_or (λ ended. unwrap_or ended.gap (average ended.spacing sums.line.spacing)) sums.last 0 → height ≡ sums.line.height
      → held (sums.closed + (gap + height)) ≡ held (height_of (lines_of group))
  height_present h gap height g n = search (rules, after_last_is, cut_behind_is, ended_is, extent_push, false≢true, gap_before, sums_are)

-- characters, a character and characters are characters
pub all_glyphs : (before : List Spot) (x : Spot) (behind : List Spot) → AllPass is_glyph before → is_glyph x ≡ true → AllPass is_glyph behind → AllPass is_glyph (before ++ x ∷ behind)
all_glyphs before x behind h e k = All-append (λ x. is_glyph x ≡ true) before (x ∷ behind) h (All-cons (λ x. is_glyph x ≡ true) x behind e k)

-- nothing stands after what ends a line
pub none_behind : (group : List Spot) (b : Spot) → is_break b ≡ true → after_last is_break (group ++ b ∷ []) ≡ []
none_behind group b e = first_of (search (rules, Cut, after_last_is, cut, cut_if, cut_push), grind (arith, Cut, after_last_is, cut, cut_if, cut_push))

-- a group whose present line is empty, with characters after it
pub relined : (front line : List Spot) → after_last is_break front ≡ [] → AllPass is_glyph line → ◌≡◌ {A = Group} (record (group_sum front) { line = line_sum line }) (group_sum (front ++ line))
relined front line none glyphs = search (rules, Cut, after_last_is, cut, cut_sums, cut_with, sums_are)
