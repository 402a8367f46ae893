-- The sums around the last space of a line, at one more character.
use Rattle.multi_judge.proofs.Common.{◌≡◌, true, false, List, [], ◌∷◌, ◌++◌, Option, Some, None, sym, ap, subst, ◌∙◌, rules, arith, ◌≤◌, ◌<◌, ◌^◌, ℕ, Bool, not, refl, append_assoc, append-nil, or_parts, and_from, and_parts, false≢true, AllPass, list_any, after_last, All, option_map, list_any-append, nat_le, sum_by-append, All-nil, All-cons, All-head, All-tail, Spot, is_glyph, is_break, segment, CutAt, is_space, filled, clashes, le_test, open_line, open_line_is, cut_with, none_mapped, Cut, after_last_is, smaller_fits, ended_break, ended_glyph, width_of, fit, line_fits, IsPlacing, ended_lines, Split, Character, Line, split_sum, EndsLine, IsCharacter, line_sum, IsBreak, group_sum, Group, PutsCharacter, FitsBefore, IsMost, segment_room, cut_at_last, longer, dropped, word_begins, word_grows, broken_line, breaks, drops, stands, stays, LaidAll, LaidAs, filled_laid, ended, ended_ends, ends_open, open_line_glyphs, filled_is, is_cut, All-around, glyphs_around, info_of, parts_sum, common_steps}
use Rattle.multi_judge.proofs.Sums.{some_mapped, all_glyphs, none_behind, relined, present_push}
use Rattle.multi_judge.proofs.LimitLemmas.{fits_behind, none_before, told_behind}

-- a line with a space has parts around it, and what doesn't clash with the line doesn't with the last one
pub parts_of : (line : List Spot) (s : Spot) (split : Split) → AllPass is_glyph line → list_any (clashes s) line ≡ false → Some split ≡ split_sum line
    → (c : CutAt Spot) × (cut_at_last is_space line ≡ Some c) × (parts_sum c ≡ split) × AllPass is_glyph c.before × AllPass is_glyph c.behind × (list_any (clashes s) c.behind ≡ false)
parts_of line s split glyphs apart o =
    let (c, found, same) = some_mapped parts_sum (cut_at_last is_space line) split (sym o) in
    let at = is_cut is_space line c found in
    search (rules, glyphs_around, list_any-append, or_parts)

pub split_space : (line : List Spot) (s : Spot) (character : Character) → IsCharacter s character → is_space s ≡ true → (before none : Line) → before ≡ line_sum line → none ≡ line_sum []
    → ◌≡◌ {A = Option Split} (Some (record { before = before; font = character.font; behind = none })) (split_sum (line ++ s ∷ []))
split_space line s character is h before none e n = search (rules, word_begins)

split_if : (line : List Spot) (s : Spot) (o : Option (CutAt Spot)) → is_space s ≡ false → cut_at_last is_space line ≡ o → split_sum (line ++ s ∷ []) ≡ option_map parts_sum (option_map (longer (s ∷ [])) o)
split_if line s o w e = ap (option_map parts_sum) (word_grows line s o w e)

pub split_none : (line : List Spot) (s : Spot) → is_space s ≡ false → None ≡ split_sum line → ◌≡◌ {A = Option Split} None (split_sum (line ++ s ∷ []))
split_none line s w o = sym (split_if line s None w (none_mapped parts_sum (cut_at_last is_space line) (sym o)))

pub split_word : (line : List Spot) (s : Spot) (character : Character) → AllPass is_glyph line → IsCharacter s character → is_space s ≡ false → list_any (clashes s) line ≡ false
    → (split : Split) (more : Line) → Some split ≡ split_sum line
    → ((l : List Spot) (t : Spot) → AllPass is_glyph l → IsCharacter t character → split.behind ≡ line_sum l → list_any (clashes t) l ≡ false → more ≡ line_sum (l ++ t ∷ []))
    → ◌≡◌ {A = Option Split} (Some (record { before = split.before; font = split.font; behind = more })) (split_sum (line ++ s ∷ []))
split_word line s character glyphs is w apart split more o grows =
    let (c, found, same, before, behind, away) = parts_of line s split glyphs apart o in
    let grown = grows c.behind s behind is (ap (λ (p : Split). p.behind) (sym same)) away in
    (λ i. let p : Split = record { before = (sym same i).before; font = (sym same i).font; behind = grown i } in Some p) ∙ sym (split_if line s (Some c) w found)

-- a segment is as wide as what stands after its first character, or wider
wider : (x : Spot) (line : List Spot) → width_of line ≤ width_of (x ∷ line)
wider x line = grind (arith, common_steps, sum_by-append)

segment_behind : (just : ℕ) (x : Spot) (line : List Spot) → width_of (segment just line) ≤ width_of (segment just (x ∷ line))
segment_behind just x line = search (rules, wider)

-- what stands after the front of a line that fits fits too
part_fits : (width : ℕ) (front line : List Spot) → line_fits width (front ++ line) ≡ true → line_fits width line ≡ true
part_fits width [] line h = h
part_fits width (x ∷ front) line h =
    let w = λ (just : ℕ). width_of (segment just (front ++ line)) in
    let v = λ (just : ℕ). width_of (segment just (x ∷ (front ++ line))) in
    let (parts, full) = and_parts (fit (v 2) (v 3) (v 4) width) (nat_le (v 5) width) h in
    let less = λ (just : ℕ). segment_behind just x (front ++ line) in
    part_fits width front line (and_from (fit (w 2) (w 3) (w 4) width) (nat_le (w 5) width) (smaller_fits (v 2) (v 3) (v 4) (w 2) (w 3) (w 4) width (less 2) (less 3) (less 4) parts) (le_test (w 5) (v 5) width (less 5) full))

-- with another present line
abbrev pub with_line : Group → Line → Group
with_line group line = record group { line = line }

-- what stands after a list that ends a line
pub line_behind : (front line : List Spot) → after_last is_break front ≡ [] → AllPass is_glyph line → after_last is_break (front ++ line) ≡ line
line_behind front line none glyphs = search (rules, Cut, after_last_is, cut_with)

-- the sums with another line after the same list
pub lined_anew : (front line other : List Spot) → after_last is_break front ≡ [] → AllPass is_glyph line → AllPass is_glyph other → (self : Group) → self ≡ group_sum (front ++ line)
    → (l : Line) → l ≡ line_sum other → with_line self l ≡ group_sum (front ++ other)
lined_anew front line other none glyphs others self e l is = search (rules, relined)

-- a group is broken at the last space of its present line, where these are the sums of the group and of that line's parts around the
-- space: it is then the group with that space dropped (own)
abbrev BreaksGroup : Group → Split → Group → Type 0
BreaksGroup old split new =
    (front before behind : List Spot) (space : Spot) → All IsPlacing (front ++ before) → after_last is_break front ≡ []
    → AllPass is_glyph before → AllPass is_glyph behind → is_glyph space ≡ true
    → old ≡ group_sum (front ++ (before ++ space ∷ behind)) → split.before ≡ line_sum before → split.font ≡ info_of space.at.font → split.behind ≡ line_sum behind
    → new ≡ group_sum (((front ++ before) ++ dropped space ∷ []) ++ behind)

broken_at : (old : Group) (split : Split) (new : Group)
    → ((g : List Spot) (t : Spot) → All IsPlacing g → with_line old split.before ≡ group_sum g → IsBreak t None split.font → new ≡ group_sum (g ++ t ∷ [])) → BreaksGroup old split (with_line new split.behind)
broken_at old split new ends front before behind space placing none first last glyph e is font rest =
    let open' = lined_anew front (before ++ space ∷ behind) before none (all_glyphs before space behind first glyph last) first old e split.before is in
    let ended = ends (front ++ before) (dropped space) placing open' (record { put = refl; font = font }) in
    lined_anew ((front ++ before) ++ dropped space ∷ []) [] behind (none_behind (front ++ before) (dropped space) refl) (All-nil (λ x. is_glyph x ≡ true)) last new
    (ended ∙ ap group_sum (sym (append-nil ((front ++ before) ++ dropped space ∷ [])))) split.behind rest

laid_one : (s t : Spot) → IsPlacing s → LaidAs s t → IsPlacing t
laid_one s t h laid = search rules

laid_placing : (xs ys : List Spot) → All IsPlacing xs → LaidAll xs ys → All IsPlacing ys
laid_placing [] [] h k = All-nil IsPlacing
laid_placing (x ∷ xs) (y ∷ ys) h k = All-cons IsPlacing y ys (laid_one x y (All-head IsPlacing x xs h) k.0) (laid_placing xs ys (All-tail IsPlacing x xs h) k.1)
laid_placing _ _ h k = absurd k

-- the items of a filled group are placing items
pub filled_placing : (o : Option ℕ) (group : List Spot) → All IsPlacing group → All IsPlacing (filled o group)
filled_placing o group placing = laid_placing group (filled o group) placing (filled_laid o group placing)

-- a character joins a group whose lines are filled to this width, and these are the group's sums: its open line fits, and the character
-- clashes with none of it
pub record Joins (width : ℕ) (group : List Spot) (s : Spot) (character : Character) (self : Group) : Type 0 where
  pub small : width < 2 ^ 16
  pub placing : All IsPlacing group
  pub is : IsCharacter s character
  pub fits : line_fits width (after_last is_break (filled (Some width) group)) ≡ true
  pub apart : list_any (clashes s) (after_last is_break (filled (Some width) group)) ≡ false
  pub sum : self ≡ group_sum (filled (Some width) group)

-- these are then the group's sums, those around the last space of its open line, and the line that is ended, if one is
abbrev pub Joined : ℕ → List Spot → Spot → Group → Option Split → Option Line → Type 0
Joined width group s new split ended =
    (new ≡ group_sum (filled (Some width) (group ++ s ∷ []))) × (split ≡ split_sum (after_last is_break (filled (Some width) (group ++ s ∷ []))))
    × EndsLine (filled (Some width) group) (filled (Some width) (group ++ s ∷ [])) ended × FitsBefore width new.line

module _ {width : ℕ} {group : List Spot} {s : Spot} {character : Character} {self : Group} (j : Joins width group s character self) where
  abbrev old : List Spot
  old = filled (Some width) group

  abbrev open' : List Spot
  open' = after_last is_break old

  abbrev front : List Spot
  front = ended width group

  abbrev line : List Spot
  line = open_line width group

  line_is : open' ≡ line
  line_is = open_line_is width group j.placing

  fits : line_fits width line ≡ true
  fits = ap (line_fits width) (sym line_is) ∙ j.fits

  pub present_glyphs : AllPass is_glyph open'
  present_glyphs = subst (AllPass is_glyph) (sym line_is) (open_line_glyphs width group j.placing)

  pub present_line : self.line ≡ line_sum open'
  present_line = ap (λ (g : Group). g.line) j.sum

  whole : All IsPlacing old
  whole = filled_placing (Some width) group j.placing

  all_is : old ≡ front ++ line
  all_is = filled_is width group j.placing

  glyphs_more : (l : List Spot) → AllPass is_glyph l → AllPass is_glyph (l ++ s ∷ [])
  glyphs_more l glyphs = all_glyphs l s [] glyphs j.is.glyph (All-nil (λ x. is_glyph x ≡ true))

  -- the open line with it, and the most that its present segment may have then
  pub put_line : (r : Bool) (grown : Line) (most most' : ℕ)
      → ((l : List Spot) (t : Spot) → AllPass is_glyph l → self.line ≡ line_sum l → t.at.line_just ≡ character.just → not r ≡ list_any (clashes t) l)
      → (r ≡ true → PutsCharacter self.line character grown) → (IsMost width self.line most → IsMost width grown most') → IsMost width self.line most
      → (grown ≡ line_sum (open' ++ s ∷ [])) × (most' ≡ segment_room grown width)
  put_line true grown most most' apart puts room is = ((puts refl).sum open' s present_glyphs j.is present_line j.apart, room is (puts refl).behind.any)
  put_line false grown most most' apart puts room is =
      absurd (false≢true (sym j.apart ∙ sym (apart open' s present_glyphs present_line (sym j.is.just))))

  module _ (grown : Line) (sum : grown ≡ line_sum (open' ++ s ∷ [])) (most : ℕ) (room : most ≡ segment_room grown width) where
    answer : nat_le grown.part.width most ≡ line_fits width (line ++ s ∷ [])
    answer = told_behind width open' s grown sum j.apart j.fits most j.small room ∙ ap (λ l. line_fits width (l ++ s ∷ [])) line_is

    -- it stands on the open line, and no line is ended
    on_line : filled (Some width) (group ++ s ∷ []) ≡ old ++ s ∷ [] → (split : Option Split) → split ≡ split_sum (open' ++ s ∷ [])
        → Joined width group s (with_line self grown) split None
    on_line is split parts = first_of (search (rules, after_last_is, all_is, append_assoc, ended_ends, ended_glyph, ends_open, fits, fits_behind, glyphs_more, line_is, lined_anew, open_line_glyphs, present_push), grind (arith, after_last_is, all_is, append_assoc, ended_ends, ended_glyph, ends_open, fits, fits_behind, glyphs_more, line_is, lined_anew, open_line_glyphs, present_push))

    -- since it fits
    pub stands_there : nat_le grown.part.width most ≡ true → (split : Option Split) → split ≡ split_sum (open' ++ s ∷ [])
        → Joined width group s (with_line self grown) split None
    stands_there fit = on_line (stands width group s j.placing j.is.glyph fits (sym answer ∙ fit))

    -- or since the line has no space
    pub stays_there : nat_le grown.part.width most ≡ false → is_space s ≡ false → None ≡ split_sum open' → Joined width group s (with_line self grown) None None
    stays_there big word none =
        on_line (stays width group s j.placing j.is.glyph fits (sym answer ∙ big) word
        (ap (cut_at_last is_space) (sym line_is) ∙ none_mapped parts_sum (cut_at_last is_space open') (sym none))) None (split_none open' s word none)

    -- it is a space that is dropped, and ends its line
    pub drops_there : nat_le grown.part.width most ≡ false → is_space s ≡ true → (new : Group)
        → ((g : List Spot) (t : Spot) → All IsPlacing g → self ≡ group_sum g → IsBreak t None character.font → new ≡ group_sum (g ++ t ∷ []))
        → Joined width group s new None (Some self.line)
    drops_there big space new ends =
        let is = drops width group s j.placing j.is.glyph fits (sym answer ∙ big) space in
        let empty = ap (after_last is_break) is ∙ none_behind old (dropped s) refl in
        let all = ends old (dropped s) whole j.sum (record { put = refl; font = j.is.font }) ∙ ap group_sum (sym is) in (
          all,
          ap split_sum (sym empty),
          (open', dropped s, present_line, ([], sym (append-nil open')), refl, ap ended_lines is ∙ ended_break old (dropped s) refl),
          none_before width new.line (ap (λ (g : Group). g.line) all ∙ ap line_sum empty),
        )

    -- the line is broken at its last space: what stands before it is ended, and what stands after it fits, since the whole line did
    pub breaks_there : nat_le grown.part.width most ≡ false → is_space s ≡ false → (parts : Split) → Some parts ≡ split_sum open' → (new : Group)
        → ((g : List Spot) (t : Spot) → All IsPlacing g → with_line self parts.before ≡ group_sum g → IsBreak t None parts.font → new ≡ group_sum (g ++ t ∷ [])) → (next : Line)
        → ((l : List Spot) (t : Spot) → AllPass is_glyph l → IsCharacter t character → parts.behind ≡ line_sum l → list_any (clashes t) l ≡ false → next ≡ line_sum (l ++ t ∷ []))
        → Joined width group s (with_line new next) None (Some parts.before)
    breaks_there big word parts o new ends next puts =
        let first = with_line new parts.behind in
        let (c, found', same, before, behind, away) = parts_of open' s parts present_glyphs j.apart o in
        let found = ap (cut_at_last is_space) (sym line_is) ∙ found' in
        let cut = is_cut is_space line c found in
        let glyphs = open_line_glyphs width group j.placing in
        let none : after_last is_break front ≡ [] = after_last_is is_break front ∙ ends_open width front (ended_ends width group j.placing) in
        let broken = (front ++ c.before) ++ dropped c.item ∷ [] in
        let is = breaks width group s j.placing j.is.glyph fits c (sym answer ∙ big) word found in
        let parted = all_is ∙ ap (λ l. front ++ l) cut.parts in
        let around = All-around IsPlacing (front ++ c.before) c.item c.behind (subst (All IsPlacing) (parted ∙ sym (append_assoc front c.before (c.item ∷ c.behind))) whole) in
        let space = (All-around (λ x. is_glyph x ≡ true) c.before c.item c.behind (subst (AllPass is_glyph) cut.parts glyphs)).1 in
        let first_is = broken_at self parts new ends front c.before c.behind c.item around.0 none before behind space (j.sum ∙ ap group_sum parted)
        (ap (λ (p : Split). p.before) (sym same)) (ap (λ (p : Split). p.font) (sym same)) (ap (λ (p : Split). p.behind) (sym same)) in
        let empty = none_behind (front ++ c.before) (dropped c.item) refl in
        let next_is = puts c.behind s behind j.is (ap (λ (p : Split). p.behind) (sym same)) away in
        let behind_fits = part_fits width (c.before ++ c.item ∷ []) c.behind (ap (line_fits width) (append_assoc c.before (c.item ∷ []) c.behind ∙ sym cut.parts) ∙ fits) in (
          lined_anew broken c.behind (c.behind ++ s ∷ []) empty behind (glyphs_more c.behind behind) first first_is next next_is ∙ ap group_sum (sym is),
          ap (option_map parts_sum) (sym (word_grows c.behind s None word cut.last))
              ∙ ap split_sum (sym (ap (after_last is_break) is ∙ line_behind broken (c.behind ++ s ∷ []) empty (glyphs_more c.behind behind))),
          (
            c.before,
            dropped c.item,
            ap (λ (p : Split). p.before) (sym same),
            (c.item ∷ c.behind, line_is ∙ cut.parts),
            refl,
            broken_line width group s j.placing j.is.glyph fits c (sym answer ∙ big) word found,
          ),
          fits_behind width c.behind s next next_is away behind_fits,
        )
