-- One more octet of a run, in the string that is read.
use Rattle.multi_judge.proofs.Common.{counted, order_of, ◌≡◌, ℕ, suc, ◌+◌, ◌*◌, ◌^◌, ◌<◌, ◌≤◌, List, [], ◌∷◌, ◌++◌, length, map, drop, take, slice_get, Option, Some, None, refl, sym, ◌∙◌, arith, true, false, ◌&&◌, ◌||◌, ◌==◌, ap, ◌-◌, Bool, cond, subst, rules, nat_le, nat_lt, All, after_last, AllPass, list_any, and_from, and_right, le-leb, le-ltb, eq-eqb, ne_eqb, option_map, unwrap_or, length-drop, All-head, All-tail, sum_by-append, line_number, page_number, Off, IsPlain, Token, SizedCell, SignData, cell_in, IsWithin, HasWidth, width_in, Spot, area_of, is_break, is_glyph, in_group, Meaning, Shows, meaning, conflicts, offence, clashes, some_after, none_mapped, none_more, filled, is_space, Area, Line, State, ReadSoFar, IsRun, is_within, kept_height, held, lengthened_by, line_in_force, lengthened_area, present_area, IsStateOf, IsUnfilledOf, area_sum, line_sum, IsCharacter, area_sum_in, group_sum, AddsCharacter, character_of, order_sum, split_sum, Attributes, Split, Pass, IsFilledRun, even_line, longer_line, with_run, with_run_behind, IsFilledFor, sum_by, length-take-le, take-append-drop, IsBehindOne, GoesOnBehind, Char, item_steps}
use Rattle.multi_judge.proofs.Sums.{conflicts_kept, own_line, area_filled, group_of_own, some_mapped, no_character}
use Rattle.multi_token.proofs.PlaceLemmas.{drop_read, read_drop, single_token}
use Rattle.multi_judge.proofs.LimitLemmas.{character_judged}
use Rattle.multi_judge.proofs.ReadLemmas.{filled_put, read_more}
use Rattle.multi_judge.proofs.RunLemmas.{area_beside, behind_stays, run_stays, line_lengthened}
use Rattle.multi_judge.proofs.FilledStateLemmas.{order_apart, order_stays}
use Rattle.multi_judge.proofs.FillGroupLemmas.{Joins, present_glyphs, present_line, stands_there, split_none, split_space, split_word}
use Rattle.multi_judge.proofs.FilledJudgedLemmas.{FillsArea, filled_free}
use Rattle.multi_token.specs.declared.token.Kind.TheVariants as kinds

-- a cell of which the width is known
pub cell_of_width : (o : Option SizedCell) (width : ℕ) → Some width ≡ option_map (λ (c : SizedCell). c.width) o → (c : SizedCell) × (o ≡ Some c) × (width ≡ c.width)
cell_of_width o width e = some_mapped (λ (c : SizedCell). c.width) o width (sym e)

pub no_cell : (o : Option SizedCell) → None ≡ option_map (λ (c : SizedCell). c.width) o → o ≡ None
no_cell o e = none_mapped (λ (c : SizedCell). c.width) o (sym e)

-- ---- what a character of the run does

module _ (sign : SignData) (items : List Meaning) (state : State) (st : IsStateOf sign items state) (gap : ℕ) (run : IsRun state gap)
    (number : ℕ) (cell : SizedCell) (found : cell_in sign state.attributes.font.number number ≡ Some cell) (small : cell.width ≤ 64)
    (none : some_after (offence Off sign) items ≡ []) where
  abbrev longer : State
  longer = lengthened_by (gap + cell.width) 1 state

  -- it doesn't conflict
  agrees : (before : List Spot) (s : Spot) → state.area ≡ area_sum (area_of s before) → is_glyph s ≡ true → s.at.page_just ≡ state.attributes.page_just → s.at.line_just ≡ state.attributes.line_just
      → false ≡ conflicts before s
  agrees before s sum glyph page line =
      let spots = after_last is_break (in_group state.area.present (area_of s before)) in
      let here : line_in_force state ≡ line_sum spots = own_line (area_of s before) state.area sum in
      let own = ap line_number line in
      let clash = order_apart spots s (order_sum spots) refl (sym (ap (λ (l : Line). l.present) here) ∙ run.behind.line.segment ∙ sym own)
      (sym (ap (λ (l : Line). l.has_parts) here) ∙ run.behind.line.parts ∙ ap (λ n. nat_lt n 5) (sym own)) in
      let whole = conflicts_kept before s (page_number state.attributes.page_just) state.area.present false glyph (ap page_number page) (ap (λ (a : Area). a.present) sum) (sym clash) in
      search (rules, and_right, le-ltb)

  -- it is added
  added : AddsCharacter state cell.width longer
  added = search (rules, area_beside, behind_stays)

  pub run_goes_on : (line_in_force state).part.width + (gap + cell.width) ≤ state.limits.width
      → (offence Off sign items (Shows number) ≡ None) × IsStateOf sign (items ++ Shows number ∷ []) longer
  run_goes_on fits =
      let within : is_within longer ≡ true =
      and_from (nat_le (held ((line_in_force state).part.width + (gap + cell.width))) state.limits.width) (nat_le (kept_height state.area.group) state.limits.height)
      (le-leb (held ((line_in_force state).part.width + (gap + cell.width))) state.limits.width (omega (arith, fits))) run.height in
      let (fine, behind) = character_judged sign items state st longer refl none run.limited number cell found cell.width refl added false agrees refl in
      (fine ∙ rw within refl, behind)

-- an octet that stands for itself takes two steps
pub octet_steps : (left octet : ℕ) → IsPlain octet → item_steps left (Char octet) ≡ 2
octet_steps left octet plain = ap (λ b. cond (b || (octet == 93)) 4 2) (ne_eqb octet 91 plain.0) ∙ ap (λ b. cond b 4 2) (ne_eqb octet 93 plain.1)

-- so a run goes on with it, where lines aren't filled
pub octet_goes_on : (sign : SignData) (octets : List ℕ) (at steps : ℕ) (state : State) → ReadSoFar sign octets at steps (IsUnfilledOf sign state) → (octet : ℕ) → length octets < 2 ^ 63 → slice_get octets at ≡ Some octet → IsPlain octet
    → (gap : ℕ) → IsRun state gap → (wide : ℕ) → Some wide ≡ option_map (λ (c : SizedCell). c.width) (cell_in sign state.attributes.font.number octet) → wide ≤ 64 → (line_in_force state).part.width + (gap + wide) ≤ state.limits.width
    → ReadSoFar sign octets (at + 1) (steps + 2) (IsUnfilledOf sign (lengthened_by (gap + wide) 1 state))
octet_goes_on sign octets at steps state r octet short here plain gap run wide width_is narrow fits =
    let (cell, found, is) = cell_of_width (cell_in sign state.attributes.font.number octet) wide width_is in
    let (fine, st) = run_goes_on sign (map meaning r.items) state r.is.state_is gap run octet cell found (omega (arith, narrow, is)) r.is.fine (omega (arith, fits, is)) in
    let token : Token = record { at = at; len = 1; kind = kinds.Char octet } in
    let of : IsUnfilledOf sign (lengthened_by (gap + cell.width) 1 state) (map meaning r.items ++ Shows octet ∷ []) = record {
      off = r.is.off;
      fine = none_more (offence Off sign) (map meaning r.items) (Shows octet) r.is.fine fine;
      state_is = st;
      limited = record { width = r.is.limited.width; height = r.is.limited.height };
    } in
    let longer = read_more sign octets at steps (IsUnfilledOf sign state) r token refl (single_token octets at octet short here plain) (IsUnfilledOf sign (lengthened_by (gap + cell.width) 1 state))
    (subst (λ setting. offence setting sign (map meaning r.items) (Shows octet) ≡ None) (sym r.is.off) fine) of in
    subst (λ (x : ℕ × ℕ). ReadSoFar sign octets (at + 1) (steps + x.0) (IsUnfilledOf sign (lengthened_by (gap + x.1) 1 state))) (λ i. (octet_steps (length octets - at) octet plain i, sym is i)) longer

-- a state that was lengthened, once more
pub lengthened_more : (state : State) (pixels count more characters : ℕ) → lengthened_by more characters (lengthened_by pixels count state) ≡ lengthened_by (pixels + more) (count + characters) state
lengthened_more state pixels count more characters = search rules

-- by nothing
pub lengthened_none : (spots : List Spot) (state : State) → state.area ≡ area_sum spots → lengthened_by 0 0 state ≡ state
lengthened_none spots state e = search rules

pub behind_first : {x y : ℕ} {xs ys : List ℕ} → x ∷ xs ≡ y ∷ ys → xs ≡ ys
behind_first e = cc

-- what holds as far as a run has come, by the offset, its pixels and the number of its characters, holds after a text of which each octet
-- takes it one further
module _ (octets : List ℕ) (gap limit : ℕ) (width_of : ℕ → Option ℕ) (IsOne : ℕ → Type 0) (P : ℕ → ℕ → ℕ → Type 0)
    (step : (at pixels count octet wide : ℕ) → P at pixels count → slice_get octets at ≡ Some octet → IsOne octet → Some wide ≡ width_of octet → IsWithin 1 64 wide → pixels + (gap + wide) ≤ limit
    → P (at + 1) (pixels + (gap + wide)) (count + 1)) where
  text_taken : (text rest widths : List ℕ) (at pixels count : ℕ) → P at pixels count → drop at octets ≡ text ++ rest → All IsOne text → map width_of text ≡ map Some widths → All (IsWithin 1 64) widths
      → pixels + sum_by (λ w. gap + w) widths ≤ limit → P (at + length text) (pixels + sum_by (λ w. gap + w) widths) (count + length text)
  text_taken [] rest [] at pixels count p e ones each within fits =
      let to : at + 0 ≡ at = omega arith in
      let wider : pixels + 0 ≡ pixels = omega arith in
      let number : count + 0 ≡ count = omega arith in
      rw (to, wider, number) p
  text_taken (octet ∷ text) rest (w ∷ widths) at pixels count p e ones each within fits =
      let here : slice_get octets at ≡ Some octet = read_drop octets at octet (text ++ rest) e in
      let is : Some w ≡ width_of octet = cc in
      let more : map width_of text ≡ map Some widths = cc in
      let behind : drop (at + 1) octets ≡ text ++ rest = behind_first (sym (drop_read octets at octet here) ∙ e) in
      let total : sum_by (λ v. gap + v) (w ∷ widths) ≡ 0 + (gap + w) + sum_by (λ v. gap + v) widths = sum_by-append (λ v. gap + v) (w ∷ []) widths in
      let one = step at pixels count octet w p here (All-head IsOne octet text ones) is (All-head (IsWithin 1 64) w widths within) (omega (arith, total, fits)) in
      let all = text_taken text rest widths (at + 1) (pixels + (gap + w)) (count + 1) one behind (All-tail IsOne octet text ones) more (All-tail (IsWithin 1 64) w widths within) (omega (arith, total, fits)) in
      let to : at + 1 + length text ≡ at + suc (length text) = omega arith in
      let wider : pixels + (gap + w) + sum_by (λ v. gap + v) widths ≡ pixels + sum_by (λ v. gap + v) (w ∷ widths) = omega (arith, total) in
      let number : count + 1 + length text ≡ count + suc (length text) = omega arith in
      rw (← to, ← wider, ← number) all
  text_taken _ rest _ at pixels count p e ones each within fits = absurd (cc)

  -- so it does after the front of what stands there
  pub front_taken : (at len pixels : ℕ) → P at 0 0 → at + len ≤ length octets → All IsOne (take len (drop at octets)) → HasWidth width_of gap (take len (drop at octets)) pixels → pixels ≤ limit → P (at + len) pixels len
  front_taken at len pixels p within ones has narrow =
      let size = length-take-le len (drop at octets) (rw (length-drop at octets) (omega (arith, within))) in
      let all = text_taken (take len (drop at octets)) (drop len (drop at octets)) has.widths at 0 0 p (sym (take-append-drop len (drop at octets))) ones has.each has.within (omega (arith, narrow, has.together)) in
      search rules

-- the front of what stands after a character with the same attributes
module _ (sign : SignData) (octets : List ℕ) (at steps : ℕ) (state : State) (r : ReadSoFar sign octets at steps (IsUnfilledOf sign state)) (short : length octets < 2 ^ 63) (gap : ℕ) (run : IsRun state gap) where
  pub front_read : (len pixels : ℕ) → at + len ≤ length octets → All IsPlain (take len (drop at octets)) → HasWidth (width_in sign state.attributes.font.number) gap (take len (drop at octets)) pixels
      → (line_in_force state).part.width + pixels ≤ state.limits.width
      → ReadSoFar sign octets (at + len) (steps + 2 * len) (IsUnfilledOf sign (lengthened_by pixels len state))
  front_read len pixels within plain has narrow =
      let part = (line_in_force state).part in
      let none : steps ≡ steps + 2 * 0 = omega arith in
      let start = subst (λ (x : State × ℕ). ReadSoFar sign octets at x.1 (IsUnfilledOf sign x.0)) (λ i. (sym (lengthened_none (present_area sign (map meaning r.items)) state r.is.state_is.area) i, none i)) r in
      front_taken octets gap (state.limits.width - part.width) (width_in sign state.attributes.font.number) IsPlain (λ at pixels count. ReadSoFar sign octets at (steps + 2 * count) (IsUnfilledOf sign (lengthened_by pixels count state)))
      (λ at pixels count octet wide r here plain is within fits. subst (λ (x : State × ℕ). ReadSoFar sign octets (at + 1) x.1 (IsUnfilledOf sign x.0))
      (λ i. (lengthened_more state pixels count (gap + wide) 1 i, let two : steps + 2 * count + 2 ≡ steps + 2 * (count + 1) = omega arith in two i))
      (octet_goes_on sign octets at (steps + 2 * count) (lengthened_by pixels count state) r octet short here plain gap (run_stays state gap (held (part.width + pixels)) (counted (part.count + count)) run) wide is within.1 (omega (arith, fits, within.0))))
      at len pixels start within plain has (omega (arith, narrow))

-- a line of characters is lengthened
pub run_some : (here : Attributes) (gap pixels count : ℕ) (line : Line) → line.any ≡ true → with_run here gap pixels count line ≡ longer_line pixels count line
run_some here gap pixels count line some = ap (λ b. cond b (longer_line pixels count line) (cond (count == 0) line (even_line here (pixels - gap) count line))) some

module _ (here : Attributes) (width : ℕ) where
  -- a line of one
  pub first_line : (s : Spot) → IsCharacter s (character_of here width) → even_line here width 1 (line_sum []) ≡ line_sum (s ∷ [])
  first_line s is = search (rules, is.glyph, is.just, is.font, is.width, is.spacing)

  -- a line with one more, if its last one has these attributes
  pub line_more : (gap : ℕ) → gap ≡ unwrap_or here.spacing here.font.char_spacing → (kept : Line) → (kept.any ≡ true → IsBehindOne here.line_just here.font kept) → (line : List Spot) (s : Spot) → AllPass is_glyph line
      → IsCharacter s (character_of here width) → kept ≡ line_sum line → with_run here gap (gap + width) 1 kept ≡ line_sum (line ++ s ∷ [])
  line_more gap gap_is kept on line s glyphs is e = by_any kept.any refl
    where
      by_any : (b : Bool) → kept.any ≡ b → with_run here gap (gap + width) 1 kept ≡ line_sum (line ++ s ∷ [])
      by_any true some =
          let one = on some in
          run_some here gap (gap + width) 1 kept some
          ∙ line_lengthened line s (character_of here width) glyphs is kept e one.segment one.parts one.any one.height one.spacing one.last gap gap_is
      by_any false none =
          let nothing : line ≡ [] = no_character line kept glyphs e none in
          let wide : gap + width - gap ≡ width = omega arith in
          rw (none, nothing, wide, e ∙ ap line_sum nothing) (first_line s is)

-- the parts of a line around its last space, with one more character: a space or another
abbrev pub split_one : Attributes → ℕ → ℕ → Bool → Line → Option Split → Option Split
split_one here gap width true line split = Some (record { before = line; font = here.font; behind = line_sum [] })
split_one here gap width false line split = option_map (with_run_behind here gap (gap + width) 1) split

module _ (here : Attributes) (gap width : ℕ) (gap_is : gap ≡ unwrap_or here.spacing here.font.char_spacing) where
  pub split_more : (space : Bool) (split : Option Split) → GoesOnBehind here.line_just here.font split → (line : Line) (open' : List Spot) (s : Spot) → AllPass is_glyph open' → IsCharacter s (character_of here width) → is_space s ≡ space
      → list_any (clashes s) open' ≡ false → line ≡ line_sum open' → split ≡ split_sum open' → split_one here gap width space line split ≡ split_sum (open' ++ s ∷ [])
  split_more true split on line open' s glyphs is space apart e o = split_space open' s (character_of here width) is space line (line_sum []) e refl
  split_more false None on line open' s glyphs is space apart e o = split_none open' s space o
  split_more false (Some parts) on line open' s glyphs is space apart e o =
      split_word open' s (character_of here width) glyphs is space apart parts (with_run here gap (gap + width) 1 parts.behind) o (λ l t glyphs is e apart. line_more here width gap gap_is parts.behind on l t glyphs is e)

-- what is kept with one more character of this width
abbrev pub with_one : ℕ → ℕ → Bool → Pass → Pass
with_one gap width space kept = record {
  state = lengthened_by (gap + width) 1 kept.state;
  split = split_one kept.state.attributes gap width space (line_in_force kept.state) kept.split;
  order = kept.order;
}

module _ (kept : Pass) (run : IsFilledRun kept) (gap : ℕ) (runs : IsRun kept.state gap) (width : ℕ) (fits : (line_in_force kept.state).part.width + (gap + width) ≤ kept.state.limits.width) (space : Bool) where
  abbrev here : Attributes
  here = kept.state.attributes

  abbrev line : Line
  line = line_in_force kept.state

  abbrev one_longer : Line
  one_longer = longer_line (gap + width) 1 line

  abbrev area' : Area
  area' = lengthened_area (held (line.part.width + (gap + width))) (counted (line.part.count + 1)) kept.state.area

  still_fits : nat_le one_longer.part.width kept.state.limits.width ≡ true
  still_fits = le-leb (held (line.part.width + (gap + width))) kept.state.limits.width (omega (arith, fits))

  -- what is kept with it is that of a run
  pub one_goes_on : IsFilledRun (with_one gap width space kept)
  one_goes_on = search (rules, behind_stays)

  -- the group grows by it
  fills_one : FillsArea (page_number here.page_just) here.rectangle.width kept.state.area kept.split (character_of here width) space area' (split_one here gap width space line kept.split) None
  fills_one old new group s small placing placing' e order on is spaces fits' apart o =
      let w = here.rectangle.width in
      let area = kept.state.area in
      let own : area.group ≡ group_sum (filled (Some w) group) = group_of_own old area e (page_number here.page_just) (sym run.behind.group) ∙ ap group_sum on.before in
      let j : Joins w group s (character_of here width) area.group = record { small = small; placing = placing'; is = is; fits = fits'; apart = apart; sum = own } in
      let glyphs = present_glyphs j in
      let one = run.behind.line in
      let open' = after_last is_break (filled (Some w) group) in
      let grown = line_lengthened open' s (character_of here width) glyphs is line (present_line j) one.segment one.parts one.any one.height one.spacing one.last gap runs.gap_is in
      let turned : area ≡ area_sum_in (page_number here.page_just) old = e ∙ ap (λ n. area_sum_in n old) (sym (ap (λ (a : Area). a.present) e) ∙ run.behind.group) in
      let (group_is, parts, ended, before) = stands_there j one_longer grown kept.state.limits.width (runs.limited.width one.any) still_fits (split_one here gap width space line kept.split)
      (split_more here gap width runs.gap_is space kept.split run.split line open' s glyphs is spaces apart (present_line j) (o run.behind.group)) in
      (area_filled old new group s (page_number here.page_just) w on area area' turned refl refl refl group_is, parts, ended, before)

-- one more octet of a run
module _ (sign : SignData) (octets : List ℕ) (at steps : ℕ) (kept : Pass) (r : ReadSoFar sign octets at steps (IsFilledFor sign kept)) (octet : ℕ) (short : length octets < 2 ^ 63) (here : slice_get octets at ≡ Some octet) (plain : IsPlain octet)
    (run : IsFilledRun kept) (gap : ℕ) (runs : IsRun kept.state gap) (wide : ℕ) (small : wide ≤ 64)
    (width_is : Some wide ≡ option_map (λ (c : SizedCell). c.width) (cell_in sign kept.state.attributes.font.number octet)) (fits : (line_in_force kept.state).part.width + (gap + wide) ≤ kept.state.limits.width) where
  pub one_taken : ReadSoFar sign octets (at + 1) (steps + 2) (IsFilledFor sign (with_one gap wide (octet == 32) kept))
  one_taken =
      let (cell, found, is) = cell_of_width (cell_in sign kept.state.attributes.font.number octet) wide width_is in
      let items = map meaning r.items in
      let of = r.is.of in
      let st = of.state_is in
      let attributes = kept.state.attributes in
      let line = line_in_force kept.state in
      let one_longer = longer_line (gap + wide) 1 line in
      let area : Area = lengthened_area (held (line.part.width + (gap + wide))) (counted (line.part.count + 1)) kept.state.area in
      let put = filled_put sign items kept r.is octet cell found
      (filled_free sign items kept of octet cell found false
      (λ line s e just. sym (order_apart line s (order_of kept.order) e (run.order.0 ∙ ap line_number (sym just)) (run.order.1 ∙ ap (λ j. nat_lt (line_number j) 5) (sym just))))
      (ap (λ b. b || ((page_number attributes.page_just == kept.state.area.present) && false)) (le-ltb (page_number attributes.page_just) kept.state.area.present (omega (arith, run.behind.group))) ∙ and_right (page_number attributes.page_just == kept.state.area.present) false refl))
      true (sym (eq-eqb (page_number attributes.page_just) kept.state.area.present (sym run.behind.group)))
      (character_of attributes wide) refl refl is refl area (split_one attributes gap wide (octet == 32) line kept.split) None
      (λ cell found. fills_one kept run gap runs wide fits (octet == 32))
      kept.state.limits (record { width = of.limited.width; height = of.limited.height })
      kept.order (λ line s just apart goes stays. order_stays line s (order_of kept.order) (goes refl) (run.order.0 ∙ ap line_number (sym just)) (run.order.1 ∙ ap (λ j. nat_lt (line_number j) 5) (sym just))) in
      let fits' = and_from (nat_le one_longer.part.width kept.state.limits.width) (nat_le (kept_height area.group) kept.state.limits.height) (still_fits kept run gap runs wide fits (octet == 32)) runs.height in
      let token : Token = record { at = at; len = 1; kind = kinds.Char octet } in
      subst (λ k. ReadSoFar sign octets (at + 1) (steps + k) (IsFilledFor sign (with_one gap wide (octet == 32) kept))) (octet_steps (length octets - at) octet plain)
      (read_more sign octets at steps (IsFilledFor sign kept) r token refl (single_token octets at octet short here plain) (IsFilledFor sign (with_one gap wide (octet == 32) kept))
      (put.0 ∙ ap {B = Option ℕ} (λ b. cond b None (Some 5)) fits') (put.1 fits').of)
