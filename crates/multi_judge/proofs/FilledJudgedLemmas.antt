-- What is kept after one more tag, where lines are filled.
use Rattle.multi_judge.proofs.Common.{order_of, inl, inr, nat_lt, ◌≡◌, ℕ, ◌≤◌, ◌<◌, ◌^◌, true, false, List, [], ◌∷◌, ◌++◌, Option, Some, None, Result, Ok, Err, refl, sym, ap, subst, ◌∙◌, arith, append-nil, ◌&&◌, rules, Bool, cond, not, ◌||◌, ◌==◌, after_last, list_any, cases_eq, le-leb, Tag, NewPage, NewLine, Rect, page_number, LineFill, Off, Words, SignData, CellData, cell_in, cell_numbered, SyntaxError, Break, Spot, Standing, in_area, in_group, is_break, spots, standing, Glyph, area_of, group_of, filled, is_space, line_fits, area_fits, too_big, laid_items, Meaning, Does, Shows, conflicts, offence, clashes, first_code, never_big, unsized_offence, present_area, largest, in_group_other, own_group, placing_group, area_placing, nothing_fits, largest_laid, are_laid, offence-break, no_conflict, standing_push, present_area-new, present_area-placing, offence-character, largest_push, SizedCell, page_number_known, area_sum, IsSmall, IsCharacter, line_sum, Area, Pass, State, IsFilledOf, begins_line, order_sum, split_sum, EndsLine, AreaFits, IsJudged, IsPassOf, IsFilledOn, IsPlacing, All, IsLimited, IsStateOf, attributes_of, Split, Character, Line, Attributes, is_within, FitsBefore, Limits, filled_break, offends_as_laid, laid_tag, fits_next, after_last_push, code_of, groups_laid, same_fill}
use Rattle.multi_judge.proofs.Sums.{area_stays, cell_found, cell_missing, no_back, empty_area, both_fit, no_clash, present_glyphs}
use Rattle.multi_meaning.specs.internal.FillOpen.{AllOpenFit}
use Rattle.multi_judge.proofs.LimitLemmas.{limited_none, area_told, open_told, groups_fit_before}
use Rattle.multi_judge.proofs.FilledStateLemmas.{area_with, conflicts_by, doesn't_fit, goes_behind, offends_by, offends_without, present_is, shown, no_clash_filled}

-- the group that is present is the last one of the items, whether they are laid out or not
pub present_laid : (sign : SignData) (items : List Meaning) (state : State) → IsStateOf sign (laid_items Words sign items items) state
    → state.area.present ≡ largest (λ (t : Spot). page_number t.at.page_just) (present_area sign items)
present_laid sign items state st =
    let all = spots sign items in
    let (here, are) = are_laid Words sign items items [] (sym (append-nil items)) in
    ap (λ (a : Area). a.present) st.area ∙ (λ i. largest (λ (t : Spot). page_number t.at.page_just) (in_area (here i).area (are i)))
    ∙ largest_laid Words (standing sign items).rectangle.width (standing sign items).area all all [] (sym (append-nil all))

-- a group of its area is laid out as the group, filled
pub group_laid : (sign : SignData) (items : List Meaning) (just : ℕ) → in_group just (present_area sign (laid_items Words sign items items)) ≡ filled (Some (standing sign items).rectangle.width) (in_group just (present_area sign items))
group_laid sign items just =
    let (here, are) = are_laid Words sign items items [] (sym (append-nil items)) in
    (λ i. in_group just (in_area (here i).area (are i)))
    ∙ groups_laid Words (standing sign items).rectangle.width (standing sign items).area (spots sign items) (record { at = standing sign items; put = Break None }) refl (same_fill Words sign items) just

-- what is kept where an area begins
pub filled_start : (sign : SignData) (items : List Meaning) (state : State) → IsStateOf sign (laid_items Words sign items items) state → present_area sign items ≡ []
    → IsFilledOf sign items (record { state = state; split = None; order = 0 })
filled_start sign items state st none =
    let width = (standing sign items).rectangle.width in
    let laid = laid_items Words sign items items in
    let empty : present_area sign laid ≡ [] =
    empty_area (present_area sign laid) (sym (ap (λ (a : Area). a.present) st.area) ∙ present_laid sign items state st ∙ ap (largest (λ (t : Spot). page_number t.at.page_just)) none) in
    record {
      limited = limited_none state (st.area ∙ ap area_sum empty);
      area_fits = rw empty (search (rules, le-leb));
      state_is = st;
      split_is = sym (ap (λ (area : List Spot). split_sum (after_last is_break (filled (Some width) (in_group state.area.present area)))) none);
      order_is = sym (ap (λ (area : List Spot). order_sum (after_last is_break (in_group state.area.present area))) none);
      fits = subst (AllOpenFit (Some width)) (sym none) (λ just. nothing_fits width);
    }

-- what is kept of more items, where only the group with this page justification may have changed since these, and the rectangle is as wide
pub filled_of : (sign : SignData) (items more : List Meaning) (old new : Pass) → IsFilledOf sign items old → IsStateOf sign (laid_items Words sign more more) new.state → IsLimited new.state
    → AreaFits sign (laid_items Words sign more more) → (standing sign more).rectangle.width ≡ (standing sign items).rectangle.width
    → (page : ℕ) → new.state.area.present ≡ page → ((j : ℕ) → (page ≡ j → ⊥) → in_group j (present_area sign more) ≡ in_group j (present_area sign items))
    → (group : List Spot) → in_group page (present_area sign more) ≡ group → new.split ≡ split_sum (after_last is_break (filled (Some (standing sign items).rectangle.width) group))
    → order_of new.order ≡ order_sum (after_last is_break group) → line_fits (standing sign items).rectangle.width (after_last is_break (filled (Some (standing sign items).rectangle.width) group)) ≡ true → IsFilledOf sign more new
filled_of sign items more old new of st limited high width page present others group own split order fits =
    let all : AllOpenFit (Some (standing sign more).rectangle.width) (present_area sign more) = λ just. elim (cases_eq page just) [
      | inl same ↦ (λ i. line_fits (width i) (after_last is_break (filled (Some (width i)) ((ap (λ j. in_group j (present_area sign more)) (sym same) ∙ own) i)))) ∙ fits
      | inr differ ↦ (λ i. line_fits (width i) (after_last is_break (filled (Some (width i)) (others just differ i)))) ∙ of.fits just
    ] in
    search (rules, fits, order, width)

module _ (sign : SignData) (items : List Meaning) (kept : Pass) (of : IsFilledOf sign items kept) (tag : Tag) (state : State)
    (st : IsStateOf sign (laid_items Words sign items items ++ Does tag ∷ []) state) (limited : IsLimited state) (fine : offence Off sign (laid_items Words sign items items) (Does tag) ≡ None) where
  abbrev more : List Meaning
  more = items ++ Does tag ∷ []

  laid_state : IsStateOf sign (laid_items Words sign more more) state
  laid_state = subst (λ l. IsStateOf sign l state) (sym (laid_tag Words sign items tag)) st

  -- the area still fits
  still_fits : AreaFits sign (laid_items Words sign more more)
  still_fits = subst (AreaFits sign) (sym (laid_tag Words sign items tag)) (fits_next sign (laid_items Words sign items items) (Does tag) fine of.area_fits)

  -- the present area stays
  stays : present_area sign more ≡ present_area sign items → (standing sign more).rectangle.width ≡ (standing sign items).rectangle.width
      → IsFilledOf sign more (record { state = state; split = kept.split; order = kept.order })
  stays area width =
      let present : state.area.present ≡ kept.state.area.present =
      present_laid sign more state laid_state ∙ ap (largest (λ (t : Spot). page_number t.at.page_just)) area ∙ sym (present_laid sign items kept.state of.state_is) in
      filled_of sign items more kept (record { state = state; split = kept.split; order = kept.order }) of laid_state limited still_fits
      width kept.state.area.present present (λ j other. ap (in_group j) area)
      (in_group kept.state.area.present (present_area sign items)) (ap (in_group kept.state.area.present) area) of.split_is of.order_is (of.fits kept.state.area.present)

-- a line ends
module _ (sign : SignData) (items : List Meaning) (kept : Pass) (of : IsFilledOf sign items kept) (gap : Option ℕ) (fine : offence Off sign (laid_items Words sign items items) (Does (NewLine gap)) ≡ None)
    (state : State) (st : IsStateOf sign (laid_items Words sign items items ++ Does (NewLine gap) ∷ []) state) (limited : IsLimited state) where
  abbrev nl : Spot
  nl = record { at = standing sign items; put = Break gap }

  abbrev behind : List Meaning
  behind = items ++ Does (NewLine gap) ∷ []

  order : kept.state.area.present ≤ page_number nl.at.page_just
  order =
      let laid = laid_items Words sign items items in
      let s : Spot = record { at = standing sign laid; put = Break gap } in
      let free = no_conflict (conflicts (spots sign laid) s) (too_big Off (spots sign laid) s) (sym (offence-break (too_big Off) sign laid gap) ∙ fine) in
      let here = ap (λ (t : Standing). t.page_just) (are_laid Words sign items items [] (sym (append-nil items))).0 in
      omega (arith, ap page_number here, no_back (spots sign laid) s (page_number s.at.page_just) kept.state.area.present refl (ap (λ (a : Area). a.present) of.state_is.area) free)

  area_is : present_area sign behind ≡ present_area sign items ++ nl ∷ []
  area_is = present_area-placing sign items (Does (NewLine gap)) (Break gap) refl refl refl

  present : state.area.present ≡ page_number nl.at.page_just
  present =
      omega (
        arith,
        order,
        present_laid sign items kept.state of.state_is,
        largest_push (λ t. page_number t.at.page_just) (present_area sign items) nl,
        present_laid sign behind state (laid_state sign items kept of (NewLine gap) state st limited fine) ∙ ap (largest (λ (t : Spot). page_number t.at.page_just)) area_is,
      )

  width : (standing sign behind).rectangle.width ≡ nl.at.rectangle.width
  width = ap (λ (t : Standing). t.rectangle.width) (standing_push sign items (Does (NewLine gap)))

  own : in_group (page_number nl.at.page_just) (present_area sign behind) ≡ in_group (page_number nl.at.page_just) (present_area sign items) ++ nl ∷ []
  own = ap (in_group (page_number nl.at.page_just)) area_is ∙ own_group (page_number nl.at.page_just) (present_area sign items) nl refl

  -- nothing stands on the line after it
  ends : IsFilledOf sign behind (record { state = state; split = None; order = 0 })
  ends =
      let page = page_number nl.at.page_just in
      let group = in_group page (present_area sign items) in
      let w = nl.at.rectangle.width in
      let hard = after_last_push is_break group nl in
      let soft = ap (after_last is_break) (filled_break w group nl (placing_group page (present_area sign items) (area_placing (spots sign items) nl)) refl) ∙ after_last_push is_break (filled (Some w) group) nl in
      filled_of sign items behind kept (record { state = state; split = None; order = 0 }) of (laid_state sign items kept of (NewLine gap) state st limited fine) limited
      (still_fits sign items kept of (NewLine gap) state st limited fine) width page present
      (λ j differ. ap (in_group j) area_is ∙ in_group_other j (present_area sign items) nl differ) (group ++ nl ∷ []) own
      (sym (ap split_sum soft)) (sym (ap order_sum hard)) (ap (line_fits w) soft ∙ nothing_fits w)

-- a tag is judged, by whether lines are filled: it doesn't offend and the pass is then that of the items with it, or it offends by this error
abbrev pub IsTagJudged : Bool → SignData → List Meaning → Meaning → Result (Unit {0}) SyntaxError → Pass → Type 0
IsTagJudged words sign items item (Ok done) pass = (offence sign.line_fill sign items item ≡ None) × IsPassOf words sign pass (items ++ item ∷ [])
IsTagJudged words sign items item (Err error) pass = offence sign.line_fill sign items item ≡ Some (code_of error)

-- what is kept after a tag that is judged after the items as they are laid out
module _ (sign : SignData) (items : List Meaning) (kept : Pass) (of : IsFilledOf sign items kept) where
  abbrev laid : List Meaning
  laid = laid_items Words sign items items

  as_laid : sign.line_fill ≡ Words → (tag : Tag) → offence sign.line_fill sign items (Does tag) ≡ offence Off sign laid (Does tag)
  as_laid words tag = ap (λ (setting : LineFill). offence setting sign items (Does tag)) words ∙ offends_as_laid sign items tag

  pub judged-stays : sign.line_fill ≡ Words → (tag : Tag) (result : Result (Unit {0}) SyntaxError) (state : State) → begins_line tag ≡ false → IsLimited state → IsJudged sign laid (Does tag) result state
      → IsTagJudged true sign items (Does tag) result (record { state = state; split = kept.split; order = kept.order })
  judged-stays words tag (Err error) state e limited j = as_laid words tag ∙ j
  judged-stays words tag (Ok done) state e limited j = (as_laid words tag ∙ j.0, record { words = words; of = stays sign items kept of tag state j.1 limited j.0 (area_stays sign items tag e) (search (rules, standing_push)) })

  begins : (tag : Tag) (state : State) → IsStateOf sign (laid ++ Does tag ∷ []) state → present_area sign (items ++ Does tag ∷ []) ≡ []
      → IsFilledOf sign (items ++ Does tag ∷ []) (record { state = state; split = None; order = 0 })
  begins tag state st none = filled_start sign (items ++ Does tag ∷ []) state (subst (λ l. IsStateOf sign l state) (sym (laid_tag Words sign items tag)) st) none

  begins_of : (tag : Tag) (state : State) → begins_line tag ≡ true → IsLimited state → offence Off sign laid (Does tag) ≡ None → IsStateOf sign (laid ++ Does tag ∷ []) state
      → IsFilledOf sign (items ++ Does tag ∷ []) (record { state = state; split = None; order = 0 })
  begins_of NewPage state e limited fine st = begins NewPage state st (present_area-new sign items (Does NewPage) refl)
  begins_of (NewLine gap) state e limited fine st = ends sign items kept of gap fine state st limited
  begins_of (Rect x y w h) state e limited fine st = begins (Rect x y w h) state st (present_area-new sign items (Does (Rect x y w h)) refl)
  begins_of tag state e limited fine st = cc

  pub judged-begins : sign.line_fill ≡ Words → (tag : Tag) (result : Result (Unit {0}) SyntaxError) (state : State) → begins_line tag ≡ true → IsLimited state → IsJudged sign laid (Does tag) result state
      → IsTagJudged true sign items (Does tag) result (record { state = state; split = None; order = 0 })
  judged-begins words tag (Err error) state e limited j = as_laid words tag ∙ j
  judged-begins words tag (Ok done) state e limited j = (as_laid words tag ∙ j.0, record { words = words; of = begins_of tag state e limited j.0 j.1 })

-- a character joins the group of an area with this page justification, where lines are filled to this width, as `FillsGroup` says it of the group
abbrev pub FillsArea : ℕ → ℕ → Area → Option Split → Character → Bool → Area → Option Split → Option Line → Type 0
FillsArea just width area split character space area' split' ended =
    (old new group : List Spot) (s : Spot) → width < 2 ^ 16 → All IsPlacing old → All IsPlacing group → area ≡ area_sum old → area.present ≤ just → IsFilledOn just width group s old new → IsCharacter s character → is_space s ≡ space
    → line_fits width (after_last is_break (filled (Some width) group)) ≡ true → list_any (clashes s) (after_last is_break (filled (Some width) group)) ≡ false → (area.present ≡ just → split ≡ split_sum (after_last is_break (filled (Some width) group)))
    → (area' ≡ area_sum new) × (split' ≡ split_sum (after_last is_break (filled (Some width) (group ++ s ∷ [])))) × EndsLine (filled (Some width) group) (filled (Some width) (group ++ s ∷ [])) ended × FitsBefore width area'.group.line

size_by : (fits big : Bool) → fits ≡ not big → first_code ((false, 11) ∷ (big, 5) ∷ []) ≡ cond fits None (Some 5)
size_by fits big e = search rules

module _ (sign : SignData) (items : List Meaning) (kept : Pass) (of : IsFilledOf sign items kept) where
  -- the next item stands where it does among the items as they are laid out
  here : standing sign (laid_items Words sign items items) ≡ standing sign items
  here = (are_laid Words sign items items [] (sym (append-nil items))).0

  pub attributes_here : kept.state.attributes ≡ attributes_of (standing sign items)
  attributes_here = of.state_is.attributes ∙ ap attributes_of here

  -- its cell is one of the font in force
  pub found_here : (number : ℕ) (c : SizedCell) → cell_in sign kept.state.attributes.font.number number ≡ Some c
      → (cell : CellData) × (cell_numbered (standing sign items).font number ≡ Some cell) × (c.width ≡ cell.width)
  found_here number c some = first_of (search (rules, cell_found, here), grind (arith, cell_found, here))

  -- it has none
  pub filled_undefined : (number : ℕ) → cell_in sign kept.state.attributes.font.number number ≡ None → offence Words sign items (Shows number) ≡ Some 7
  filled_undefined number none = first_of (search (rules, cell_missing, here, offends_without), grind (arith, cell_missing, here, offends_without))

  module _ (number : ℕ) (c : SizedCell) (some : cell_in sign kept.state.attributes.font.number number ≡ Some c) (clash : Bool)
      (clashing : (line : List Spot) (s : Spot) → order_of kept.order ≡ order_sum line → s.at.line_just ≡ kept.state.attributes.line_just → clash ≡ list_any (clashes s) line) where
    -- whether it conflicts is told by what is kept
    conflict_is : (cell : CellData) (found : cell_numbered (standing sign items).font number ≡ Some cell) → conflicts (spots sign items) (shown sign items number cell found)
        ≡ (nat_lt (page_number kept.state.attributes.page_just) kept.state.area.present || ((page_number kept.state.attributes.page_just == kept.state.area.present) && clash))
    conflict_is cell found = first_of (search (rules, attributes_here, conflicts_by, nat_lt, shown), grind (arith, attributes_here, conflicts_by, nat_lt, shown))

    -- it conflicts with what is before it
    pub filled_conflict : (nat_lt (page_number kept.state.attributes.page_just) kept.state.area.present || ((page_number kept.state.attributes.page_just == kept.state.area.present) && clash)) ≡ true
        → offence Words sign items (Shows number) ≡ Some 11
    filled_conflict is =
        let (cell, found, width) = found_here number c some in
        offends_by sign items number cell found ∙ ap (λ b. first_code ((b, 11) ∷ (doesn't_fit sign items number cell found, 5) ∷ [])) (conflict_is cell found ∙ is)

    -- or it doesn't
    pub filled_free : (nat_lt (page_number kept.state.attributes.page_just) kept.state.area.present || ((page_number kept.state.attributes.page_just == kept.state.area.present) && clash)) ≡ false
        → unsized_offence sign items (Shows number) ≡ None
    filled_free is =
        let (cell, found, width) = found_here number c some in
        offence-character never_big sign items number cell found ∙ ap {B = Option ℕ} (λ b. cond b (Some 11) None) (conflict_is cell found ∙ is)

  module _ (number : ℕ) (c : SizedCell) (some : cell_in sign kept.state.attributes.font.number number ≡ Some c) where
    -- what is read of it is what it is
    pub shown_character : (cell : CellData) (found : cell_numbered (standing sign items).font number ≡ Some cell) → c.width ≡ cell.width
        → (character : Character) → character.just ≡ kept.state.attributes.line_just → character.spacing ≡ kept.state.attributes.spacing → character.width ≡ c.width → character.font ≡ kept.state.attributes.font
        → IsCharacter (shown sign items number cell found) character
    shown_character cell found width character just spacing wide font = search (rules, attributes_here)

    -- what `Area::fill_character` says of the area and the split after it, by its page justification and the width of its rectangle
    abbrev pub Fills : Character → Bool → Area → Option Split → Option Line → ℕ → ℕ → Type 0
    Fills character space area' split' ended just width = FillsArea just width kept.state.area kept.split character space area' split' ended

    module _ (cell : CellData) (found : cell_numbered (standing sign items).font number ≡ Some cell) (apart : conflicts (spots sign items) (shown sign items number cell found) ≡ false)
        (character : Character) (is : IsCharacter (shown sign items number cell found) character) (space : Bool) (spaces : is_space (shown sign items number cell found) ≡ space)
        (area' : Area) (split' : Option Split) (ended : Option Line) (fills : Fills character space area' split' ended (page_number kept.state.attributes.page_just) kept.state.attributes.rectangle.width) where
      pub filled_grown : (area' ≡ area_sum (area_with sign items number cell found))
          × (split' ≡ split_sum (after_last is_break (filled (Some (standing sign items).rectangle.width) (group_of (shown sign items number cell found) (spots sign items) ++ shown sign items number cell found ∷ []))))
          × EndsLine (filled (Some (standing sign items).rectangle.width) (group_of (shown sign items number cell found) (spots sign items)))
          (filled (Some (standing sign items).rectangle.width) (group_of (shown sign items number cell found) (spots sign items) ++ shown sign items number cell found ∷ [])) ended
          × FitsBefore (standing sign items).rectangle.width area'.group.line
      filled_grown =
          let all = spots sign items in
          let s : Spot = shown sign items number cell found in
          let small = subst (λ (a : Attributes). IsSmall a.rectangle) attributes_here of.state_is.small in
          let laid = laid_items Words sign items items in
          let behind : Spot = record { at = standing sign laid; put = Glyph cell } in
          let placing = placing_group (page_number s.at.page_just) (area_of s all) (area_placing all s) in
          let fills' : Fills character space area' split' ended (page_number s.at.page_just) s.at.rectangle.width = subst (λ (a : Attributes). Fills character space area' split' ended (page_number a.page_just) a.rectangle.width) attributes_here fills in
          fills' (present_area sign laid) (area_with sign items number cell found) (group_of s all) s small.0
          (area_placing (spots sign laid) behind) placing of.state_is.area
          (no_back all s (page_number s.at.page_just) kept.state.area.present refl (present_is sign items number cell found kept.state of.state_is) apart)
          (goes_behind sign items number cell found apart) is spaces (of.fits (page_number s.at.page_just))
          (no_clash_filled s.at.rectangle.width (group_of s all) s placing (no_clash all s (page_number s.at.page_just) refl refl apart))
          (λ e. of.split_is ∙ ap (λ j. split_sum (after_last is_break (filled (Some s.at.rectangle.width) (in_group j (present_area sign items))))) e)

      -- its size is told by the limits that are kept then: its groups before the present one fit, since they did without it
      pub filled_size : (limits' : Limits) →
          let new : State = record kept.state { area = area'; limits = limits' } in
          IsLimited new → (is_within new ≡ not (doesn't_fit sign items number cell found)) × (offence Words sign items (Shows number) ≡ cond (is_within new) None (Some 5))
      filled_size limits' limited =
          let s : Spot = shown sign items number cell found in
          let page = page_number s.at.page_just in
          let more = laid_items Words sign (items ++ Shows number ∷ []) (items ++ Shows number ∷ []) in
          let new = area_with sign items number cell found in
          let on = goes_behind sign items number cell found apart in
          let (sum, split, ends, fitted) = filled_grown in
          let present : area'.present ≡ page = ap (λ (a : Area). a.present) sum ∙ on.last in
          let low : 2 ≤ area'.present = omega (arith, present, (page_number_known s.at.page_just).0) in
          let placing = area_placing (spots sign more) (record { at = standing sign more; put = Glyph cell }) in
          let here = kept.state.attributes.rectangle in
          let fits_without = subst (λ (a : Attributes). area_fits a.rectangle.height (present_area sign (laid_items Words sign items items)) ≡ true) (sym of.state_is.attributes) of.area_fits in
          let above = groups_fit_before here.height (present_area sign (laid_items Words sign items items)) new page on.others area' sum placing present fits_without in
          let line_is : area'.group.line ≡ line_sum (after_last is_break (in_group page new)) =
          ap (λ (a : Area). a.group.line) sum ∙ ap (λ j. line_sum (after_last is_break (in_group j new))) on.last in
          let before = subst (λ (a : Attributes). FitsBefore a.rectangle.width area'.group.line) (sym attributes_here) fitted in
          let wide = open_told (after_last is_break (in_group page new)) area'.group.line here.width limits'.width of.state_is.small.0 (present_glyphs page new placing) line_is before limited.width in
          let high = area_told new area' here.height limits'.height of.state_is.small.1 sum placing low above (limited.height low) in
          let fits = (λ i. wide i && high i) ∙ ap (λ (a : Attributes). line_fits a.rectangle.width (after_last is_break (in_group page new)) && area_fits a.rectangle.height new) attributes_here
          ∙ both_fit (line_fits s.at.rectangle.width (after_last is_break (in_group page new))) (area_fits s.at.rectangle.height new) in (
            fits,
            offends_by sign items number cell found
                ∙ ap (λ b. first_code ((b, 11) ∷ (doesn't_fit sign items number cell found, 5) ∷ [])) apart
                ∙ size_by (is_within (record kept.state { area = area'; limits = limits' })) (doesn't_fit sign items number cell found) fits,
          )
