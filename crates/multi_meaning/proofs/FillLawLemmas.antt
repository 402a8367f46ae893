-- One more character breaks its line at an earlier space: the items before it are laid out as they were, but that space.
use Rattle.multi_meaning.proofs.Common.{◌≡◌, ◌⊎◌, inl, inr, ℕ, ◌<◌, ◌≤◌, Bool, true, false, cond, List, [], ◌∷◌, ◌++◌, length, Some, None, refl, sym, ap, ◌∙◌, arith, append_assoc, append-nil, length-append, slice_index_or, option_map, map, Option, subst, AllPass, count_by, All, take-append_seam, cases_Bool, get_or_append_left, get_or_at, length_push, All-head, All-cons, sum_by-append, NewLine, page_number, LineFill, Words, Off, SignData, CellData, cell_numbered, Glyph, Spot, is_break, is_glyph, put_at, spots, standing, group_of, dropped, filled, is_space, CutAt, cut_at_last, laid_spot, fill_at, laid_items, laid_of, Does, Meaning, Shows, meaning, each_after, line_fits, IsPlacing, set_at, get_or-set_other, length-filter}
use Rattle.multi_tag.proofs.JustLemmas.{same_page_just}
use Rattle.multi_meaning.proofs.GroupLemmas.{found_cell, glyph_put, glyphs_around, spaces_is}
use Rattle.multi_meaning.proofs.LaidItemLemmas.{HasFill, group_laid, group_whole, has_place, is_member, laid_as, member_at, members, members_push, own_member, there, whole_length, are_laid, among, other_leaves, same_fill, with_it, members_placing, laid_nothing, laid_placing, laid_tag}
use Rattle.multi_meaning.proofs.FillLemmas.{glyph_none, breaks, drops, stands, stays, ended, filled_is, open_line, open_line_glyphs, open_line_is}
use Rattle.multi_meaning.proofs.StandingLemmas.{spots_behind, spots_more, spots_nothing, spots_split, spots_with}
use Rattle.multi_meaning.proofs.WordLemmas.{cases_Option, each_after_push, front_ind, is_cut}
use Rattle.multi_meaning.specs.FillLaw.{KeepsBreaks}
use Rattle.multi_meaning.proofs.RoomLemmas.{OpenLinesFit, open_lines_fit}

-- a list with another item in one place, and more after it, is the same in every other place
get_other : (xs ys zs : List Spot) (a b d : Spot) (n : ℕ) → (n ≡ length xs → ⊥) → n < length (xs ++ a ∷ ys) → slice_index_or (xs ++ b ∷ (ys ++ zs)) n d ≡ slice_index_or (xs ++ a ∷ ys) n d
get_other xs ys zs a b d n other within =
    grind (arith, set_at xs a (ys ++ zs) b (length xs) refl, get_or-set_other (xs ++ a ∷ (ys ++ zs)) (length xs) n b d other, append_assoc xs (a ∷ ys) zs, get_or_append_left (xs ++ a ∷ ys) zs d n within)

-- one more item breaks a line: all items are laid out as they were, but one space on the line of the new one
abbrev pub BreaksLine : LineFill → SignData → List Meaning → Meaning → Type 0
BreaksLine setting sign items next =
    let old = laid_items setting sign items items in
    let here = standing sign items in
    let ended = λ (laid : List Meaning). count_by is_break (members here.area (page_number here.page_just) (spots sign laid)) in
    (front : List Meaning) × (behind : List Meaning) × (old ++ next ∷ [] ≡ front ++ Shows 32 ∷ behind)
    × (laid_items setting sign (items ++ next ∷ []) (items ++ next ∷ []) ≡ front ++ Does (NewLine None) ∷ behind)
    × ((standing sign front).area ≡ here.area) × ((standing sign front).page_just ≡ here.page_just) × (ended front ≡ ended old)

-- with a character, its filled group differs in one space, which is dropped now
module _ (sign : SignData) (items : List Meaning) (number : ℕ) (cell : CellData) (found : cell_numbered (standing sign items).font number ≡ Some cell) where
  abbrev pub s : Spot
  s = record { at = standing sign items; put = Glyph cell }

  abbrev all : List Spot
  all = spots sign items

  abbrev pub width : ℕ
  width = s.at.rectangle.width

  abbrev own : List Spot → List Spot
  own l = members s.at.area (page_number s.at.page_just) l

  abbrev is_own : Spot → Bool
  is_own x = is_member s.at.area (page_number s.at.page_just) x

  same : HasFill Words (Some width) s.at.area all
  same = same_fill Words sign items

  -- how many spots of its group these items put
  abbrev count : List Meaning → ℕ
  count some = length (own (spots sign some))

  -- the items as they are laid out, and as they are with the character
  abbrev before' : List Meaning → Meaning → Meaning
  before' = among Words sign all

  abbrev after' : List Meaning → Meaning → Meaning
  after' = among Words sign (all ++ s ∷ [])

  module _ (closed : List Spot) (space : Spot) (open' : List Spot) (old : filled (Some width) (own all) ≡ closed ++ space ∷ open')
      (new : filled (Some width) (own (all ++ s ∷ [])) ≡ closed ++ dropped space ∷ (open' ++ s ∷ [])) (is_sp : is_space space ≡ true) (glyphs : AllPass is_glyph (space ∷ open')) where
    laid_new : (some behind : List Spot) (x : Spot) → all ++ s ∷ [] ≡ some ++ x ∷ behind → is_own x ≡ true
        → laid_spot Words (all ++ s ∷ []) some x ≡ slice_index_or (closed ++ dropped space ∷ (open' ++ s ∷ [])) (length (own some)) x
    laid_new some behind x is m = with_it Words all s same some behind x is m
        ∙ ap (λ l. slice_index_or l (length (own some)) x) new

    size : length (own all) ≡ length (closed ++ space ∷ open')
    size = whole_length Words all s.at.area (page_number s.at.page_just) (Some width) same ∙ ap length old

    -- an item that stays as it is laid, before the space or after it
    record Stays (some : List Meaning) (x : Meaning) : Type 0 where
      same' : after' some x ≡ before' some x
      least : count some ≤ count (some ++ x ∷ [])
      most : count some ≤ length closed → count (some ++ x ∷ []) ≤ length closed

    -- the space, which stands on the line of the character and ends it now
    record Breaks (some : List Meaning) (x : Meaning) : Type 0 where
      place : count some ≡ length closed
      next : length closed < count (some ++ x ∷ [])
      area : (standing sign some).area ≡ s.at.area
      just : page_number (standing sign some).page_just ≡ page_number s.at.page_just
      was : before' some x ≡ Shows 32
      ends : after' some x ≡ Does (NewLine None)

    one_item : (some behind : List Meaning) (x : Meaning) → items ≡ some ++ x ∷ behind → Stays some x ⊎ Breaks some x
    one_item some behind x is = elim (cases_Option (put_at sign.defaults (standing sign some) x)) [
      | inl none ↦ grind (arith, none, spots_nothing sign some x none)
      | inr (put, puts) ↦
          let t : Spot = record { at = standing sign some; put = put } in
          let front = spots sign some in
          let rest = spots_behind sign (some ++ x ∷ []) behind in
          let split : all ≡ front ++ t ∷ rest = ap (spots sign) is ∙ spots_with sign some x behind put puts in
          let longer = ap (λ l. l ++ s ∷ []) split ∙ append_assoc front (t ∷ rest) (s ∷ []) in
          let grows = spots_more sign some x put puts in
          let own_grows = members_push s.at.area (page_number s.at.page_just) front t in
          elim (cases_Bool (is_own t)) [
            | inr apart ↦ grind (arith, puts, grows, own_grows false apart, append-nil, other_leaves Words all s front t apart)
            | inl m ↦
                let within = has_place all s.at.area (page_number s.at.page_just) front rest t split m in
                let old_at = there Words all s.at.area (page_number s.at.page_just) (Some width) same front rest t split m in
                let new_at = laid_new front (rest ++ s ∷ []) t longer m in
                let get_other' = get_other closed open' (s ∷ []) space (dropped space) t (length (own front)) in
                let All_head' = All-head (λ x. is_glyph x ≡ true) space open' glyphs in
                let member_at' = member_at s.at.area (page_number s.at.page_just) t m in
                let found_cell' = found_cell (standing sign some).font.cells in
                let laid_as' = laid_as Words all front rest t split in
                grind (arith, puts, grows, own_grows true m, length_push, within, size, old, old_at, new_at, get_other', get_or_at, laid_as', is_sp, member_at', glyph_put, All_head', found_cell')
          ]
    ]

    -- these items as far as the space, and after it
    record Broken (some : List Meaning) : Type 0 where
      late : length closed < count some
      front : List Meaning
      item : Meaning
      more : List Meaning
      behind : List Meaning
      is : some ≡ front ++ item ∷ more
      breaks : Breaks front item
      was_all : each_after before' some ≡ each_after before' front ++ Shows 32 ∷ behind
      are : each_after after' some ≡ each_after before' front ++ Does (NewLine None) ∷ behind

    abbrev SoFar : List Meaning → Type 0
    SoFar some = ((count some ≤ length closed) × (each_after after' some ≡ each_after before' some)) ⊎ Broken some

    one_more : (some behind : List Meaning) (x : Meaning) → items ≡ some ++ x ∷ behind → SoFar some → SoFar (some ++ x ∷ [])
    one_more some behind x is so_far = grind (arith, each_after_push before' some x, each_after_push after' some x, one_item some behind x is, append_assoc)

    is_broken : Broken items
    unfolding spots
    is_broken =
        let front_ind' = front_ind items SoFar (inl (omega arith, refl)) (λ some more x is h. one_more some more x is h) items [] (sym (append-nil items)) in
        grind (arith, front_ind', size, length-append closed (space ∷ open'))

    -- the character itself stands
    last_stands : after' items (Shows number) ≡ Shows number
    last_stands =
        let size' = length-append closed (space ∷ open') in
        grind (arith, found, laid_new all [] s refl (own_member s refl), get_or_at (closed ++ dropped space ∷ open') s [] s (length (own all)), size, size', length-append closed (dropped space ∷ open'), append_assoc)

    pub breaks_line : BreaksLine Words sign items (Shows number)
    breaks_line =
        let b = is_broken in
        let front = each_after before' b.front in
        let here = are_laid Words sign items b.front (b.item ∷ b.more) b.is in
        let split = ap (spots sign) b.is ∙ spots_split sign b.front (b.item ∷ b.more) in
        let front_is : own (spots sign front) ≡ closed =
        grind (arith, here, group_laid Words all s.at.area (page_number s.at.page_just) (Some width) same (spots sign b.front) _ split, b.breaks.place, old, take-append_seam) in
        let whole_is : own (spots sign (laid_items Words sign items items)) ≡ closed ++ space ∷ open' =
        let group_whole' = group_whole Words all s.at.area (page_number s.at.page_just) (Some width) same in
        grind (arith, are_laid Words sign items items [], append-nil, group_whole', old) in
        let new_all : laid_items Words sign (items ++ Shows number ∷ []) (items ++ Shows number ∷ []) ≡ each_after after' items ++ Shows number ∷ [] = grind (arith, spots_more sign items (Shows number) (Glyph cell), found, each_after_push after' items (Shows number), last_stands) in
        let counts = sum_by-append (λ x. cond (is_break x) 1 0) closed (space ∷ open') in
        (front, b.behind ++ Shows number ∷ [], grind (arith, b.was_all, append_assoc), grind (arith, new_all, b.are, append_assoc), grind (arith, here, b.breaks.area), grind (arith, here, same_page_just, b.breaks.just), grind (arith, front_is, whole_is, counts, length-filter is_break (space ∷ open'), glyph_none (space ∷ open') glyphs))

-- what the law says of one more item, by the setting
abbrev Kept : LineFill → SignData → List Meaning → Meaning → Type 0
Kept setting sign items next = (laid_items setting sign (items ++ next ∷ []) (items ++ next ∷ []) ≡ laid_items setting sign items items ++ next ∷ []) ⊎ BreaksLine setting sign items next

module _ (sign : SignData) (items : List Meaning) (number : ℕ) (cell : CellData) (found : cell_numbered (standing sign items).font number ≡ Some cell) where
  abbrev c : Spot
  c = record { at = standing sign items; put = Glyph cell }

  abbrev w : ℕ
  w = c.at.rectangle.width

  -- the group of the character
  abbrev g : List Spot
  g = group_of c (spots sign items)

  placing : All IsPlacing g
  placing = members_placing c.at.area (page_number c.at.page_just) (spots sign items)

  -- the filled group grows by this
  grown : (setting : LineFill) (y : Spot) → filled (fill_at setting c.at) (g ++ c ∷ []) ≡ filled (fill_at setting c.at) g ++ y ∷ []
      → laid_items setting sign (items ++ Shows number ∷ []) (items ++ Shows number ∷ []) ≡ laid_items setting sign items items ++ laid_of (Shows number) (Some y) ∷ []
  grown setting y is = laid_placing setting sign items (Shows number) (Glyph cell) y (ap (option_map Glyph) found) (own_member c refl) is

  -- it is a space, and is dropped
  dropped_itself : is_space c ≡ true → laid_items Words sign (items ++ Shows number ∷ []) (items ++ Shows number ∷ []) ≡ laid_items Words sign items items ++ Does (NewLine None) ∷ [] → Kept Words sign items (Shows number)
  dropped_itself space new = grind (arith, are_laid Words sign items items, append-nil items, spaces_is sign items number cell found)

  -- the line is broken at its last space
  broken : line_fits w (open_line w g) ≡ true → (k : CutAt Spot) → line_fits w (open_line w g ++ c ∷ []) ≡ false → is_space c ≡ false → cut_at_last is_space (open_line w g) ≡ Some k → Kept Words sign items (Shows number)
  broken fits k wide word cut =
      let at = is_cut is_space (open_line w g) k cut in
      let around = glyphs_around k.before k.item k.behind (subst (AllPass is_glyph) at.parts (open_line_glyphs w g placing)) in
      let own = members_push c.at.area (page_number c.at.page_just) (spots sign items) c true (own_member c refl) in
      inr (breaks_line sign items number cell found (ended w g ++ k.before) k.item k.behind (grind (arith, filled_is w g placing, at.parts, append_assoc)) (grind (arith, own, breaks w g c placing refl fits k wide word cut, append_assoc)) at.passes (grind (arith, All-cons, around, at.passes)))

  filled_shown : line_fits w (open_line w g) ≡ true → Kept Words sign items (Shows number)
  filled_shown fits = elim (cases_Bool (line_fits w (open_line w g ++ c ∷ []))) [
    | inl same ↦ inl (grown Words c (stands w g c placing refl fits same))
    | inr wide ↦ elim (cases_Bool (is_space c)) [
      | inl space ↦ dropped_itself space (grown Words (dropped c) (drops w g c placing refl fits wide space))
      | inr word ↦ grind (arith, cases_Option (cut_at_last is_space (open_line w g)), grown Words c, stays w g c placing refl fits wide word, broken fits)
    ]
  ]

-- a character that has no cell is laid out as itself, since it puts nothing
shown_by : (setting : LineFill) (sign : SignData) (items : List Meaning) (number : ℕ) → (setting ≡ Words → OpenLinesFit sign items) → (o : Option CellData) → cell_numbered (standing sign items).font number ≡ o → Kept setting sign items (Shows number)
shown_by setting sign items number fits None found = inl (laid_nothing setting sign items (Shows number) (ap (option_map Glyph) found))
shown_by Off sign items number fits (Some cell) found = inl (grown sign items number cell found Off (record { at = standing sign items; put = Glyph cell }) refl)
shown_by Words sign items number fits (Some cell) found = filled_shown sign items number cell found (grind (arith, open_line_is, members_placing, fits refl (page_number (standing sign items).page_just)))

kept : (setting : LineFill) (sign : SignData) (items : List Meaning) (x : Meaning) → (setting ≡ Words → OpenLinesFit sign items) → Kept setting sign items x
kept setting sign items x fits = grind (arith, shown_by, laid_tag, laid_nothing)

pub keeps_breaks : KeepsBreaks
keeps_breaks sign before item none = kept sign.line_fill sign (map meaning before) (meaning item) (λ words. open_lines_fit sign words before none)
