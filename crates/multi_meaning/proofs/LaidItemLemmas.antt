-- The laid spots of a group are the group, filled.
use Rattle.multi_meaning.proofs.Common.{◌≡◌, ℕ, ◌<◌, Bool, true, cond, ◌&&◌, ◌||◌, ◌==◌, List, [], ◌∷◌, ◌++◌, length, take, Option, refl, sym, ap, ◌∙◌, arith, length-append, append-nil, slice_index_or, Some, inl, inr, false, None, append_assoc, option_map, ◌≤◌, not, eq-eqb, get_or_at, take_all, length_push, get_or_append_left, filter-append, All-push, cons_option, after_last, nat_tests, page_number, LineFill, SignData, cell_numbered, Tag, NewPage, NewLine, Back, Off, Words, Spot, is_glyph, is_break, in_group, in_area, Put, standing, spots, spot_at, put_at, group_of, Break, Glyph, area_of, IsPlacing, standing_behind, filled, fill_at, laid_spot, laid, too_big, Meaning, Does, Shows, laid_item, laid_items, laid_of, largest, line_fits, offence, offence_by, All, take_more, AllZip-get_or, length_all_zip, IsFilledOn}
use Rattle.multi_meaning.proofs.WordLemmas.{All-around, each_after_push, front_ind, cases_Option, each_same, All-split, largest_push, group_goes_back}
use Rattle.multi_meaning.proofs.GroupLemmas.{placing_group, in_area_placing}
use Rattle.multi_meaning.proofs.FillLemmas.{LaidAs, filled_laid, filled_behind}
use Rattle.multi_meaning.proofs.StandingLemmas.{spots_push, spots_with, standing_push, spots_more, spots_nothing, spots_placed}
use Rattle.multi_meaning.specs.internal.Fits as plain

-- the spots of a group of an area
abbrev pub members : ℕ → ℕ → List Spot → List Spot
members a j spots = in_group j (in_area a spots)

abbrev pub in_areas : ℕ → Spot → Bool
in_areas a t = (is_glyph t || is_break t) && (t.at.area == a)

abbrev pub is_member : ℕ → ℕ → Spot → Bool
is_member a j t = in_areas a t && (page_number t.at.page_just == j)

members-append : (a j : ℕ) (xs ys : List Spot) → members a j (xs ++ ys) ≡ members a j xs ++ members a j ys
members-append a j xs ys = grind (arith, filter-append)

pub members_push : (a j : ℕ) (xs : List Spot) (x : Spot) (b : Bool) → is_member a j x ≡ b → members a j (xs ++ x ∷ []) ≡ members a j xs ++ cond b (x ∷ []) []
members_push a j xs x b e = members-append a j xs (x ∷ []) ∙ grind (arith, e)

-- the members with one of them in its place
pub members_with : (a j : ℕ) (xs ys : List Spot) (x : Spot) → is_member a j x ≡ true → members a j (xs ++ x ∷ ys) ≡ members a j xs ++ x ∷ members a j ys
members_with a j xs ys x e = grind (arith, members-append)

-- a laid spot is in the group of its spot
pub same_member : (a j : ℕ) (x y : Spot) → LaidAs x y → is_member a j y ≡ is_member a j x
same_member a j x y as' = grind arith

-- a spot of a group is of its area and has its page justification
pub member_at : (a j : ℕ) (x : Spot) → is_member a j x ≡ true → (x.at.area ≡ a) × (page_number x.at.page_just ≡ j)
member_at a j x member = grind arith

pub own_member : (x : Spot) → is_glyph x ≡ true → is_member x.at.area (page_number x.at.page_just) x ≡ true
own_member x glyph = rw (glyph, eq-eqb x.at.area x.at.area refl, eq-eqb (page_number x.at.page_just) (page_number x.at.page_just) refl) refl

-- a group is of placing items
pub members_placing : (a j : ℕ) (all : List Spot) → All IsPlacing (members a j all)
members_placing a j all = placing_group j (in_area a all) (in_area_placing a all)

-- the lines of an area are filled alike
abbrev pub HasFill : LineFill → Option ℕ → ℕ → List Spot → Type 0
HasFill setting fill a all = All (λ (x : Spot). x.at.area ≡ a → fill_at setting x.at ≡ fill) all

module _ (all : List Spot) (a j : ℕ) (some more : List Spot) (x : Spot) (is : all ≡ some ++ x ∷ more) (member : is_member a j x ≡ true) where
  split : members a j all ≡ members a j some ++ x ∷ members a j more
  split = ap (members a j) is ∙ members_with a j some more x member

  -- a spot of a group has a place in it
  pub has_place : length (members a j some) < length (members a j all)
  has_place = omega (arith, ap length split, length-append (members a j some) (x ∷ members a j more))

  -- in which the filled group has it, or a dropped space
  in_place : (fill : Option ℕ) → LaidAs x (slice_index_or (filled fill (members a j all)) (length (members a j some)) x)
  in_place fill =
      let AllZip_get_or' = AllZip-get_or LaidAs (members a j all) (filled fill (members a j all)) (length (members a j some)) x x in
      grind (arith, split, get_or_at, AllZip_get_or', filled_laid, members_placing, has_place)

module _ (setting : LineFill) (all : List Spot) where
  -- a spot of the string is laid as itself or as a dropped space
  pub laid_as : (some more : List Spot) (x : Spot) → all ≡ some ++ x ∷ more → LaidAs x (laid_spot setting all some x)
  laid_as some more x is = grind (arith, in_place)

  module _ (a j : ℕ) (fill : Option ℕ) (same : HasFill setting fill a all) where
    -- the group, filled
    abbrev whole : List Spot
    whole = filled fill (members a j all)

    -- a spot of the group is laid as the item in its place in the filled group
    pub there : (some more : List Spot) (x : Spot) → all ≡ some ++ x ∷ more → is_member a j x ≡ true → laid_spot setting all some x
        ≡ slice_index_or (filled fill (members a j all)) (length (members a j some)) x
    there some more x is member = grind (arith, All-around, in_place)

    -- it has as many items
    pub whole_length : length (members a j all) ≡ length (filled fill (members a j all))
    whole_length = length_all_zip LaidAs (members a j all) whole (filled_laid fill (members a j all) (members_placing a j all))

    -- the laid spots of a group, as far as some spots go, are as many of the group as it is filled
    pub group_laid : (some more : List Spot) → all ≡ some ++ more → members a j (laid setting all some)
        ≡ take (length (members a j some)) (filled fill (members a j all))
    group_laid = front_ind all (λ some. members a j (laid setting all some) ≡ take (length (members a j some)) whole) refl (λ some more x is ih.
        let y = laid_spot setting all some x in
        let push = members_push a j (laid setting all some) y (is_member a j y) refl in
        ap (members a j) (each_after_push (laid_spot setting all) some x)
        ∙ grind (arith, push, same_member a j x y (laid_as some more x is), ih, there some more x is, take_more whole (length (members a j some)) x, has_place all a j some more x is, whole_length, length_push (members a j some) x, members_push a j some x (is_member a j x) refl, append-nil))

    -- all of them are the group, filled
    pub group_whole : members a j (laid setting all all) ≡ filled fill (members a j all)
    group_whole = group_laid all [] (sym (append-nil all)) ∙ ap (λ n. take n whole) whole_length ∙ take_all (length whole) whole (omega arith)

module _ (setting : LineFill) (sign : SignData) where
  -- the same is in force after them, and what they put is laid as it is in the string
  abbrev AreLaid : List Meaning → List Meaning → Type 0
  AreLaid all some = (standing sign (laid_items setting sign all some) ≡ standing sign some) × (spots sign (laid_items setting sign all some) ≡ laid setting (spots sign all) (spots sign some))

  one_laid : (all some more : List Meaning) (x : Meaning) → all ≡ some ++ x ∷ more → let y = laid_item setting sign all some x in
      (standing_behind sign (standing sign some) y ≡ standing_behind sign (standing sign some) x)
      × (laid setting (spots sign all) (spots sign some) ++ cons_option (spot_at sign.defaults (standing sign some) y) [] ≡ laid setting (spots sign all) (spots sign some ++ cons_option (spot_at sign.defaults (standing sign some) x) []))
  one_laid all some more x is = elim (cases_Option (put_at sign.defaults (standing sign some) x)) [
    | inl none ↦ grind (arith, none, append-nil)
    | inr (put, e) ↦
        let s : Spot = record { at = standing sign some; put = put } in
        let each_after_push' = each_after_push (laid_spot setting (spots sign all)) (spots sign some) s in
        grind (arith, e, laid_as setting (spots sign all) (spots sign some) _ s (ap (spots sign) is ∙ spots_with sign some x more put e), each_after_push')
  ]

  pub are_laid : (all some more : List Meaning) → all ≡ some ++ more → AreLaid all some
  unfolding spots
  are_laid all = front_ind all (AreLaid all) (refl, refl) (λ some more x is (stands, put).
      let y = laid_item setting sign all some x in
      let standing_push' = standing_push sign (laid_items setting sign all some) y in
      let spots_push' = spots_push sign (laid_items setting sign all some) y in
      let each_after_push'' = each_after_push (laid_item setting sign all) some x in
      let one_laid' = one_laid all some more x is in
      grind (arith, one_laid', each_after_push'', standing_push', standing_push sign some x, spots_push', spots_push sign some x, stands, put))

module _ (setting : LineFill) (all : List Spot) (s : Spot) where
  -- one more spot leaves this one of the string where it is laid
  abbrev pub Leaves : List Spot → Spot → Type 0
  Leaves some x = laid_spot setting (all ++ s ∷ []) some x ≡ laid_spot setting all some x

  -- and all of them
  abbrev pub LeavesAll : Type 0
  LeavesAll = (some more : List Spot) (x : Spot) → all ≡ some ++ x ∷ more → Leaves some x

  -- it leaves what is in a group to which it doesn't belong
  group_stays : (some : List Spot) (x : Spot) → is_member x.at.area (page_number x.at.page_just) s ≡ false → Leaves some x
  group_stays some x none = grind (arith, members_push x.at.area (page_number x.at.page_just) all s false none, append-nil (group_of x all))

  -- and so one that isn't in its group
  pub other_leaves : (some : List Spot) (x : Spot) → is_member s.at.area (page_number s.at.page_just) x ≡ false → Leaves some x
  other_leaves some x apart = grind (arith, group_stays)

  -- a spot of no group leaves all others
  pub unplaced_leaves : is_glyph s ≡ false → is_break s ≡ false → LeavesAll
  unplaced_leaves glyph break some more x is = group_stays some x (rw (glyph, break) refl)

  module _ (same : HasFill setting (fill_at setting s.at) s.at.area all) where
    size : length (group_of s all) ≡ length (filled (fill_at setting s.at) (group_of s all))
    size = whole_length setting all s.at.area (page_number s.at.page_just) (fill_at setting s.at) same

    -- a spot of its group, by its place in the filled group with the new one
    pub with_it : (some more : List Spot) (x : Spot) → all ++ s ∷ [] ≡ some ++ x ∷ more → is_member s.at.area (page_number s.at.page_just) x ≡ true
        → laid_spot setting (all ++ s ∷ []) some x ≡ slice_index_or (filled (fill_at setting s.at) (group_of s (all ++ s ∷ []))) (length (group_of s some)) x
    with_it = there setting (all ++ s ∷ []) s.at.area (page_number s.at.page_just) (fill_at setting s.at) (All-push (λ (x : Spot). x.at.area ≡ s.at.area → fill_at setting x.at ≡ fill_at setting s.at) all s same (λ e. refl))

    module _ (s' : Spot) (member : is_member s.at.area (page_number s.at.page_just) s ≡ true)
        (grows : filled (fill_at setting s.at) (group_of s (all ++ s ∷ [])) ≡ filled (fill_at setting s.at) (group_of s all) ++ s' ∷ []) where
      -- it leaves all others
      pub placed_leaves : LeavesAll
      placed_leaves some more x is = grind (arith, other_leaves, with_it, get_or_append_left, has_place, size, there, append_assoc)

      -- and is laid itself as the last of its group
      pub laid_last : laid_spot setting (all ++ s ∷ []) all s ≡ s'
      laid_last = grind (arith, with_it, get_or_at, size)

module _ (setting : LineFill) (sign : SignData) where
  -- an item as it is laid out among these spots
  abbrev pub among : List Spot → List Meaning → Meaning → Meaning
  among all before item = laid_of item (option_map (laid_spot setting all (spots sign before)) (spot_at sign.defaults (standing sign before) item))

  -- an item that puts nothing
  pub laid_nothing : (items : List Meaning) (x : Meaning) → put_at sign.defaults (standing sign items) x ≡ None → laid_items setting sign (items ++ x ∷ []) (items ++ x ∷ []) ≡ laid_items setting sign items items ++ x ∷ []
  laid_nothing items x none = grind (arith, each_after_push, spots_nothing)

  -- one that leaves the others where they are laid, and is laid itself as this spot
  pub laid_behind : (items : List Meaning) (x : Meaning) (put : Put) (y : Spot) → put_at sign.defaults (standing sign items) x ≡ Some put
      → LeavesAll setting (spots sign items) (record { at = standing sign items; put = put })
      → laid_spot setting (spots sign items ++ record { at = standing sign items; put = put } ∷ []) (spots sign items) (record { at = standing sign items; put = put }) ≡ y
      → laid_items setting sign (items ++ x ∷ []) (items ++ x ∷ []) ≡ laid_items setting sign items items ++ laid_of x (Some y) ∷ []
  laid_behind items x put y puts leaves last =
      let all = spots sign items ++ record { at = standing sign items; put = put } ∷ [] in
      let stay = each_same (among all) (among (spots sign items)) items
      (λ some more z is. elim (cases_Option (put_at sign.defaults (standing sign some) z)) [
        | inl none ↦ rw none refl
        | inr (p, e) ↦ rw e (ap (λ y. laid_of z (Some y)) (leaves (spots sign some) _ (record { at = standing sign some; put = p }) (ap (spots sign) is
            ∙ spots_with sign some z more p e)))
      ]) in
      grind (arith, each_after_push (among all) items x, spots_more sign items x put puts, stay, puts, last)

module _ (setting : LineFill) (sign : SignData) (items : List Meaning) where
  abbrev spot_of : Put → Spot
  spot_of put = record { at = standing sign items; put = put }

  -- the spots of the area in which the next item stands are filled as it would be
  pub same_fill : HasFill setting (fill_at setting (standing sign items)) (standing sign items).area (spots sign items)
  same_fill = grind (arith, spots_placed)

  -- a placing item after whose group goes this spot, as it is filled, is laid as this spot
  pub laid_placing : (x : Meaning) (put : Put) (y : Spot) → put_at sign.defaults (standing sign items) x ≡ Some put → is_member (standing sign items).area (page_number (standing sign items).page_just) (spot_of put) ≡ true
      → filled (fill_at setting (standing sign items)) (group_of (spot_of put) (spots sign items) ++ spot_of put ∷ []) ≡ filled (fill_at setting (standing sign items)) (group_of (spot_of put) (spots sign items)) ++ y ∷ []
      → laid_items setting sign (items ++ x ∷ []) (items ++ x ∷ []) ≡ laid_items setting sign items items ++ laid_of x (Some y) ∷ []
  laid_placing x put y puts member is =
      let all = spots sign items in
      let grows = members_push (standing sign items).area (page_number (standing sign items).page_just) all (spot_of put) true member in
      let placed_leaves' = placed_leaves setting all (spot_of put) same_fill y member in
      grind (arith, grows, is, laid_behind setting sign items x put y puts, placed_leaves', laid_last setting all (spot_of put) same_fill y member)

  pub laid_tag : (tag : Tag) → laid_items setting sign (items ++ Does tag ∷ []) (items ++ Does tag ∷ []) ≡ laid_items setting sign items items ++ Does tag ∷ []
  laid_tag (NewLine gap) =
      let here = standing sign items in
      let filled_behind' = filled_behind (fill_at setting here) (group_of (spot_of (Break gap)) (spots sign items)) (spot_of (Break gap)) in
      let members_placing' = members_placing here.area (page_number here.page_just) (spots sign items) in
      let laid_placing' = laid_placing (Does (NewLine gap)) (Break gap) (spot_of (Break gap)) refl in
      let eq_eqb' = eq-eqb (page_number here.page_just) (page_number here.page_just) refl in
      grind (arith, laid_placing', eq-eqb here.area here.area refl, eq_eqb', filled_behind', members_placing')
  laid_tag NewPage = laid_behind setting sign items (Does NewPage) _ _ refl (unplaced_leaves setting (spots sign items) _ refl refl) refl
  laid_tag (Back colour) = laid_behind setting sign items (Does (Back colour)) _ _ refl (unplaced_leaves setting (spots sign items) _ refl refl) refl
  laid_tag tag = laid_nothing setting sign items (Does tag) refl

-- a character of the string stands in its group where it is laid
unfilled_glyph : (all some more : List Spot) (x : Spot) → is_glyph x ≡ true → all ≡ some ++ x ∷ more → laid_spot Off all some x ≡ x
unfilled_glyph all some more x glyph is = grind (arith, nat_tests, append_assoc, append-nil, members_with, own_member, get_or_at)

pub unfilled_item : (sign : SignData) (all before more : List Meaning) (x : Meaning) → all ≡ before ++ x ∷ more → laid_item Off sign all before x ≡ x
unfilled_item sign all before more (Shows number) is = elim (cases_Option (cell_numbered (standing sign before).font number)) [
  | inl none ↦ rw none refl
  | inr (cell, found) ↦
      grind (arith, found, unfilled_glyph (spots sign all) (spots sign before) _ (record { at = standing sign before; put = Glyph cell }) refl (ap (spots sign) is ∙ spots_with sign before (Shows number) more (Glyph cell) (ap (option_map Glyph) found)))
]
unfilled_item sign all before more (Does (NewLine gap)) is = refl
unfilled_item sign all before more _ is = refl

-- where lines aren't filled, the items are laid out as they are
pub laid_plain : (sign : SignData) (items : List Meaning) → laid_items Off sign items items ≡ items
laid_plain sign items = front_ind items (λ some. laid_items Off sign items some ≡ some) refl (λ some more x is ih.
    grind (arith, each_after_push (laid_item Off sign items) some x, ih, unfilled_item sign items some more x is)) items [] (sym (append-nil items))

module _ (setting : LineFill) (width : ℕ) (a : ℕ) where
  -- the lines of an area are filled to one width
  abbrev pub HasWidth : List Spot → Type 0
  HasWidth all = HasFill setting (Some width) a all

  -- the groups of the laid items are the groups, filled
  pub groups_laid : (all : List Spot) (s : Spot) → s.at.area ≡ a → HasWidth all → (j : ℕ) → in_group j (in_area a (laid setting all all)) ≡ filled (Some width) (members a j all)
  groups_laid all s here same j = group_whole setting all a j (Some width) same

  -- the largest page justification stays, since what is laid stands where it did
  pub same_at : (x y : Spot) → LaidAs x y → (in_areas a y ≡ in_areas a x) × (page_number y.at.page_just ≡ page_number x.at.page_just)
  same_at x y as' = grind arith

  pub one_more : (xs : List Spot) (x : Spot) → in_area a (xs ++ x ∷ []) ≡ in_area a xs ++ cond (in_areas a x) (x ∷ []) []
  one_more xs x = filter-append (in_areas a) xs (x ∷ [])

  pub largest_laid : (all some more : List Spot) → all ≡ some ++ more → largest (λ (t : Spot). page_number t.at.page_just) (in_area a (laid setting all some)) ≡ largest (λ (t : Spot). page_number t.at.page_just) (in_area a some)
  largest_laid all =
      let f = largest (λ (t : Spot). page_number t.at.page_just) in
      front_ind all (λ some. f (in_area a (laid setting all some)) ≡ f (in_area a some)) refl (λ some more x is ih.
      let each_after_push' = each_after_push (laid_spot setting all) some x in
      grind (arith, same_at x (laid_spot setting all some x), laid_as setting all some more x is, each_after_push', one_more, largest_push, append-nil, ih))

-- one more character: its group grows, and the others stay
module _ (setting : LineFill) (width : ℕ) (all : List Spot) (s : Spot) (glyph : is_glyph s ≡ true) (same : HasWidth setting width s.at.area (all ++ s ∷ []))
    (order : largest (λ (t : Spot). page_number t.at.page_just) (area_of s all) ≤ page_number s.at.page_just) where
  own : is_member s.at.area (page_number s.at.page_just) s ≡ true
  own = own_member s glyph

  pub filled_on : IsFilledOn (page_number s.at.page_just) width (group_of s all) s (in_area s.at.area (laid setting all all)) (in_area s.at.area (laid setting (all ++ s ∷ []) (all ++ s ∷ [])))
  filled_on =
      let first = (All-split (λ (x : Spot). x.at.area ≡ s.at.area → fill_at setting x.at ≡ Some width) all s same).0 in
      let largest_laid' = largest_laid setting width s.at.area (all ++ s ∷ []) (all ++ s ∷ []) [] in
      let members_push' = members_push s.at.area (page_number s.at.page_just) all s true own in
      let groups_laid' = groups_laid setting width s.at.area (all ++ s ∷ []) s refl same in
      let groups_laid'' = groups_laid setting width s.at.area all s refl first in
      let one_more' = one_more setting width s.at.area all s in
      grind (arith, groups_laid'', groups_laid', largest_laid', append-nil, members_push', members-append, one_more', largest_push, own, order)

module _ (setting : LineFill) (width : ℕ) (all : List Spot) (s : Spot) (placed : in_areas s.at.area s ≡ true) (same : HasWidth setting width s.at.area (all ++ s ∷ [])) where
  -- the laid items of its area
  abbrev pub laid_with : List Spot
  laid_with = in_area s.at.area (laid setting (all ++ s ∷ []) (all ++ s ∷ []))

  -- it is too big just where, as laid out, its line doesn't fit, or its area
  pub too_big_laid : too_big setting all s ≡ ((is_glyph s && not (line_fits s.at.rectangle.width (after_last is_break (in_group (page_number s.at.page_just) laid_with)))) || not (plain.area_fits s.at.rectangle.height laid_with))
  too_big_laid =
      let All_split' = All-split (λ (x : Spot). x.at.area ≡ s.at.area → fill_at setting x.at ≡ Some width) all s same in
      grind (arith, All_split', one_more setting width s.at.area all s, placed, groups_laid setting width s.at.area (all ++ s ∷ []) s refl same)

module _ (sign : SignData) (items : List Meaning) where
  -- the items as they are laid out
  abbrev pub laid_before : List Meaning
  laid_before = laid_items Words sign items items

  abbrev all : List Spot
  all = spots sign items

  here : (standing sign laid_before ≡ standing sign items) × (spots sign laid_before ≡ laid Words all all)
  here = are_laid Words sign items items [] (sym (append-nil items))

  -- the lines of the area in which the next item stands are filled to one width
  pub same_width : (put : Put) → HasWidth Words (standing sign items).rectangle.width (standing sign items).area (all ++ record { at = standing sign items; put = put } ∷ [])
  same_width put = All-push (λ (x : Spot). x.at.area ≡ (standing sign items).area → fill_at Words x.at ≡ Some (standing sign items).rectangle.width) all (record { at = standing sign items; put = put }) (same_fill Words sign items) (λ same. refl)

  -- an `nl` after them
  module _ (gap : Option ℕ) where
    abbrev nl : Spot
    nl = record { at = standing sign items; put = Break gap }

    -- the spots with it are laid as those before it, and it
    laid_more : laid Words (all ++ nl ∷ []) (all ++ nl ∷ []) ≡ laid Words all all ++ nl ∷ []
    laid_more =
        let more = items ++ Does (NewLine gap) ∷ [] in
        grind (arith, spots_more sign items (Does (NewLine gap)) (Break gap) refl, are_laid Words sign more more [] (sym (append-nil more)), laid_tag Words sign items (NewLine gap), spots_more sign laid_before (Does (NewLine gap)) (Break gap) refl, here)

    too_big_laid_break : too_big Words all nl ≡ too_big Off (laid Words all all) nl
    too_big_laid_break = grind (arith, too_big_laid Words nl.at.rectangle.width all nl, eq-eqb, same_width (Break gap), laid_more, one_more)

  pub offends_as_laid : (tag : Tag) → offence Words sign items (Does tag) ≡ offence Off sign laid_before (Does tag)
  unfolding offence_by standing
  offends_as_laid tag =
      grind (arith, group_goes_back, λ (gap : Option ℕ). largest_laid Words (standing sign items).rectangle.width (standing sign items).area all all [] (sym (append-nil all)), too_big_laid_break, here)
