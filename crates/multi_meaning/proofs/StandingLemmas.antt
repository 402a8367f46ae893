-- What one more item does to the values in force, the spots, the widths and the heights.
use Rattle.multi_meaning.proofs.Common.{◌≡◌, ◌+◌, List, [], ◌∷◌, ◌++◌, Option, Some, append-nil, arith, ℕ, ◌≤◌, cond, None, refl, sym, ap, subst, ◌∙◌, append_assoc, Bool, true, false, ◌&&◌, ◌||◌, ◌==◌, IfSome, eq-eqb, nat_lt, not, map, cons_option, All-push, filter_map-append, All-nil, All-weaker, filter-append, All-head, All-tail, sum_by_push, sum_by-append, option_map_or, SignData, CellData, cell_numbered, FontData, font_numbered, NewPage, NewLine, Rect, Item, LineFill, Meaning, begins_area, Shows, Does, is_new_page, EndsArea, Faulty, has_place, meaning, given_rectangle, is_inside, Put, Spot, put_at, spot_at, spots, standing, Standing, is_break, is_glyph, in_area, Glyph, Cover, Break, glyph_width, char_gap, width_of, standing_behind, present_area, Rectangle, some_after, conflicts, offence_by, offence, unsized_offence, laid_item, fault_at, offences, All, count_by, All-contains_itself, Font, common_steps}
use Rattle.multi_tag.specs.declared.tag.FontPick.{FontPick}
use Rattle.multi_meaning.proofs.WordLemmas.{cases_Option, some_after_push, last_or-append, extent_push, gap_before, push_ind, filter_none, some_after-append, left_nil, none_mapped, none_of, right_nil}

pub spots_push : (sign : SignData) (items : List Meaning) (x : Meaning) → spots sign (items ++ x ∷ []) ≡ spots sign items ++ cons_option (spot_at sign.defaults (standing sign items) x) []
unfolding spots
spots_push sign items x = some_after_push (λ before x. spot_at sign.defaults (standing sign before) x) items x

-- what holds of all spots holds with what one more item puts, if it holds of that
pub spots_all : (sign : SignData) (P : Spot → Type 0) (items : List Meaning) (x : Meaning) → ((put : Put) → put_at sign.defaults (standing sign items) x ≡ Some put → P (record { at = standing sign items; put = put }))
    → All P (spots sign items) → All P (spots sign (items ++ x ∷ []))
spots_all sign P items x new old = grind (arith, common_steps, spots_push, cases_Option, append-nil, All-push)

-- a segment after one more character of its own
pub width_push : (characters : List Spot) (s : Spot) → width_of (characters ++ s ∷ []) ≡ width_of characters + gap_before char_gap characters s + glyph_width s
width_push characters s = extent_push glyph_width char_gap characters s

-- the values in force after one more item
pub standing_push : (sign : SignData) (before : List Meaning) (x : Meaning) → standing sign (before ++ x ∷ []) ≡ standing_behind sign (standing sign before) x
unfolding standing
standing_push sign before x = grind (arith, sum_by_push, filter_map-append, last_or-append)

module _ (sign : SignData) where
  pub area_push : (items : List Meaning) (x : Meaning) → (standing sign (items ++ x ∷ [])).area ≡ (standing sign items).area + cond (begins_area x) 1 0
  area_push items x = ap (λ (s : Standing). s.area) (standing_push sign items x)

  -- an item that gives no rectangle leaves it
  pub rectangle_stays : (items : List Meaning) (x : Meaning) → given_rectangle sign x ≡ None → (standing sign (items ++ x ∷ [])).rectangle ≡ (standing sign items).rectangle
  rectangle_stays items x none = ap (λ (s : Standing). s.rectangle) (standing_push sign items x) ∙ rw none refl

  -- a spot of the area in which some items stand has their rectangle
  abbrev pub SameRectangle : List Meaning → Spot → Type 0
  SameRectangle items s = s.at.area ≡ (standing sign items).area → s.at.rectangle ≡ (standing sign items).rectangle

  -- the area of some items is this one, with this rectangle, or a later one
  abbrev pub IsBehind : ℕ → Rectangle → List Meaning → Type 0
  IsBehind area r items = (area ≤ (standing sign items).area) × (area ≡ (standing sign items).area → r ≡ (standing sign items).rectangle)

  behind_push : (area : ℕ) (r : Rectangle) (items : List Meaning) (x : Meaning) → IsBehind area r items → IsBehind area r (items ++ x ∷ [])
  behind_push area r items x (least, same) = grind (arith, area_push, rectangle_stays)

  -- what some items put stands in their area, with its rectangle, or in one before
  pub spots_placed : (items : List Meaning) → All (λ s. IsBehind s.at.area s.at.rectangle items) (spots sign items)
  unfolding spots
  spots_placed = push_ind (λ items. All (λ s. IsBehind s.at.area s.at.rectangle items) (spots sign items))
      (All-nil (λ s. IsBehind s.at.area s.at.rectangle [])) (λ items x ih. spots_all sign (λ s. IsBehind s.at.area s.at.rectangle (items ++ x ∷ [])) items x (λ put e. behind_push (standing sign items).area (standing sign items).rectangle items x (omega arith, λ is. refl))
      (All-weaker _ (λ s. IsBehind s.at.area s.at.rectangle (items ++ x ∷ [])) (λ s h. behind_push s.at.area s.at.rectangle items x h) (spots sign items) ih))

  stays_behind : (items behind : List Meaning) → IsBehind (standing sign items).area (standing sign items).rectangle (items ++ behind)
  stays_behind items = push_ind (λ behind. IsBehind (standing sign items).area (standing sign items).rectangle (items ++ behind)) (grind (arith, append-nil))
      (λ behind x ih.
      grind (arith, append_assoc items behind (x ∷ []), behind_push (standing sign items).area (standing sign items).rectangle (items ++ behind) x ih))

  -- all spots of a string in the area after some items have the rectangle in force there
  pub same_rectangle : (items behind : List Meaning) → All (SameRectangle items) (spots sign (items ++ behind))
  same_rectangle items = push_ind (λ behind. All (SameRectangle items) (spots sign (items ++ behind)))
      (subst (λ l. All (SameRectangle items) (spots sign l)) (sym (append-nil items)) (All-weaker (λ s. IsBehind s.at.area s.at.rectangle items) (SameRectangle items) (λ s h. h.1) (spots sign items) (spots_placed items)))
      (λ behind x ih. subst (λ l. All (SameRectangle items) (spots sign l)) (append_assoc items behind (x ∷ []))
      (spots_all sign (SameRectangle items) (items ++ behind) x (λ put e is. sym ((stays_behind items behind).1 (sym is))) ih))

-- a placing item
abbrev pub is_placing : Spot → Bool
is_placing t = is_glyph t || is_break t

pub in_area-append : (k : ℕ) (xs ys : List Spot) → in_area k (xs ++ ys) ≡ in_area k xs ++ in_area k ys
in_area-append k xs ys = filter-append (λ t. is_placing t && (t.at.area == k)) xs ys

module _ (sign : SignData) (items : List Meaning) (x : Meaning) where
  grown : (k : ℕ) → in_area k (spots sign (items ++ x ∷ [])) ≡ in_area k (spots sign items) ++ in_area k (cons_option (spot_at sign.defaults (standing sign items) x) [])
  grown k = ap (in_area k) (spots_push sign items x) ∙ in_area-append k (spots sign items) (cons_option (spot_at sign.defaults (standing sign items) x) [])

  pub same_area : begins_area x ≡ false → (standing sign (items ++ x ∷ [])).area ≡ (standing sign items).area
  same_area stays_in = omega (arith, rw stays_in at (area_push sign items x))

  -- a placing item joins the present area
  pub present_area-placing : (put : Put) → begins_area x ≡ false → put_at sign.defaults (standing sign items) x ≡ Some put → is_placing (record { at = standing sign items; put = put }) ≡ true
      → present_area sign (items ++ x ∷ []) ≡ present_area sign items ++ record { at = standing sign items; put = put } ∷ []
  present_area-placing put stays_in is placing = grind (arith, same_area, grown, is, placing, eq-eqb)

  -- another item that begins stays_in area leaves it
  pub present_area-nothing : begins_area x ≡ false → put_at sign.defaults (standing sign items) x ≡ None → present_area sign (items ++ x ∷ []) ≡ present_area sign items
  present_area-nothing stays_in is = grind (arith, same_area, grown, is, append-nil)

  pub present_area-cover : (put : Put) → begins_area x ≡ false → put_at sign.defaults (standing sign items) x ≡ Some put → is_placing (record { at = standing sign items; put = put }) ≡ false
      → present_area sign (items ++ x ∷ []) ≡ present_area sign items
  present_area-cover put stays_in is cover = grind (arith, same_area, grown, is, cover, append-nil)

  -- another area stays
  pub other_area : (k : ℕ) → ((standing sign items).area ≡ k → ⊥) → in_area k (spots sign (items ++ x ∷ [])) ≡ in_area k (spots sign items)
  other_area k apart = grind (arith, grown, append-nil)

  -- a new area has none
  pub present_area-new : begins_area x ≡ true → present_area sign (items ++ x ∷ []) ≡ []
  present_area-new begins = grind (arith, area_push, other_area, filter_none, spots_placed)

-- what the items after some others put
abbrev pub spots_behind : SignData → List Meaning → List Meaning → List Spot
spots_behind sign before behind = some_after (λ more item. spot_at sign.defaults (standing sign (before ++ more)) item) behind

-- all items are some and those after them
pub spots_split : (sign : SignData) (before behind : List Meaning) → spots sign (before ++ behind) ≡ spots sign before ++ spots_behind sign before behind
unfolding spots
spots_split sign before behind = some_after-append (λ before item. spot_at sign.defaults (standing sign before) item) before behind

-- the items after some others leave what these put
pub spots_append : (sign : SignData) (before behind : List Meaning) → (more : List Spot) × (spots sign (before ++ behind) ≡ spots sign before ++ more)
spots_append sign before behind = (spots_behind sign before behind, spots_split sign before behind)

-- one more item that puts nothing
pub spots_nothing : (sign : SignData) (before : List Meaning) (x : Meaning) → put_at sign.defaults (standing sign before) x ≡ None → spots sign (before ++ x ∷ []) ≡ spots sign before
spots_nothing sign before x is = spots_push sign before x ∙ rw is (append-nil (spots sign before))

-- one more item that puts something
pub spots_more : (sign : SignData) (before : List Meaning) (x : Meaning) (put : Put) → put_at sign.defaults (standing sign before) x ≡ Some put
    → spots sign (before ++ x ∷ []) ≡ spots sign before ++ record { at = standing sign before; put = put } ∷ []
spots_more sign before x put is = spots_push sign before x ∙ rw is refl

-- all items, with one of them that puts something
pub spots_with : (sign : SignData) (before : List Meaning) (x : Meaning) (rest : List Meaning) (put : Put) → put_at sign.defaults (standing sign before) x ≡ Some put
    → spots sign (before ++ x ∷ rest) ≡ spots sign before ++ record { at = standing sign before; put = put } ∷ spots_behind sign (before ++ x ∷ []) rest
spots_with sign before x rest put is = grind (arith, append_assoc, append-nil, spots_split)

-- an item that is no new page leaves the page
pub same_page_behind : (sign : SignData) (before : List Meaning) (x : Meaning) → is_new_page x ≡ false → (standing sign (before ++ x ∷ [])).page ≡ (standing sign before).page
same_page_behind sign before x stays = grind (arith, standing_push)

-- what f makes of each of some items has a property
pub some_all : {X Y : Type 0} (P : X → Type 0) (Q : Y → Type 0) (f : List X → X → Option Y) (xs : List X) → All P xs → ((before : List X) (x : X) → P x → IfSome (f before x) Q) → All Q (some_after f xs)
some_all P Q f [] h each = All-nil Q
some_all P Q f (x ∷ xs) h each = grind (arith, All-head, some_all P Q (λ before. f (x ∷ before)) xs (All-tail P x xs h) (λ before. each (x ∷ before)))

-- the page of what is put
abbrev pub page_put : Standing → Put → ℕ
page_put at (Cover page colour) = page
page_put at _ = at.page

-- what a spot puts is of this page or a later one
abbrev pub IsFrom : ℕ → Spot → Type 0
IsFrom page s = page ≤ page_put s.at s.put

-- pages don't fall along the items, nor do areas
falls_not : (sign : SignData) (before more : List Meaning)
    → ((standing sign before).page ≤ (standing sign (before ++ more)).page) × ((standing sign before).area ≤ (standing sign (before ++ more)).area)
unfolding standing
falls_not sign before more = grind (arith, sum_by-append)

-- what the items after some others put is of their page or a later one
pub pages_behind : (sign : SignData) (before behind : List Meaning) → All (IsFrom (standing sign before).page) (spots_behind sign before behind)
pages_behind sign before behind =
    some_all (λ x. Unit {0}) (IsFrom (standing sign before).page) (λ more item. spot_at sign.defaults (standing sign (before ++ more)) item) behind (grind (arith, All-contains_itself, All-weaker)) (λ more x _. grind (arith, (falls_not sign before more).0))

module _ (sign : SignData) (before : List Meaning) where
  -- an item that begins an area, and the items after it, place nothing in the area that ends
  ends_next : (x : Meaning) (rest : List Meaning) → begins_area x ≡ true
      → in_area (standing sign before).area (spots sign (before ++ x ∷ rest)) ≡ in_area (standing sign before).area (spots sign before)
  ends_next x rest begins =
      let k = (standing sign before).area in
      let next = before ++ x ∷ [] in
      let later = push_ind (λ rest. in_area k (spots sign (next ++ rest)) ≡ in_area k (spots sign next)) (ap (λ l. in_area k (spots sign l)) (append-nil next)) (λ rest y ih.
      ap (λ l. in_area k (spots sign l)) (sym (append_assoc next rest (y ∷ [])))
      ∙ other_area sign (next ++ rest) y k (λ e. grind (arith, e, (falls_not sign next rest).1, standing_push, begins)) ∙ ih) in
      grind (arith, later rest, spots_push sign before x, in_area-append, append_assoc before (x ∷ []) rest, append-nil)

  -- where an area ends, the rest of the string puts nothing into it
  pub area_ends : (behind : List Meaning) → EndsArea behind
      → in_area (standing sign before).area (spots sign (before ++ behind)) ≡ in_area (standing sign before).area (spots sign before)
  area_ends behind ends = grind (arith, append-nil, ends_next)

  -- a character joins its area, and the items after it come after it
  pub area_with_glyph : (number : ℕ) (cell : CellData) (rest : List Meaning) → cell_numbered (standing sign before).font number ≡ Some cell →
      let at = standing sign before in let spot : Spot = record { at = at; put = Glyph cell } in
      (more : List Spot) × (in_area at.area (spots sign (before ++ Shows number ∷ rest)) ≡ in_area at.area (spots sign before) ++ spot ∷ more)
  area_with_glyph number cell rest found = (in_area (standing sign before).area (spots_behind sign (before ++ Shows number ∷ []) rest), grind (arith, spots_with sign before (Shows number) rest (Glyph cell), found, in_area-append, eq-eqb (standing sign before).area (standing sign before).area refl))

module _ (big : List Spot → Spot → Bool) (sign : SignData) (items : List Meaning) where
  -- a character without a cell
  pub offence-undefined : (number : ℕ) → cell_numbered (standing sign items).font number ≡ None → offence_by big sign items (Shows number) ≡ Some 7
  unfolding offence_by
  offence-undefined number none = grind (arith, none)

  -- a character with a cell
  pub offence-character : (number : ℕ) (cell : CellData) → cell_numbered (standing sign items).font number ≡ Some cell →
      let spot : Spot = record { at = standing sign items; put = Glyph cell } in
      offence_by big sign items (Shows number) ≡ cond (conflicts (spots sign items) spot) (Some 11) (cond (big (spots sign items) spot) (Some 5) None)
  unfolding offence_by
  offence-character number cell found = grind (arith, found)

  -- the end of a line
  pub offence-break : (gap : Option ℕ) → let spot : Spot = record { at = standing sign items; put = Break gap } in
      offence_by big sign items (Does (NewLine gap)) ≡ cond (conflicts (spots sign items) spot) (Some 11) (cond (big (spots sign items) spot) (Some 5) None)
  unfolding offence_by
  offence-break gap = grind arith

  pub offence-page : offence_by big sign items (Does NewPage) ≡ cond (nat_lt sign.max_pages (count_by is_new_page items + 2)) (Some 12) None
  unfolding offence_by
  offence-page = grind arith

  pub offence-rectangle : (x y w h : ℕ) → offence_by big sign items (Does (Rect x y w h)) ≡ cond (is_inside sign x y w h) None (Some 4)
  unfolding offence_by
  offence-rectangle x y w h = grind arith

  pub offence-no_font : (pick : FontPick) → font_numbered sign pick.number ≡ None → offence_by big sign items (Does (Font (Some pick))) ≡ Some 6
  unfolding offence_by
  offence-no_font pick none = grind (arith, none)

  pub offence-font : (pick : FontPick) (font : FontData) → font_numbered sign pick.number ≡ Some font
      → offence_by big sign items (Does (Font (Some pick))) ≡ cond (option_map_or (λ v. not (v == font.version)) pick.version false) (Some 13) None
  unfolding offence_by
  offence-font pick font found = grind (arith, found)

  pub offence-faulty : (code : ℕ) → offence_by big sign items (Faulty code) ≡ Some code
  unfolding offence_by
  offence-faulty code = refl

-- what places nothing is laid as itself
pub unplaced_item : (setting : LineFill) (sign : SignData) (all before : List Meaning) (x : Meaning) → has_place x ≡ false → laid_item setting sign all before x ≡ x
unplaced_item setting sign all before x e = grind arith

-- and it never offends by its size
pub sized : (setting : LineFill) (sign : SignData) (ms : List Meaning) (x : Meaning) → has_place x ≡ false → offence setting sign ms x ≡ unsized_offence sign ms x
unfolding offence_by
sized setting sign ms x e = grind arith

-- without an error there is no conflict
pub no_conflict : (conflict big : Bool) → ◌≡◌ {A = Option ℕ} (cond conflict (Some 11) (cond big (Some 5) None)) None → conflict ≡ false
no_conflict conflict big e = grind arith

-- none of some items offends, so the last doesn't, nor any before it
pub last_fine : (sign : SignData) (items : List Item) (item : Item) → offences sign (items ++ item ∷ []) ≡ []
    → (offences sign items ≡ []) × (offence sign.line_fill sign (map meaning items) (meaning item) ≡ None)
last_fine sign items item none = grind (arith, some_after_push (fault_at sign) items item, left_nil, right_nil, none_of, none_mapped)
