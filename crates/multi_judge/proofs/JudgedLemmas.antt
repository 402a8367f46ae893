-- What is judged of tags and of characters, by the state.
use Rattle.multi_judge.proofs.Common.{ℕ, ◌+◌, ◌≤◌, Option, Some, None, arith, rules, ◌≡◌, true, false, cond, List, [], ◌∷◌, ◌++◌, refl, sym, ap, ◌∙◌, append-nil, not, ◌==◌, nat_lt, count_by, cons_option, option_map, unwrap_or, option_map_or, cases_Bool, eqb-true, sum_by-append, Tag, Back, NewLine, NewPage, Rect, Off, too_big, SizedCell, SignData, CellData, FontData, cell_in, cell_numbered, font_numbered, FontInfo, Cover, Glyph, spots, standing, Meaning, Shows, Does, is_new_page, conflicts, never_big, offence, unsized_offence, offence_by, present_area, standing_behind, cycle, ended_times, times_at, pages_of, offence-undefined, offence-character, standing_push, present_area-nothing, present_area-cover, present_area-new, some_after_push, none_mapped, Area, area_sum, begins_line, Attributes, Limits, State, IsReady, IsSmall, IsStateOf, attributes_of, start_in, find, option_and_then, same_Some, sum_by_push, Font, info_of, sized, whole_sign, is_inside, offence-page, offence-rectangle, offence-font, offence-no_font, IsSimple, common_steps}
use Rattle.multi_tag.specs.declared.tag.FontPick.{FontPick}

-- ---- pages and times

pub pages_of-push : (items : List Meaning) (x : Meaning) → pages_of (items ++ x ∷ []) ≡ pages_of items + cond (is_new_page x) 1 0
pages_of-push items x = omega (arith, sum_by_push (λ y. cond (is_new_page y) 1 0) items x)

pub ended_times-push : (sign : SignData) (items : List Meaning) (x : Meaning)
    → ended_times sign (items ++ x ∷ []) ≡ ended_times sign items ++ cons_option (cond (is_new_page x) (Some (times_at (standing sign items))) None) []
ended_times-push sign items x = some_after_push (λ before item. cond (is_new_page item) (Some (times_at (standing sign before))) None) items x

pub cycle-stays : (sign : SignData) (items : List Meaning) (x : Meaning) → is_new_page x ≡ false → cycle (ended_times sign (items ++ x ∷ [])) ≡ cycle (ended_times sign items)
cycle-stays sign items x same = first_of (search (rules, append-nil, ended_times-push), grind (arith, append-nil, ended_times-push))

pub cycle-grows : (sign : SignData) (items : List Meaning) (x : Meaning) → is_new_page x ≡ true
    → cycle (ended_times sign (items ++ x ∷ [])) ≡ cycle (ended_times sign items) + ((standing sign items).on + (standing sign items).off)
cycle-grows sign items x new = search (rules, ended_times-push, sum_by-append)

-- ---- a font in force is one of the sign's

-- the font that was found has the number that was asked for
pub found_number : (fonts : List FontData) (n : ℕ) (font : FontData) → find (λ f. f.number == n) fonts ≡ Some font → font.number ≡ n
found_number [] n font e = cc
found_number (f ∷ fonts) n font e = search (rules, cases_Bool, eqb-true, found_number fonts n font)

pub found_again : (sign : SignData) (n : ℕ) (font : FontData) → font_numbered sign n ≡ Some font → font_numbered sign font.number ≡ Some font
found_again sign n font e = ap (font_numbered sign) (found_number sign.fonts n font e) ∙ e

-- the cell of the font in force
pub cell_of_font : (sign : SignData) (font : FontData) (number : ℕ) → font_numbered sign font.number ≡ Some font → cell_in sign font.number number ≡ option_map (sized font) (cell_numbered font number)
cell_of_font sign font number e = ap (option_and_then (λ f. option_map (sized f) (cell_numbered f number))) e

-- what a function made of a value that there may be, it made of one that there is
pub some_mapped : {X Y : Type 0} (f : X → Y) (o : Option X) (y : Y) → option_map f o ≡ Some y → (x : X) × (o ≡ Some x) × (y ≡ f x)
some_mapped f o y e = search (rules, same_Some)

-- ---- one more item that begins no page

-- the state after an item that begins no page, from what it makes of the values in force and of the present area
pub state-same_page : (sign : SignData) (items : List Meaning) (state new : State) (x : Meaning) → IsStateOf sign items state → is_new_page x ≡ false
    → new.pages ≡ state.pages → new.cycle ≡ state.cycle
    → new.attributes ≡ attributes_of (standing_behind sign (standing sign items) x)
    → new.area ≡ area_sum (present_area sign (items ++ x ∷ []))
    → font_numbered sign (standing_behind sign (standing sign items) x).font.number ≡ Some (standing_behind sign (standing sign items) x).font
    → IsSmall new.attributes.rectangle → IsStateOf sign (items ++ x ∷ []) new
state-same_page sign items state new x st same pages times attributes area font small =
    search (rules, cycle-stays, pages_of-push, standing_push)

-- a tag after which no line begins leaves the present area
pub area_stays : (sign : SignData) (items : List Meaning) (tag : Tag) → begins_line tag ≡ false → present_area sign (items ++ Does tag ∷ []) ≡ present_area sign items
area_stays sign items NewPage e = cc
area_stays sign items (NewLine gap) e = cc
area_stays sign items (Rect x y w h) e = cc
area_stays sign items (Back colour) e = present_area-cover sign items (Does (Back colour)) (Cover (standing sign items).page (unwrap_or colour sign.defaults.back)) refl refl refl
area_stays sign items tag e = present_area-nothing sign items (Does tag) refl refl

-- an item that leaves the present area, and begins no page
pub state-attribute : (sign : SignData) (items : List Meaning) (state : State) (attributes : Attributes) (x : Meaning) → IsStateOf sign items state
    → is_new_page x ≡ false → present_area sign (items ++ x ∷ []) ≡ present_area sign items → attributes ≡ attributes_of (standing_behind sign (standing sign items) x)
    → font_numbered sign (standing_behind sign (standing sign items) x).font.number ≡ Some (standing_behind sign (standing sign items) x).font
    → attributes.rectangle ≡ state.attributes.rectangle → IsStateOf sign (items ++ x ∷ []) (record state { attributes = attributes })
state-attribute sign items state attributes x st page area is font same = search (rules, cycle-stays, pages_of-push, standing_push)

-- what the items so far make of a state doesn't hang on its limits
pub state-limits : (sign : SignData) (items : List Meaning) (state new : State) → new ≡ record state { area = new.area; limits = new.limits } → IsStateOf sign items (record state { area = new.area }) → IsStateOf sign items new
state-limits sign items state new same st = search (rules)

-- a character that doesn't offend doesn't conflict
pub shown_free : (sign : SignData) (items : List Meaning) (number : ℕ) (cell : CellData) → cell_numbered (standing sign items).font number ≡ Some cell → unsized_offence sign items (Shows number) ≡ None
    → conflicts (spots sign items) (record { at = standing sign items; put = Glyph cell }) ≡ false
shown_free sign items number cell found fine = grind (arith, offence-character never_big sign items number cell found)

module _ (sign : SignData) (items : List Meaning) (state : State) (st : IsStateOf sign items state) where
  pub cell_missing : (number : ℕ) → cell_in sign state.attributes.font.number number ≡ None → cell_numbered (standing sign items).font number ≡ None
  cell_missing number none = first_of (search (rules, cell_of_font, none_mapped), grind (arith, cell_of_font, none_mapped))

  pub unsized-undefined : (number : ℕ) → cell_in sign state.attributes.font.number number ≡ None → unsized_offence sign items (Shows number) ≡ Some 7
  unsized-undefined number none = offence-undefined never_big sign items number (cell_missing number none)

  pub cell_found : (number : ℕ) (c : SizedCell) → cell_in sign state.attributes.font.number number ≡ Some c
      → (cell : CellData) × (cell_numbered (standing sign items).font number ≡ Some cell) × (c.width ≡ cell.width)
  cell_found number c some = search (rules, cell_of_font)

  -- ---- new pages and rectangles

  pub judged-page : offence Off sign items (Does NewPage) ≡ cond (nat_lt sign.max_pages (state.pages + 1)) (Some 12) None
  judged-page = let pages : count_by is_new_page items + 2 ≡ state.pages + 1 = omega (arith, st.pages) in offence-page (too_big Off) sign items ∙ ap (λ n. cond (nat_lt sign.max_pages n) (Some 12) None) pages

  -- a new page: the times of the one before are ended, and the whole sign and an empty area begin
  pub state-page : (new : State) → new.pages ≡ state.pages + 1 → new.cycle ≡ state.cycle + (state.attributes.on + state.attributes.off)
      → new.attributes ≡ record state.attributes { rectangle = whole_sign sign } → new.area ≡ area_sum []
      → state.attributes.on ≤ 255 → state.attributes.off ≤ 255 → IsSmall (whole_sign sign)
      → IsStateOf sign (items ++ Does NewPage ∷ []) new
  state-page new pages times attributes area on_bound off_bound small =
      search (rules, cycle-grows, pages_of-push, present_area-new, standing_push)

  pub judged-rectangle : (x y w h : ℕ) → offence Off sign items (Does (Rect x y w h)) ≡ cond (Rattle.multi_meaning.specs.Attributes.is_inside sign x y w h) None (Some 4)
  judged-rectangle x y w h = offence-rectangle (too_big Off) sign items x y w h

-- ---- the start

-- the state before the first item
pub state-start : (sign : SignData) (info : FontInfo) (area : Area) (limits : Limits) → option_map info_of (font_numbered sign sign.defaults.font) ≡ Some info → area ≡ area_sum [] → IsSmall (whole_sign sign)
    → IsStateOf sign [] (record { pages = 1; cycle = 0; attributes = start_in sign info; area = area; limits = limits })
unfolding standing spots
state-start sign info area limits is sum small = search (rules, found_again)

-- the times of items are within their bound
pub ready : (sign : SignData) (items : List Meaning) (state : State) → IsStateOf sign items state → IsReady state
ready sign items state st = record { short = st.short }

-- a rectangle, in which an empty area begins
pub state-rectangle : (sign : SignData) (items : List Meaning) (state new : State) (x y w h : ℕ) → IsStateOf sign items state
    → new.pages ≡ state.pages → new.cycle ≡ state.cycle
    → new.attributes ≡ attributes_of (standing_behind sign (standing sign items) (Does (Rect x y w h)))
    → new.area ≡ area_sum [] → IsSmall new.attributes.rectangle
    → IsStateOf sign (items ++ Does (Rect x y w h) ∷ []) new
state-rectangle sign items state new x y w h st pages times attributes area small =
    search (rules, present_area-new, state-same_page)

-- a tag that is none of these is a simple one
pub simple_of : (tag : Tag) → (tag ≡ NewPage → ⊥) → ((gap : Option ℕ) → tag ≡ NewLine gap → ⊥) → ((pick : Option FontPick) → tag ≡ Font pick → ⊥) → ((x y w h : ℕ) → tag ≡ Rect x y w h → ⊥) → IsSimple tag
simple_of tag page line font rect = search rules

module _ (sign : SignData) (items : List Meaning) (state : State) (st : IsStateOf sign items state) (attributes : Attributes) where
  abbrev pub After : Tag → Type 0
  After tag = attributes ≡ attributes_of (standing_behind sign (standing sign items) (Does tag))

  abbrev pub CheckedData : Tag → Type 0
  CheckedData tag = (offence Off sign items (Does tag) ≡ None) × IsStateOf sign (items ++ Does tag ∷ []) (record state { attributes = attributes })

  -- a simple tag: it doesn't offend, and the values in force change
  pub judged-simple : (tag : Tag) → IsSimple tag → After tag → attributes.rectangle ≡ state.attributes.rectangle → CheckedData tag
  unfolding offence_by
  judged-simple NewPage s is same = absurd s
  judged-simple (NewLine gap) s is same = absurd s
  judged-simple (Font pick) s is same = absurd s
  judged-simple (Rect x y w h) s is same = absurd s
  judged-simple tag s is same = (refl, state-attribute sign items state attributes (Does tag) st refl (area_stays sign items tag refl) is st.font same)

  -- a font: the values in force have its numbers
  pub judged-font : (pick : Option FontPick) (font : FontData) → (standing_behind sign (standing sign items) (Does (Font pick))).font ≡ font → font_numbered sign font.number ≡ Some font
      → attributes ≡ record state.attributes { font = info_of font } → offence Off sign items (Does (Font pick)) ≡ None → CheckedData (Font pick)
  judged-font pick font new own is fine = grind (arith, common_steps, area_stays, cycle-stays, pages_of-push, standing_push)

-- FONTS

-- a font that is found by its number has it
pub info_number : (sign : SignData) (number : ℕ) (info : FontInfo) → option_map info_of (font_numbered sign number) ≡ Some info → info.number ≡ number
info_number sign number info is = search (rules, found_number, some_mapped)

-- the default font
pub judged-default_font : (sign : SignData) (items : List Meaning) (state : State) (st : IsStateOf sign items state) (info : FontInfo)
    → option_map info_of (font_numbered sign sign.defaults.font) ≡ Some info
    → CheckedData sign items state st (record state.attributes { font = info }) (Font None)
unfolding offence_by
judged-default_font sign items state st info is =
    let (font, found, same) = some_mapped info_of (font_numbered sign sign.defaults.font) info is in
    let none : FontData = record { number = 0; version = 0; height = 0; char_spacing = 0; line_spacing = 0; cells = [] } in
    judged-font sign items state st (record state.attributes { font = info }) None font (ap (λ o. unwrap_or o none) found) (found_again sign sign.defaults.font font found)
    (ap (λ (i : FontInfo). let a : Attributes = record state.attributes { font = i } in a) same) refl

pub judged-no_font : (sign : SignData) (items : List Meaning) (pick : FontPick) → option_map info_of (font_numbered sign pick.number) ≡ None → offence Off sign items (Does (Font (Some pick))) ≡ Some 6
judged-no_font sign items pick none = offence-no_font (too_big Off) sign items pick (none_mapped info_of (font_numbered sign pick.number) none)

-- the version that is asked for is another, where the font doesn't agree with it
other_version : (o : Option ℕ) (n : ℕ) → option_map_or (λ v. not (v == n)) o false ≡ not (unwrap_or o n == n)
other_version o n = search rules

-- a font of another version
pub judged-version : (sign : SignData) (items : List Meaning) (pick : FontPick) (info : FontInfo) → option_map info_of (font_numbered sign pick.number) ≡ Some info
    → (unwrap_or pick.version info.version == info.version) ≡ false → offence Off sign items (Does (Font (Some pick))) ≡ Some 13
judged-version sign items pick info is differs =
    let (font, found, same) = some_mapped info_of (font_numbered sign pick.number) info is in
    grind (arith, other_version pick.version info.version, offence-font (too_big Off) sign items pick font found, same)

-- the font that is asked for, in its version
pub judged-picked : (sign : SignData) (items : List Meaning) (state : State) (st : IsStateOf sign items state) (pick : FontPick) (info : FontInfo)
    → option_map info_of (font_numbered sign pick.number) ≡ Some info → (unwrap_or pick.version info.version == info.version) ≡ true
    → CheckedData sign items state st (record state.attributes { font = info }) (Font (Some pick))
judged-picked sign items state st pick info is agrees =
    let (font, found, same) = some_mapped info_of (font_numbered sign pick.number) info is in
    let versions : font.version ≡ info.version = ap (λ (i : FontInfo). i.version) (sym same) in
    let test : option_map_or (λ v. not (v == font.version)) pick.version false ≡ false =
    ap (λ n. option_map_or (λ v. not (v == n)) pick.version false) versions ∙ other_version pick.version info.version ∙ ap not agrees in
    judged-font sign items state st (record state.attributes { font = info }) (Some pick) font
    (ap (λ o. unwrap_or o (standing sign items).font) found)
    (found_again sign pick.number font found) (ap (λ (i : FontInfo). let a : Attributes = record state.attributes { font = i } in a) same)
    (offence-font (too_big Off) sign items pick font found ∙ ap (λ b. cond {A = Option ℕ} b (Some 13) None) test)
