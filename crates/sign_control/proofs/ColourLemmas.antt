-- The colours of what is shown: each is 0 to 9.
use Rattle.std.proofs.Common.{◌≡◌, ℕ, ◌≤◌, Bool, true, false, List, [], ◌∷◌, map, min, if◌then◌else◌, Option, Some, None, Result, Ok, Err, refl, sym, subst, arith, inl, inr}
use Rattle.std.specs.List.{cons_option, filter_map, last_or}
use Rattle.std.specs.Option.{IfSome, option_map, unwrap_or}
use Rattle.std.proofs.lemmas.Bool.{cases_Bool}
use Rattle.multi_token.specs.Reading.{reading}
use Rattle.multi_token.specs.Spelling.{Item, Char, Tag}
use Rattle.multi_tag.specs.declared.name.Name.{Name}
use Rattle.multi_tag.specs.declared.name.Name.TheVariants as names
use Rattle.multi_tag.specs.declared.tag.Tag as tags
use Rattle.multi_tag.specs.declared.tag.Tag.TheVariants.{NewPage, Fore, Back}
use Rattle.multi_tag.specs.declared.tag.TagFault.{TagFault}
use Rattle.multi_tag.specs.declared.tag.TagFault.TheVariants.{Unsupported, Value}
use Rattle.multi_tag.specs.Body.{table, Spells, SpellsSmall}
use Rattle.multi_tag.specs.Form.{d?}
use Rattle.multi_tag.specs.TagOf.{tag_of}
use Rattle.multi_tag.proofs.TagOfLemmas.{tag_of_is_the_table}
use Rattle.sign_font.specs.Sign.{CellData, SignData, cell_numbered}
use Rattle.multi_meaning.specs.Address.{Break, Cover, Glyph, Put, Spot, Standing, is_break, put_at, spot_at, spots, standing}
use Rattle.multi_meaning.specs.Attributes.{given_back, given_fore, in_force}
use Rattle.multi_meaning.specs.Laid.{laid_item, laid_of, laid_out}
use Rattle.multi_meaning.specs.Meaning.{Meaning, Shows, Does, meaning, meaning_of_tag, meanings, said_by}
use Rattle.multi_meaning.specs.Picture.{Thing, colour_of, shown_colour, thing_at, things, things_among}
use Rattle.multi_meaning.specs.Place.{place_of}
use Rattle.multi_meaning.specs.Words.{each_after, some_after}

-- ---- lists

-- something holds of each item of a list
abbrev pub Each : {X : Type 0} → (X → Type 0) → List X → Type 0
Each P [] = Unit {0}
Each P (x ∷ xs) = P x × Each P xs

-- of each item that there is, and of those after it
each_option : {Y : Type 0} (Q : Y → Type 0) (o : Option Y) (ys : List Y) → IfSome o Q → Each Q ys → Each Q (cons_option o ys)
each_option Q None ys is rest = rest
each_option Q (Some y) ys is rest = (is, rest)

-- of all that is made of the items of a list
each_made : {X Y : Type 0} (P : X → Type 0) (Q : Y → Type 0) (f : List X → X → Option Y) (xs : List X)
    → ((before : List X) (x : X) → Each P before → P x → IfSome (f before x) Q) → Each P xs → Each Q (some_after f xs)
each_made P Q f [] makes all = tt
each_made P Q f (x ∷ xs) makes (first, others) =
    each_option Q (f [] x) (some_after (λ before. f (x ∷ before)) xs) (makes [] x tt first)
    (each_made P Q (λ before. f (x ∷ before)) xs (λ before y are is. makes (x ∷ before) y (first, are) is) others)

-- of the last of what one item gives, if it gives something, and what others give
last_more : (Q : ℕ → Type 0) (g o : Option ℕ) (ys : List ℕ) → IfSome g Q → IfSome o Q → ((now : Option ℕ) → IfSome now Q → IfSome (last_or now ys) Q) → IfSome (last_or o (cons_option g ys)) Q
last_more Q None o ys is old rest = rest o old
last_more Q (Some y) o ys is old rest = rest (Some y) is

-- of the last of what some items give
last_given : {X : Type 0} (P : X → Type 0) (h : X → Option ℕ) (Q : ℕ → Type 0) (xs : List X) (o : Option ℕ) → ((x : X) → P x → IfSome (h x) Q) → IfSome o Q → Each P xs
    → IfSome (last_or o (filter_map h xs)) Q
last_given P h Q [] o gives old all = old
last_given P h Q (x ∷ xs) o gives old (first, others) =
    last_more Q (h x) o (filter_map h xs) (gives x first) old (λ now is. last_given P h Q xs now gives is others)

-- of what is given, or else of what holds otherwise
given_or : (Q : ℕ → Type 0) (o : Option ℕ) (d : ℕ) → IfSome o Q → Q d → Q (unwrap_or o d)
given_or Q None d is other = other
given_or Q (Some n) d is other = is

-- ---- tags

-- a number of a colour
abbrev pub IsColour : ℕ → Type 0
IsColour colour = colour ≤ 9

-- a colour that an item gives is one
abbrev pub IsColoured : Meaning → Type 0
IsColoured (Does (Fore (Some colour))) = IsColour colour
IsColoured (Does (Back (Some colour))) = IsColour colour
IsColoured item = Unit {0}

abbrev pub IsTagColoured : tags.Tag → Type 0
IsTagColoured t = IsColoured (said_by t)

digit_most : (rest : List ℕ) (n : ℕ) → d? 0 9 rest (Some n) → IsColour n
digit_most rest n (inl (none, other)) = absurd cc
digit_most rest n (inr (m, number, same)) = let is : n ≡ m = cc in omega (arith, is, number.below)

row_coloured : (name : Name) (rest : List ℕ) (t : tags.Tag) → (table name).rest rest t → IsTagColoured t
row_coloured names.NewPage rest t (none, is) = subst IsTagColoured (sym is) tt
row_coloured names.NewLine rest t (u, f, is) = subst IsTagColoured (sym is) tt
row_coloured names.LineJust rest t (u, f, is) = subst IsTagColoured (sym is) tt
row_coloured names.PageJust rest t (u, f, is) = subst IsTagColoured (sym is) tt
row_coloured names.Font rest t (inl (none, is)) = subst IsTagColoured (sym is) tt
row_coloured names.Font rest t (inr (inl (u, f, is))) = subst IsTagColoured (sym is) tt
row_coloured names.Font rest t (inr (inr (u, f, is))) = subst IsTagColoured (sym is) tt
row_coloured names.CharSpacing rest t (u, f, is) = subst IsTagColoured (sym is) tt
row_coloured names.CharSpacingEnd rest t (none, is) = subst IsTagColoured (sym is) tt
row_coloured names.PageTime rest t (inl (u, f, is)) = subst IsTagColoured (sym is) tt
row_coloured names.PageTime rest t (inr (u, f, is)) = subst IsTagColoured (sym is) tt
row_coloured names.Flash rest t (inl (none, is)) = subst IsTagColoured (sym is) tt
row_coloured names.Flash rest t (inr (inl (u, f, is))) = subst IsTagColoured (sym is) tt
row_coloured names.Flash rest t (inr (inr (inl (u, f, is)))) = subst IsTagColoured (sym is) tt
row_coloured names.Flash rest t (inr (inr (inr (inl (u, f, is))))) = subst IsTagColoured (sym is) tt
row_coloured names.Flash rest t (inr (inr (inr (inr (u, f, is))))) = subst IsTagColoured (sym is) tt
row_coloured names.FlashEnd rest t (none, is) = subst IsTagColoured (sym is) tt
row_coloured names.Fore rest t (None, f, is) = subst IsTagColoured (sym is) tt
row_coloured names.Fore rest t (Some n, f, is) = subst IsTagColoured (sym is) (digit_most rest n f)
row_coloured names.Back rest t (None, f, is) = subst IsTagColoured (sym is) tt
row_coloured names.Back rest t (Some n, f, is) = subst IsTagColoured (sym is) (digit_most rest n f)
row_coloured names.Rect rest t (u, f, is) = subst IsTagColoured (sym is) tt
row_coloured names.HexChar rest t (u, f, is) = subst IsTagColoured (sym is) tt

spelled_coloured : (body : List ℕ) (t : tags.Tag) → Spells body t → IsTagColoured t
unfolding Spells SpellsSmall
spelled_coloured body t (name, rest, is, form) = row_coloured name rest t form

read_coloured : (body : List ℕ) (r : Result tags.Tag TagFault) → tag_of body ≡ r → IsColoured (meaning_of_tag r)
read_coloured body (Ok t) is = spelled_coloured body t (((tag_of_is_the_table body).0 t).1 is)
read_coloured body (Err Unsupported) is = tt
read_coloured body (Err Value) is = tt

-- ---- items

item_coloured : (item : Item) → IsColoured (meaning item)
item_coloured (Char number) = tt
item_coloured (Tag body) = read_coloured body (tag_of body) refl

items_coloured : (items : List Item) → Each IsColoured (map meaning items)
items_coloured [] = tt
items_coloured (item ∷ items) = (item_coloured item, items_coloured items)

laid_coloured : (item : Meaning) (o : Option Spot) → IsColoured item → IsColoured (laid_of item o)
laid_coloured item None is = is
laid_coloured item (Some spot) is = elim (cases_Bool (is_break spot)) [ inl ends ↦ rw ends tt | inr other ↦ rw other is ]

each_laid : (f : List Meaning → Meaning → Meaning) (items : List Meaning) → ((before : List Meaning) (item : Meaning) → IsColoured item → IsColoured (f before item)) → Each IsColoured items
    → Each IsColoured (each_after f items)
each_laid f [] keeps are = tt
each_laid f (item ∷ items) keeps (is, are) =
    (keeps [] item is, each_laid (λ before. f (item ∷ before)) items (λ before other. keeps (item ∷ before) other) are)

-- the items of a string, as a sign lays them out
pub laid_out_coloured : (sign : SignData) (octets : List ℕ) → Each IsColoured (laid_out sign (meanings octets))
laid_out_coloured sign octets =
    each_laid (laid_item sign.line_fill sign (meanings octets)) (meanings octets) (λ before item. laid_coloured item _) (items_coloured (reading octets).items)

-- ---- what is put

module _ (sign : SignData) (fore : IsColour sign.defaults.fore) (back : IsColour sign.defaults.back) where
  fore_given : (item : Meaning) → IsColoured item → IfSome (given_fore sign.defaults item) IsColour
  fore_given (Does (Fore None)) is = fore
  fore_given (Does (Fore (Some colour))) is = is
  fore_given x is = tt

  back_given : (item : Meaning) → IsColoured item → IfSome (given_back sign.defaults item) IsColour
  back_given (Does (Back None)) is = back
  back_given (Does (Back (Some colour))) is = is
  back_given x is = tt

  -- the colours in force
  fore_in_force : (before : List Meaning) → Each IsColoured before → IsColour (in_force (given_fore sign.defaults) sign.defaults.fore before)
  fore_in_force before are = given_or IsColour _ _ (last_given IsColoured (given_fore sign.defaults) IsColour before None fore_given tt are) fore

  back_in_force : (before : List Meaning) → Each IsColoured before → IsColour (in_force (given_back sign.defaults) sign.defaults.back before)
  back_in_force before are = given_or IsColour _ _ (last_given IsColoured (given_back sign.defaults) IsColour before None back_given tt are) back

  -- a background that is put has a colour
  abbrev pub IsPutColoured : Put → Type 0
  IsPutColoured (Glyph cell) = Unit {0}
  IsPutColoured (Break gap) = Unit {0}
  IsPutColoured (Cover page colour) = IsColour colour

  abbrev pub IsSpotColoured : Spot → Type 0
  IsSpotColoured spot = IsColour spot.at.fore × IsPutColoured spot.put

  spot_of : (at : Standing) (put : Option Put) → IsColour at.fore → IfSome put IsPutColoured → IfSome (option_map (λ (p : Put). let s : Spot = record { at = at; put = p } in s) put) IsSpotColoured
  spot_of at None first is = tt
  spot_of at (Some p) first is = (first, is)

  glyph_coloured : (cell : Option CellData) → IfSome (option_map Glyph cell) IsPutColoured
  glyph_coloured None = tt
  glyph_coloured (Some cell) = tt

  put_coloured : (at : Standing) (item : Meaning) → IsColour at.back → IsColoured item → IfSome (put_at sign.defaults at item) IsPutColoured
  put_coloured at (Shows number) behind is = glyph_coloured (cell_numbered at.font number)
  put_coloured at (Does NewPage) behind is = behind
  put_coloured at (Does (Back None)) behind is = back
  put_coloured at (Does (Back (Some colour))) behind is = is
  put_coloured at x behind is = tt

  spot_coloured : (before : List Meaning) (item : Meaning) → Each IsColoured before → IsColoured item → IfSome (spot_at sign.defaults (standing sign before) item) IsSpotColoured
  unfolding standing
  spot_coloured before item are is =
      spot_of (standing sign before) (put_at sign.defaults (standing sign before) item) (fore_in_force before are)
      (put_coloured (standing sign before) item (back_in_force before are) is)

  spots_coloured : (items : List Meaning) → Each IsColoured items → Each IsSpotColoured (spots sign items)
  unfolding spots
  spots_coloured items are = each_made IsColoured IsSpotColoured (λ before item. spot_at sign.defaults (standing sign before) item) items spot_coloured are

  -- ---- what covers

  abbrev pub IsThingColoured : Thing → Type 0
  IsThingColoured thing = IsColour thing.colour

  thing_coloured : (phase : ℕ) (before all : List Spot) (spot : Spot) (put : Put) → IsColour spot.at.fore → IsPutColoured put → IfSome (thing_at phase (place_of before all spot) spot put) IsThingColoured
  thing_coloured phase before all spot (Glyph cell) first is = first
  thing_coloured phase before all spot (Break gap) first is = tt
  thing_coloured phase before all spot (Cover page colour) first is = is

  things_coloured : (phase : ℕ) (items : List Meaning) → Each IsColoured items → Each IsThingColoured (things sign phase items)
  unfolding things things_among
  things_coloured phase items are =
      let all = spots sign items in
      each_made IsSpotColoured IsThingColoured (λ before spot. thing_at phase (place_of before all spot) spot spot.put) all
      (λ before spot front is. thing_coloured phase before all spot spot.put is.0 is.1) (spots_coloured items are)

  covers : (thing : Thing) (test : Bool) → IsThingColoured thing → IfSome (if test then Some thing.colour else None) IsColour
  covers thing true is = is
  covers thing false is = tt

  shown_most : (classic : Bool) (colour : ℕ) → colour ≤ 9 → (if classic then colour else min colour 1) ≤ 9
  shown_most true colour most = most
  shown_most false colour most = omega arith

  pub colour_most : (phase : ℕ) (items : List Meaning) (page column row : ℕ) → Each IsColoured items → shown_colour sign (colour_of sign.defaults (things sign phase items) page column row) ≤ 9
  colour_most phase items page column row are =
      let colour = colour_of sign.defaults (things sign phase items) page column row in
      let most : IsColour colour =
      given_or IsColour _ _ (last_given IsThingColoured _ IsColour (things sign phase items) None (λ thing. covers thing _) tt (things_coloured phase items are)) back in
      shown_most sign.classic colour most
