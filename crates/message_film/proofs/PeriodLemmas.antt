-- After how many tenths of a second what a text shows begins again.
use Rattle.std.proofs.Common.{◌≡◌, ℕ, zero, suc, ◌+◌, ◌-◌, ◌*◌, ◌%◌, Bool, true, false, ◌==◌, ◌||◌, ◌&&◌, nat_le, nat_lt, cond, List, [], ◌∷◌, length, Option, Some, None, IfSome, refl, sym, ap, ◌∙◌, inl, inr, arith}
use Rattle.std.proofs.Math.Nat.{add-mul-mod_self_right}
use Rattle.std.proofs.lemmas.Bool.{cases_Bool, eq-eqb, eqb-true, ne_eqb, or_right}
use Rattle.std.specs.List.{AllByRecursion, cons_option, filter_map, find, last_or, range_with_len}
use Rattle.std.specs.Option.{option_map, option_map_or, unwrap_or}
use Rattle.sign_font.specs.declared.parts.Defaults.{Defaults}
use Rattle.sign_font.specs.Cell as cells
use Rattle.sign_font.specs.Sign.{SignData, sized}
use Rattle.multi_meaning.specs.Address.{Spot, Standing, Put, Glyph, Break, Cover, is_break, put_at, spot_at, spots, standing}
use Rattle.multi_meaning.specs.Attributes.{given_flash}
use Rattle.multi_meaning.specs.declared.attributes.FlashTimes.{FlashTimes}
use Rattle.multi_meaning.specs.declared.times.Shown.TheVariants.{Page}
use Rattle.multi_meaning.specs.Laid.{laid_of, laid_out, laid_spot}
use Rattle.multi_meaning.specs.Meaning.{Meaning, meanings}
use Rattle.multi_meaning.specs.Picture.{in_plane, is_lit_at, pixel_at, shown_colour, thing_at, things, things_among}
use Rattle.multi_meaning.specs.Place.{place_of}
use Rattle.multi_meaning.specs.Times.{cycle, shown_at, shown_within}
use Rattle.multi_meaning.specs.Words.{each_after, some_after}
use Rattle.multi_meaning.proofs.DrawnLemmas.{all_same, pick, picked}
use Rattle.multi_meaning.proofs.TimesLemmas.{shown_always, shown_modulo}
use Rattle.page_picture.specs.Shown.{shown_colour_at}
use Rattle.message_film.specs.Moving.{seen_points}
use Rattle.message_film.specs.Period.{Allows, CycleIsPeriod, Divides, FlashesHavePeriod, times_of}
use Rattle.message_film.proofs.MovingLemmas.{dots_same}

-- SEVERAL PAGES

pub cycle_is_period : CycleIsPeriod
cycle_is_period sign text several side clock =
    let pages = times_of sign text in
    let many : (length pages == 1) ≡ false = ne_eqb (length pages) 1 several in
    ap (seen_points side sign text) (elim (cases_Bool (cycle pages == 0)) [
      | inl none ↦
          let always : ((length pages == 1) || (cycle pages == 0)) ≡ true = rw (many, none) refl in
          let zero : cycle pages ≡ 0 = eqb-true (cycle pages) 0 none in
          let same : clock + cycle pages ≡ clock = omega (arith, zero) in
          ap (shown_at pages) same
      | inr some ↦
          let turns : ((length pages == 1) || (cycle pages == 0)) ≡ false = rw (many, some) refl in
          let one : clock + cycle pages ≡ clock + 1 * cycle pages = omega arith in
          shown_modulo pages (clock + cycle pages) turns
          ∙ ap (shown_within pages) (ap (λ n. n % cycle pages) one ∙ add-mul-mod_self_right clock 1 (cycle pages))
          ∙ sym (shown_modulo pages clock turns)
    ])

-- FLASHES

lit_again : (phase tenths : ℕ) (flash : Option FlashTimes) → IfSome flash (Divides tenths) → is_lit_at (phase + tenths) flash ≡ is_lit_at phase flash
lit_again phase tenths None divides = refl
lit_again phase tenths (Some flash) (inl none) =
    let zero : ((flash.on + flash.off) == 0) ≡ true = eq-eqb (flash.on + flash.off) 0 none in
    rw zero refl
lit_again phase tenths (Some flash) (inr (times, is)) =
    let sum = flash.on + flash.off in
    let same : (phase + tenths) % sum ≡ phase % sum = ap (λ n. (phase + n) % sum) is ∙ add-mul-mod_self_right phase times sum in
    ap (λ m. cond (sum == 0) true (cond flash.off_first (nat_le flash.off m) (nat_lt m flash.on))) same

-- what is put gives a pixel the same where its flash is the same
put_again : (phase tenths page column row : ℕ) (before all : List Spot) (spot : Spot) (put : Put) → IfSome spot.at.flash (Divides tenths)
    → picked page column row (thing_at (phase + tenths) (place_of before all spot) spot put) ≡ picked page column row (thing_at phase (place_of before all spot) spot put)
put_again phase tenths page column row before all spot (Cover other colour) divides = refl
put_again phase tenths page column row before all spot (Break gap) divides = refl
put_again phase tenths page column row before all spot (Glyph cell) divides =
    let place = place_of before all spot in
    ap (λ lit. cond ((spot.at.page == page) && (lit && nat_le place.column column && nat_le place.row row && nat_lt row (place.row + spot.at.font.height)
    && cells.is_lit (sized spot.at.font cell) (column - place.column) (row - place.row))) (Some spot.at.fore) None) (lit_again phase tenths spot.at.flash divides)

-- THE FLASH IN FORCE

force_next : (tenths : ℕ) (last given : Option (Option FlashTimes)) (rest : List (Option FlashTimes)) → IfSome given (λ flash. IfSome flash (Divides tenths))
    → IfSome (unwrap_or (last_or last rest) None) (Divides tenths)
    → ((flash : Option FlashTimes) → IfSome flash (Divides tenths) → IfSome (unwrap_or (last_or (Some flash) rest) None) (Divides tenths))
    → IfSome (unwrap_or (last_or last (cons_option given rest)) None) (Divides tenths)
force_next tenths last None rest allows kept taken = kept
force_next tenths last (Some flash) rest allows kept taken = taken flash allows

force_from : (defaults : Defaults) (tenths : ℕ) (last : Option (Option FlashTimes)) (before : List Meaning) → IfSome last (λ given. IfSome given (Divides tenths))
    → AllByRecursion (Allows defaults tenths) before → IfSome (unwrap_or (last_or last (filter_map (given_flash defaults) before)) None) (Divides tenths)
force_from defaults tenths None [] so_far allow = tt
force_from defaults tenths (Some given) [] so_far allow = so_far
force_from defaults tenths last (item ∷ before) so_far allow =
    force_next tenths last (given_flash defaults item) (filter_map (given_flash defaults) before) allow.0 (force_from defaults tenths last before so_far allow.1)
    (λ flash allows. force_from defaults tenths (Some flash) before allows allow.1)

standing_flash : (sign : SignData) (tenths : ℕ) (before : List Meaning) → AllByRecursion (Allows sign.defaults tenths) before → IfSome (standing sign before).flash (Divides tenths)
unfolding standing
standing_flash sign tenths before allow = force_from sign.defaults tenths None before tt allow

-- each spot stands under such a flash
spots_next : (tenths : ℕ) (at : Standing) (put : Option Put) (rest : List Spot) → IfSome at.flash (Divides tenths) → AllByRecursion (λ (spot : Spot). IfSome spot.at.flash (Divides tenths)) rest
    → AllByRecursion (λ (spot : Spot). IfSome spot.at.flash (Divides tenths)) (cons_option (option_map (λ put. record { at = at; put = put }) put) rest)
spots_next tenths at None rest flash others = others
spots_next tenths at (Some put) rest flash others = (flash, others)

spots_from : (sign : SignData) (tenths : ℕ) (from : List Meaning → List Meaning)
    → ((before : List Meaning) → AllByRecursion (Allows sign.defaults tenths) before → AllByRecursion (Allows sign.defaults tenths) (from before))
    → (items : List Meaning) → AllByRecursion (Allows sign.defaults tenths) items
    → AllByRecursion (λ (spot : Spot). IfSome spot.at.flash (Divides tenths)) (some_after (λ before item. spot_at sign.defaults (standing sign (from before)) item) items)
spots_from sign tenths from keeps [] allow = tt
spots_from sign tenths from keeps (item ∷ items) allow =
    spots_next tenths (standing sign (from [])) (put_at sign.defaults (standing sign (from [])) item) (some_after (λ before other. spot_at sign.defaults (standing sign (from (item ∷ before))) other) items)
    (standing_flash sign tenths (from []) (keeps [] tt))
    (spots_from sign tenths (λ before. from (item ∷ before)) (λ before all. keeps (item ∷ before) (allow.0, all)) items allow.1)

spots_flash : (sign : SignData) (tenths : ℕ) (items : List Meaning) → AllByRecursion (Allows sign.defaults tenths) items
    → AllByRecursion (λ (spot : Spot). IfSome spot.at.flash (Divides tenths)) (spots sign items)
unfolding spots
spots_flash sign tenths items allow = spots_from sign tenths (λ before. before) (λ before all. all) items allow

-- AS ITEMS ARE LAID OUT

laid_allows : (defaults : Defaults) (tenths : ℕ) (item : Meaning) (spot : Option Spot) → Allows defaults tenths item → Allows defaults tenths (laid_of item spot)
laid_allows defaults tenths item None allows = allows
laid_allows defaults tenths item (Some spot) allows = elim (cases_Bool (is_break spot)) [
  | inl is ↦ rw is tt
  | inr isn't ↦ rw isn't allows
]

laid_from : (defaults : Defaults) (tenths : ℕ) (spot_of : List Meaning → Meaning → Option Spot) (items : List Meaning) → AllByRecursion (Allows defaults tenths) items
    → AllByRecursion (Allows defaults tenths) (each_after (λ before item. laid_of item (spot_of before item)) items)
laid_from defaults tenths spot_of [] allow = tt
laid_from defaults tenths spot_of (item ∷ items) allow =
    (laid_allows defaults tenths item (spot_of [] item) allow.0, laid_from defaults tenths (λ before. spot_of (item ∷ before)) items allow.1)

laid_out_allows : (sign : SignData) (tenths : ℕ) (items : List Meaning) → AllByRecursion (Allows sign.defaults tenths) items → AllByRecursion (Allows sign.defaults tenths) (laid_out sign items)
laid_out_allows sign tenths items allow =
    laid_from sign.defaults tenths (λ before item. option_map (laid_spot sign.line_fill (spots sign items) (spots sign before)) (spot_at sign.defaults (standing sign before) item)) items allow

-- PIXELS

things_again : (sign : SignData) (phase tenths : ℕ) (items : List Meaning) (page column row : ℕ) → AllByRecursion (Allows sign.defaults tenths) items
    → filter_map (pick page column row) (things sign (phase + tenths) items) ≡ filter_map (pick page column row) (things sign phase items)
unfolding things things_among
things_again sign phase tenths items page column row allow =
    let all = spots sign items in
    all_same page column row (λ before spot. thing_at (phase + tenths) (place_of before all spot) spot spot.put) (λ before spot. thing_at phase (place_of before all spot) spot spot.put)
    (λ (spot : Spot). IfSome spot.at.flash (Divides tenths))
    (λ before spot divides. put_again phase tenths page column row before all spot spot.put divides)
    all (spots_flash sign tenths items allow)

pixel_again : (sign : SignData) (phase tenths : ℕ) (items : List Meaning) (page colour column row : ℕ) → AllByRecursion (Allows sign.defaults tenths) items
    → in_plane sign items page (phase + tenths) colour column row ≡ in_plane sign items page phase colour column row
unfolding in_plane
pixel_again sign phase tenths items page colour column row allow =
    ap (λ found. shown_colour sign (unwrap_or (last_or None found) sign.defaults.back) == colour) (things_again sign phase tenths items page column row allow)

found_same : (has other : ℕ → Bool) (a n : ℕ) → ((colour : ℕ) → has colour ≡ other colour) → find has (range_with_len a n) ≡ find other (range_with_len a n)
found_same has other a zero same = refl
found_same has other a (suc n) same =
    ap (λ b. cond b (Some a) (find has (range_with_len (a + 1) n))) (same a) ∙ ap (λ o. cond (other a) (Some a) o) (found_same has other (a + 1) n same)

colour_again : (sign : SignData) (text : List ℕ) (phase tenths column row : ℕ) → AllByRecursion (Allows sign.defaults tenths) (meanings text)
    → shown_colour_at sign text (Page 0 (phase + tenths)) column row ≡ shown_colour_at sign text (Page 0 phase) column row
colour_again sign text phase tenths column row allow =
    ap (λ found. option_map_or (λ colour. colour) found 0)
    (found_same (λ colour. pixel_at sign (meanings text) (Page 0 (phase + tenths)) colour column row) (λ colour. pixel_at sign (meanings text) (Page 0 phase) colour column row) 1 9
    (λ colour. pixel_again sign phase tenths (laid_out sign (meanings text)) 0 colour column row (laid_out_allows sign tenths (meanings text) allow)))

pub flashes_have_period : FlashesHavePeriod
flashes_have_period sign text tenths one allow side clock =
    let pages = times_of sign text in
    let always : ((length pages == 1) || (cycle pages == 0)) ≡ true = elim one [
      | inl single ↦ let is : (length pages == 1) ≡ true = eq-eqb (length pages) 1 single in rw is refl
      | inr none ↦ let is : (cycle pages == 0) ≡ true = eq-eqb (cycle pages) 0 none in or_right (length pages == 1) (cycle pages == 0) is
    ] in
    ap (seen_points side sign text) (shown_always pages (clock + tenths) always)
    ∙ dots_same side (shown_colour_at sign text (Page 0 (clock + tenths))) (shown_colour_at sign text (Page 0 clock)) sign.width sign.height (λ column row left above. colour_again sign text clock tenths column row allow)
    ∙ sym (ap (seen_points side sign text) (shown_always pages clock always))
