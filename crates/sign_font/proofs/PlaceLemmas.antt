-- Tables of places by number.
use Rattle.std.proofs.Common.{◌≡◌, ℕ, ◌+◌, ◌<◌, ◌≤◌, ◌==◌, Bool, true, false, List, [], ◌∷◌, ◌++◌, map, length, get_or, set, take, replicate, slice_get, slice_index, Option, Some, None, refl, sym, ap, ◌∙◌, arith, inl, inr}
use Rattle.std.specs.Prelude.{find, option_map, unwrap_or}
use Rattle.std.proofs.lemmas.Bool.{eq-eqb, ne_eqb, cases_Bool, cases_eq}
use Rattle.std.proofs.lemmas.List.{get_or-set_same, get_or-set_other, get_or-replicate, get_or-take, take_more, take_all, length-take-le}
use Rattle.std.proofs.lemmas.List.Folds.{find-append}
use Rattle.std.proofs.lemmas.Option.{slice_get_past, slice_get_read, get_or_from_slice_get}
use Rattle.sign_font.specs.Cell.{SizedCell}
use Rattle.sign_font.specs.Limits.{is_rising}
use Rattle.sign_font.specs.internal.Font.{ArePlaces, AreWidths}
use Rattle.sign_font.proofs.FindLemmas.{find_none}
use Rattle.sign_font.proofs.RisingLemmas.{rising_below}

-- one more thing that fails a test changes nothing of what is found
find_push_other : {X : Type 0} (test : X → Bool) (xs : List X) (x : X) → test x ≡ false → find test (xs ++ x ∷ []) ≡ find test xs
find_push_other test [] x fails = rw fails refl
find_push_other test (y ∷ xs) x fails =
    elim (cases_Bool (test y)) [
      | inl e ↦ rw e refl
      | inr e ↦ rw e (find_push_other test xs x fails)
    ]

-- one more thing that passes a test is found, where none before it passes
pub find_push_here : {X : Type 0} (test : X → Bool) (xs : List X) (x : X) → find test xs ≡ None → test x ≡ true → find test (xs ++ x ∷ []) ≡ Some x
find_push_here test xs x none passes = find-append test xs (x ∷ []) ∙ rw none (rw passes refl)

-- by number below 256, the place of the first of the first things of that number, or a place where nothing stands
abbrev pub ArePlacesBelow : {X : Type 0} → (X → ℕ) → List X → ℕ → List ℕ → Type 0
ArePlacesBelow number_of things count places =
    (number : ℕ) → number < 256 → slice_get things (slice_index places number) ≡ find (λ thing. number_of thing == number) (take count things)

-- nothing stands past the last place
pub places_none : {X : Type 0} (number_of : X → ℕ) (things : List X) → length things ≤ 255 → ArePlacesBelow number_of things 0 (replicate 256 255)
places_none number_of things short number h =
    let nowhere : slice_index (replicate 256 255) number ≡ 255 = get_or-replicate {A = ℕ} 256 number 255 0 h in
    rw nowhere (slice_get_past things 255 short)

-- before the next thing none has its number
pub none_before : {X : Type 0} (number_of : X → ℕ) (things : List X) (count number : ℕ) (thing : X) → is_rising (map number_of things) ≡ true
    → count < length things → thing ≡ get_or things count thing → number_of thing ≡ number
    → find (λ other. number_of other == number) (take count things) ≡ None
none_before number_of things count number thing rising within is named =
    find_none number_of (take count things) number (λ j d inside same.
    let short : length (take count things) ≡ count = length-take-le count things (omega arith) in
    let early : j < count = omega arith in
    let here : get_or things count d ≡ thing = get_or_from_slice_get things count thing d (slice_get_read things (length things) count thing refl within is) in
    let below : number_of (get_or things j d) < number_of (get_or things count d) = rising_below number_of things d rising j count early within in
    let there : number_of (get_or things j d) ≡ number = ap number_of (sym (get_or-take count things j d early)) ∙ same in
    let last : number_of (get_or things count d) ≡ number = ap number_of here ∙ named in
    omega arith)

-- one more place
pub places_more : {X : Type 0} (number_of : X → ℕ) (things : List X) (count : ℕ) (thing : X) (places : List ℕ) → is_rising (map number_of things) ≡ true
    → count < length things → thing ≡ get_or things count thing → number_of thing < length places
    → ArePlacesBelow number_of things count places → ArePlacesBelow number_of things (count + 1) (set places (number_of thing) count)
places_more number_of things count thing places rising within is room before number h =
    let more : take (count + 1) things ≡ take count things ++ thing ∷ [] = take_more things count thing within ∙ ap (λ t. take count things ++ t ∷ []) (sym is) in
    elim (cases_eq (number_of thing) number) [
      | inl e ↦
          let here : slice_index (set places (number_of thing) count) number ≡ count = rw (← e) (get_or-set_same places (number_of thing) count 0 room) in
          let none = none_before number_of things count number thing rising within is e in
          rw (here, more) (slice_get_read things (length things) count thing refl within is ∙ sym (find_push_here _ (take count things) thing none (eq-eqb (number_of thing) number e)))
      | inr n ↦
          let there : slice_index (set places (number_of thing) count) number ≡ slice_index places number = get_or-set_other places (number_of thing) number count 0 (λ same. n (sym same)) in
          rw (there, more) (before number h ∙ sym (find_push_other _ (take count things) thing (ne_eqb (number_of thing) number n)))
    ]

-- one more thing of a number above 255 changes no place
pub places_past : {X : Type 0} (number_of : X → ℕ) (things : List X) (count : ℕ) (thing : X) (places : List ℕ)
    → count < length things → thing ≡ get_or things count thing → 256 ≤ number_of thing
    → ArePlacesBelow number_of things count places → ArePlacesBelow number_of things (count + 1) places
places_past number_of things count thing places within is wide before number h =
    let more : take (count + 1) things ≡ take count things ++ thing ∷ [] = take_more things count thing within ∙ ap (λ t. take count things ++ t ∷ []) (sym is) in
    rw more (before number h ∙ sym (find_push_other _ (take count things) thing (ne_eqb (number_of thing) number (λ same. omega arith))))

-- when each thing has its place, the table is whole
pub places_all : {X : Type 0} (number_of : X → ℕ) (things : List X) (count : ℕ) (places : List ℕ) → length things ≤ count → ArePlacesBelow number_of things count places → ArePlaces number_of things places
places_all number_of things count places whole below number h = below number h ∙ ap (find (λ thing. number_of thing == number)) (take_all count things whole)

-- by octet, the width of the cell at its place, or 0
abbrev pub AreWidthsAt : List SizedCell → List ℕ → List ℕ → Type 0
AreWidthsAt cells places widths =
    (octet : ℕ) → octet < 256 → slice_index widths octet ≡ unwrap_or (option_map (λ cell. cell.width) (slice_get cells (slice_index places octet))) 0

pub widths_none : (cells : List SizedCell) → length cells ≤ 255 → AreWidthsAt cells (replicate 256 255) (replicate 256 0)
widths_none cells short octet h =
    let nowhere : slice_index (replicate 256 255) octet ≡ 255 = get_or-replicate {A = ℕ} 256 octet 255 0 h in
    let nothing : slice_index (replicate 256 0) octet ≡ 0 = get_or-replicate {A = ℕ} 256 octet 0 0 h in
    rw (nowhere, nothing, slice_get_past cells 255 short) refl

pub widths_more : (cells : List SizedCell) (count : ℕ) (cell : SizedCell) (places widths : List ℕ)
    → count < length cells → cell ≡ get_or cells count cell → cell.number < length places → cell.number < length widths
    → AreWidthsAt cells places widths → AreWidthsAt cells (set places cell.number count) (set widths cell.number cell.width)
widths_more cells count cell places widths within is room space before octet h =
    elim (cases_eq cell.number octet) [
      | inl e ↦
          let here : slice_index (set places cell.number count) octet ≡ count = rw (← e) (get_or-set_same places cell.number count 0 room) in
          let wide : slice_index (set widths cell.number cell.width) octet ≡ cell.width = rw (← e) (get_or-set_same widths cell.number cell.width 0 space) in
          rw (here, wide, slice_get_read cells (length cells) count cell refl within is) refl
      | inr n ↦
          let there : slice_index (set places cell.number count) octet ≡ slice_index places octet = get_or-set_other places cell.number octet count 0 (λ same. n (sym same)) in
          let wide : slice_index (set widths cell.number cell.width) octet ≡ slice_index widths octet = get_or-set_other widths cell.number octet cell.width 0 (λ same. n (sym same)) in
          rw (there, wide) (before octet h)
    ]

-- widths at the places of the numbers are those of the numbers
pub widths_all : (cells : List SizedCell) (places widths : List ℕ) → ArePlaces (λ (cell : SizedCell). cell.number) cells places → AreWidthsAt cells places widths → AreWidths cells widths
widths_all cells places widths placed at octet h = at octet h ∙ ap (λ (found : Option SizedCell). unwrap_or (option_map (λ cell. cell.width) found) 0) (placed octet h)
