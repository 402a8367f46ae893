-- The characters of a page as they are laid out, and the flashes in force where they stand.
use Rattle.std.proofs.Common.{◌≡◌, ◌⊎◌, ℕ, ◌+◌, true, false, ◌==◌, cond, List, [], ◌∷◌, ◌++◌, Option, Some, None, IfSome, refl, sym, ap, ◌∙◌, subst, inl, inr, append-nil, append_assoc, eq-eqb}
use Rattle.std.proofs.lemmas.Bool.{cases_Bool}
use Rattle.std.specs.List.{AllByRecursion, cons_option}
use Rattle.std.specs.Option.{option_map, unwrap_or}
use Rattle.multi_tag.specs.declared.tag.Tag.TheVariants.{NewPage, NewLine}
use Rattle.sign_font.specs.declared.parts.LineFill.{LineFill}
use Rattle.sign_font.specs.Sign.{CellData, SignData, cell_numbered}
use Rattle.multi_meaning.specs.Address.{Break, Cover, Glyph, Put, Spot, Standing, is_break, spot_at, spots, standing}
use Rattle.multi_meaning.specs.Attributes.{given_flash}
use Rattle.multi_meaning.specs.declared.attributes.FlashTimes.{FlashTimes}
use Rattle.multi_meaning.specs.Laid.{laid_spot, laid_of, laid_out}
use Rattle.multi_meaning.specs.Line.{given_gap}
use Rattle.multi_meaning.specs.Meaning.{Does, Meaning, Shows, is_new_page}
use Rattle.multi_meaning.specs.Words.{each_after, some_after}
use Rattle.multi_meaning.proofs.StandingLemmas.{standing_push}
use Rattle.multi_layout.specs.Change.{IsBefore, flash_left, flash_on, page_flashes}

-- an item as it is laid out: the item itself, or the end of a line for one that begins no page and gives no flash
abbrev Alike : SignData → Meaning → Meaning → Type 0
Alike sign item laid = (laid ≡ item) ⊎ ((is_new_page item ≡ false) × (given_flash sign.defaults item ≡ None) × ((gap : Option ℕ) × (laid ≡ Does (NewLine gap))))

alike_shown : (sign : SignData) (number : ℕ) (spot : Option Spot) → Alike sign (Shows number) (laid_of (Shows number) spot)
alike_shown sign number None = inl refl
alike_shown sign number (Some spot) = elim (cases_Bool (is_break spot)) [
  | inl is ↦ inr (refl, refl, (given_gap spot, rw is refl))
  | inr isn't ↦ inl (rw isn't refl)
]

laid_alike : (sign : SignData) (setting : LineFill) (all before : List Spot) (at : Standing) (item : Meaning)
    → Alike sign item (laid_of item (option_map (laid_spot setting all before) (spot_at sign.defaults at item)))
laid_alike sign setting all before at (Shows number) = alike_shown sign number (option_map (laid_spot setting all before) (spot_at sign.defaults at (Shows number)))
laid_alike sign setting all before at (Does (NewLine gap)) = inr (refl, refl, (given_gap (record { at = at; put = Break gap }), refl))
laid_alike sign setting all before at x = inl refl

-- items stand alike if they stand on the same page, with the same flash in force
record StandsAlike (one other : Standing) : Type 0 where
  page : one.page ≡ other.page
  flash : one.flash ≡ other.flash

alike_next : (sign : SignData) (before laid : List Meaning) (item next : Meaning) → StandsAlike (standing sign before) (standing sign laid) → Alike sign item next
    → StandsAlike (standing sign (before ++ item ∷ [])) (standing sign (laid ++ next ∷ []))
alike_next sign before laid item next alike same =
    let one = standing_push sign before item in
    let other = standing_push sign laid next in
    record {
      page =
          ap (λ (s : Standing). s.page) one
          ∙ ap (λ n. n + cond (is_new_page item) 1 0) alike.page
          ∙ ap (λ n. (standing sign laid).page + n) (page_same same)
          ∙ sym (ap (λ (s : Standing). s.page) other);
      flash =
          ap (λ (s : Standing). s.flash) one
          ∙ ap (unwrap_or (given_flash sign.defaults item)) alike.flash
          ∙ ap (λ o. unwrap_or o (standing sign laid).flash) (flash_same same)
          ∙ sym (ap (λ (s : Standing). s.flash) other);
    }
  where
    page_same : Alike sign item next → cond {A = ℕ} (is_new_page item) 1 0 ≡ cond (is_new_page next) 1 0
    page_same (inl is) = ap (λ x. cond (is_new_page x) 1 0) (sym is)
    page_same (inr (none, given, (gap, is))) = ap (λ b. cond b 1 0) none ∙ ap (λ x. cond (is_new_page x) 1 0) (sym is)

    flash_same : Alike sign item next → given_flash sign.defaults item ≡ given_flash sign.defaults next
    flash_same (inl is) = ap (given_flash sign.defaults) (sym is)
    flash_same (inr (none, given, (gap, is))) = given ∙ ap (given_flash sign.defaults) (sym is)

-- what is put doesn't change on this page before some tenths have passed
abbrev pub IsSteadyPut : ℕ → ℕ → ℕ → Standing → Put → Type 0
IsSteadyPut page phase tenths at (Glyph cell) = at.page ≡ page → IsBefore tenths (flash_left phase at.flash)
IsSteadyPut page phase tenths at (Break gap) = Unit {0}
IsSteadyPut page phase tenths at (Cover other colour) = Unit {0}

abbrev pub IsSteady : ℕ → ℕ → ℕ → Spot → Type 0
IsSteady page phase tenths spot = IsSteadyPut page phase tenths spot.at spot.put

abbrev spot_of : Standing → Option Put → Option Spot
spot_of at put = option_map (λ put. record { at = at; put = put }) put

-- a character's flash is among those of its page
shown_steady : (page phase tenths number : ℕ) (at laid : Standing) (cell : Option CellData) → StandsAlike at laid → IfSome (flash_on page at (Shows number)) (λ flash. IsBefore tenths (flash_left phase flash))
    → IfSome (spot_of laid (option_map Glyph cell)) (IsSteady page phase tenths)
shown_steady page phase tenths number at laid None alike before = tt
shown_steady page phase tenths number at laid (Some cell) alike before = λ here.
    let is : (at.page == page) ≡ true = eq-eqb at.page page (alike.page ∙ here) in
    let given : flash_on page at (Shows number) ≡ Some at.flash = ap (λ b. cond b (Some at.flash) None) is in
    let soon : IsBefore tenths (flash_left phase at.flash) = subst (λ o. IfSome o (λ flash. IsBefore tenths (flash_left phase flash))) given before in
    subst (λ f. IsBefore tenths (flash_left phase f)) alike.flash soon

same_steady : (sign : SignData) (page phase tenths : ℕ) (at laid : Standing) (item : Meaning) → StandsAlike at laid → IfSome (flash_on page at item) (λ flash. IsBefore tenths (flash_left phase flash))
    → IfSome (spot_at sign.defaults laid item) (IsSteady page phase tenths)
same_steady sign page phase tenths at laid (Shows number) alike before = shown_steady page phase tenths number at laid (cell_numbered laid.font number) alike before
same_steady sign page phase tenths at laid (Does NewPage) alike before = tt
same_steady sign page phase tenths at laid x alike before = tt

laid_steady : (sign : SignData) (page phase tenths : ℕ) (at laid : Standing) (item next : Meaning) → StandsAlike at laid → Alike sign item next
    → IfSome (flash_on page at item) (λ flash. IsBefore tenths (flash_left phase flash)) → IfSome (spot_at sign.defaults laid next) (IsSteady page phase tenths)
laid_steady sign page phase tenths at laid item next alike (inl is) before =
    subst (λ x. IfSome (spot_at sign.defaults laid x) (IsSteady page phase tenths)) (sym is) (same_steady sign page phase tenths at laid item alike before)
laid_steady sign page phase tenths at laid item next alike (inr (none, given, (gap, is))) before =
    subst (λ x. IfSome (spot_at sign.defaults laid x) (IsSteady page phase tenths)) (sym is) tt

-- ALL ITEMS

part_all : {X : Type 0} (Holds : X → Type 0) (one : Option X) (rest : List X) → AllByRecursion Holds (cons_option one rest) → IfSome one Holds × AllByRecursion Holds rest
part_all Holds None rest all = (tt, all)
part_all Holds (Some x) rest all = (all.0, all.1)

join_all : {X : Type 0} (Holds : X → Type 0) (one : Option X) (rest : List X) → IfSome one Holds → AllByRecursion Holds rest → AllByRecursion Holds (cons_option one rest)
join_all Holds None rest one all = all
join_all Holds (Some x) rest one all = (one, all)

steady_from : (sign : SignData) (page phase tenths : ℕ) (items : List Meaning) (before laid : List Meaning) (behind laid_behind : List Meaning → List Meaning)
    → ((more : List Meaning) → behind more ≡ before ++ more) → ((more : List Meaning) → laid_behind more ≡ laid ++ more) → StandsAlike (standing sign before) (standing sign laid)
    → (next : List Meaning → Meaning → Meaning) → ((more : List Meaning) (item : Meaning) → Alike sign item (next more item))
    → AllByRecursion (λ flash. IsBefore tenths (flash_left phase flash)) (some_after (λ more item. flash_on page (standing sign (behind more)) item) items)
    → AllByRecursion (IsSteady page phase tenths) (some_after (λ more item. spot_at sign.defaults (standing sign (laid_behind more)) item) (each_after next items))
steady_from sign page phase tenths [] before laid behind laid_behind is laid_is same next alike soon = tt
steady_from sign page phase tenths (item ∷ items) before laid behind laid_behind is laid_is same next alike soon =
    let Soon : Option FlashTimes → Type 0 = λ flash. IsBefore tenths (flash_left phase flash) in
    let here : StandsAlike (standing sign (behind [])) (standing sign (laid_behind [])) =
    subst (λ l. StandsAlike (standing sign l) (standing sign (laid_behind []))) (sym (is [] ∙ append-nil before))
    (subst (λ l. StandsAlike (standing sign before) (standing sign l)) (sym (laid_is [] ∙ append-nil laid)) same) in
    let one = next [] item in
    let parts = part_all Soon (flash_on page (standing sign (behind [])) item) (some_after (λ more other. flash_on page (standing sign (behind (item ∷ more))) other) items) soon in
    let rest = steady_from sign page phase tenths items (before ++ item ∷ []) (laid ++ one ∷ []) (λ more. behind (item ∷ more)) (λ more. laid_behind (one ∷ more))
    (λ more. is (item ∷ more) ∙ sym (append_assoc before (item ∷ []) more)) (λ more. laid_is (one ∷ more) ∙ sym (append_assoc laid (one ∷ []) more))
    (alike_next sign before laid item one same (alike [] item)) (λ more. next (item ∷ more)) (λ more. alike (item ∷ more)) parts.1 in
    join_all (IsSteady page phase tenths) (spot_at sign.defaults (standing sign (laid_behind [])) one)
    (some_after (λ more other. spot_at sign.defaults (standing sign (laid_behind (one ∷ more))) other) (each_after (λ more. next (item ∷ more)) items))
    (laid_steady sign page phase tenths (standing sign (behind [])) (standing sign (laid_behind [])) item one here (alike [] item) parts.0) rest

-- no character of a page changes as it is laid out before a flash of the page does
pub laid_out_steady : (sign : SignData) (page phase tenths : ℕ) (items : List Meaning) → AllByRecursion (λ flash. IsBefore tenths (flash_left phase flash)) (page_flashes sign items page)
    → AllByRecursion (IsSteady page phase tenths) (spots sign (laid_out sign items))
unfolding page_flashes spots
laid_out_steady sign page phase tenths items soon =
    steady_from sign page phase tenths items [] [] (λ more. more) (λ more. more) (λ more. refl) (λ more. refl) (record { page = refl; flash = refl })
    (λ before item. laid_of item (option_map (laid_spot sign.line_fill (some_after (λ b x. spot_at sign.defaults (standing sign b) x) items) (some_after (λ b x. spot_at sign.defaults (standing sign b) x) before)) (spot_at sign.defaults (standing sign before) item)))
    (λ before item. laid_alike sign sign.line_fill (some_after (λ b x. spot_at sign.defaults (standing sign b) x) items) (some_after (λ b x. spot_at sign.defaults (standing sign b) x) before) (standing sign before) item) soon
