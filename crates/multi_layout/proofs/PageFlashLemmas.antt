-- The flashes of a page, item by item.
use Rattle.std.proofs.Common.{◌≡◌, ℕ, ◌+◌, ◌<◌, true, ◌==◌, ◌&&◌, cond, List, [], ◌∷◌, ◌++◌, Option, Some, None, refl, sym, ap, ◌∙◌, inl, inr, arith, append-nil}
use Rattle.std.proofs.lemmas.Bool.{and_right, cases_Bool, eq-eqb, ne_eqb}
use Rattle.std.proofs.lemmas.List.Sums.{fold-append, sum_by-append, sum_by-cons}
use Rattle.std.specs.List.{cons_option, count_by}
use Rattle.multi_tag.specs.declared.tag.Tag.TheVariants.{NewPage}
use Rattle.sign_font.specs.Sign.{SignData}
use Rattle.multi_meaning.specs.Address.{Standing, standing}
use Rattle.multi_meaning.specs.declared.attributes.FlashTimes.{FlashTimes}
use Rattle.multi_meaning.specs.Meaning.{Does, Meaning, is_new_page}
use Rattle.multi_meaning.specs.Verdict.{pages_of}
use Rattle.multi_meaning.specs.Words.{some_after}
use Rattle.multi_meaning.specs.internal.Bounds.{BeginsPage}
use Rattle.multi_judge.proofs.JudgedLemmas.{pages_of-push}
use Rattle.multi_meaning.proofs.StandingLemmas.{standing_push}
use Rattle.multi_meaning.proofs.WordLemmas.{push_ind, some_after-append, some_after_push}
use Rattle.multi_layout.specs.Change.{flash_left, flash_on, flashes_left, is_shown, page_flashes, sooner}

pub page_is : (sign : SignData) (before : List Meaning) → (standing sign before).page ≡ count_by is_new_page before
unfolding standing
page_is sign before = refl

pub page_push : (sign : SignData) (before : List Meaning) (item : Meaning) → (standing sign (before ++ item ∷ [])).page ≡ (standing sign before).page + cond (is_new_page item) 1 0
page_push sign before item = ap (λ (s : Standing). s.page) (standing_push sign before item)

pub flashes_push : (sign : SignData) (before : List Meaning) (item : Meaning) (page : ℕ)
    → page_flashes sign (before ++ item ∷ []) page ≡ page_flashes sign before page ++ cons_option (flash_on page (standing sign before) item) []
unfolding page_flashes
flashes_push sign before item page = some_after_push (λ b x. flash_on page (standing sign b) x) before item

pub no_flashes : (sign : SignData) (page : ℕ) → page_flashes sign [] page ≡ []
unfolding page_flashes
no_flashes sign page = refl

pub apart : (page : ℕ) (at : Standing) (item : Meaning) → (at.page ≡ page → ⊥) → flash_on page at item ≡ None
apart page at item other = ap (λ b. cond b (Some at.flash) None) (and_right (is_shown item) (at.page == page) (ne_eqb at.page page other))

-- a page that hasn't begun has none
pub none_later : (sign : SignData) (before : List Meaning) → (page : ℕ) → (standing sign before).page < page → page_flashes sign before page ≡ []
none_later sign = push_ind (λ before. (page : ℕ) → (standing sign before).page < page → page_flashes sign before page ≡ []) (λ page later. no_flashes sign page) step
  where
    step : (before : List Meaning) (item : Meaning) → ((page : ℕ) → (standing sign before).page < page → page_flashes sign before page ≡ []) → (page : ℕ)
        → (standing sign (before ++ item ∷ [])).page < page → page_flashes sign (before ++ item ∷ []) page ≡ []
    step before item none page later =
        let more = page_push sign before item in
        let earlier : (standing sign before).page < page = omega (arith, more, later) in
        flashes_push sign before item page
        ∙ ap (λ l. l ++ cons_option (flash_on page (standing sign before) item) []) (none page earlier)
        ∙ ap (λ o. cons_option o []) (apart page (standing sign before) item (λ same. omega (arith, same, earlier)))

-- nor has one that begins
pub none_at_start : (sign : SignData) (before : List Meaning) (page : ℕ) → BeginsPage before → pages_of before ≡ page + 1 → page_flashes sign before page ≡ []
none_at_start sign before page (inl is) here = ap (λ l. page_flashes sign l page) is ∙ no_flashes sign page
none_at_start sign before page (inr (earlier, is)) here =
    let pages = page_is sign earlier in
    let more = ap pages_of is ∙ pages_of-push earlier (Does NewPage) in
    let begun : (standing sign earlier).page < page = omega (arith, here, pages, more) in
    ap (λ l. page_flashes sign l page) is
    ∙ flashes_push sign earlier (Does NewPage) page
    ∙ ap (λ l. l ++ cons_option (flash_on page (standing sign earlier) (Does NewPage)) []) (none_later sign earlier page begun)

none_made : {X Y : Type 0} (f : List X → X → Option Y) (xs : List X) → ((before : List X) (x : X) → f before x ≡ None) → some_after f xs ≡ []
none_made f [] none = refl
none_made f (x ∷ xs) none = ap (λ o. cons_option o (some_after (λ before. f (x ∷ before)) xs)) (none [] x) ∙ none_made (λ before. f (x ∷ before)) xs (λ before. none (x ∷ before))

-- after a new page there are no more of the page before
pub flashes_ended : (sign : SignData) (before rest : List Meaning) → page_flashes sign (before ++ Does NewPage ∷ rest) (standing sign before).page ≡ page_flashes sign before (standing sign before).page
unfolding page_flashes
flashes_ended sign before rest =
    let page = (standing sign before).page in
    let on : List Meaning → Meaning → Option (Option FlashTimes) = λ b x. flash_on page (standing sign b) x in
    some_after-append on before (Does NewPage ∷ rest)
    ∙ ap (λ l. some_after on before ++ l) (none_made (λ b. on (before ++ Does NewPage ∷ b)) rest (λ b x.
    apart page (standing sign (before ++ Does NewPage ∷ b)) x (λ same.
    let here = page_is sign before in
    let there = page_is sign (before ++ Does NewPage ∷ b) in
    let all = sum_by-append (λ y. cond (is_new_page y) 1 0) before (Does NewPage ∷ b) in
    let first = sum_by-cons (λ y. cond (is_new_page y) 1 0) (Does NewPage) b in
    omega (arith, same, here, there, all, first))))
    ∙ append-nil (some_after on before)

pub left_push : (phase : ℕ) (flashes : List (Option FlashTimes)) (flash : Option FlashTimes) → flashes_left phase (flashes ++ flash ∷ []) ≡ sooner (flashes_left phase flashes) (flash_left phase flash)
left_push phase flashes flash = fold-append (λ soonest f. sooner soonest (flash_left phase f)) None flashes (flash ∷ [])

-- the soonest change after one more item of a page
pub soonest_push : (sign : SignData) (before : List Meaning) (item : Meaning) (phase : ℕ) → let page = (standing sign before).page in
    flashes_left phase (page_flashes sign (before ++ item ∷ []) page)
    ≡ cond (is_shown item) (sooner (flashes_left phase (page_flashes sign before page)) (flash_left phase (standing sign before).flash)) (flashes_left phase (page_flashes sign before page))
soonest_push sign before item phase =
    let at = standing sign before in
    let flashes = page_flashes sign before at.page in
    let here : (at.page == at.page) ≡ true = eq-eqb at.page at.page refl in
    ap (flashes_left phase) (flashes_push sign before item at.page) ∙ elim (cases_Bool (is_shown item)) [
      | inl is ↦
          let on : flash_on at.page at item ≡ Some at.flash = rw (is, here) refl in
          ap (λ o. flashes_left phase (flashes ++ cons_option o [])) on ∙ left_push phase flashes at.flash ∙ ap (λ b. cond b (sooner (flashes_left phase flashes) (flash_left phase at.flash)) (flashes_left phase flashes)) (sym is)
      | inr isn't ↦
          let none : flash_on at.page at item ≡ None = ap (λ b. cond (b && (at.page == at.page)) (Some at.flash) None) isn't in
          ap (λ o. flashes_left phase (flashes ++ cons_option o [])) none ∙ ap (flashes_left phase) (append-nil flashes) ∙ ap (λ b. cond b (sooner (flashes_left phase flashes) (flash_left phase at.flash)) (flashes_left phase flashes)) (sym isn't)
    ]
