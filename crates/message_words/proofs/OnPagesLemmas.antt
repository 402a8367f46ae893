-- On the way through what the items of a message say: its pages, and the flash in force.
use Rattle.std.proofs.Common.{◌≡◌, ℕ, ◌+◌, ◌<◌, Bool, true, false, cond, not, ◌&&◌, ◌==◌, List, [], ◌∷◌, ◌++◌, get_or, length, map, take, Option, None, Some, refl, sym, ap, ◌∙◌, append-nil, arith}
use Rattle.std.proofs.lemmas.Bool.{ne_eqb}
use Rattle.std.proofs.lemmas.List.{map-append, take_more}
use Rattle.std.proofs.lemmas.List.Elements.{filter-append, filter_map-append}
use Rattle.std.proofs.lemmas.List.Sums.{sum_by_push}
use Rattle.std.specs.List.{after_last, cons_option, count_by, filter, filter_map, last_or}
use Rattle.std.specs.Option.{unwrap_or}
use Rattle.sign_font.specs.declared.parts.Defaults.{Defaults}
use Rattle.multi_meaning.proofs.WordLemmas.{after_last_push, last_or-append, last_or_push, some_after_push}
use Rattle.message_words.specs.OnItems.{is_letter, is_page}
use Rattle.message_words.specs.OnPages.{ended_pages, flash_turn, is_flashing, open_flashes, page_after, place_first, still_letters}
use Rattle.message_words.specs.declared.pages.PageText.{PageText}
use Rattle.message_words.specs.declared.said.Said.{Said}

-- a flash in force after one more item
flashing_push : (defaults : Defaults) (before : List Said) (next : Said) → is_flashing defaults (before ++ next ∷ []) ≡ unwrap_or (flash_turn defaults next.tag) (is_flashing defaults before)
flashing_push defaults before next =
    ap (λ l. unwrap_or (last_or None l) false) (filter_map-append turn before (next ∷ [])) ∙ ap (λ o. unwrap_or o false) (last_or-append None turns (filter_map turn (next ∷ []))) ∙ of (turn next)
  where
    turn : Said → Option Bool
    turn s = flash_turn defaults s.tag

    turns : List Bool
    turns = filter_map turn before

    of : (now : Option Bool) → unwrap_or (last_or (last_or None turns) (cons_option now [])) false ≡ unwrap_or now (unwrap_or (last_or None turns) false)
    of None = refl
    of (Some is) = refl

pub flashing_more : (defaults : Defaults) (said : List Said) (i : ℕ) (d : Said) → i < length said
    → is_flashing defaults (take (i + 1) said) ≡ unwrap_or (flash_turn defaults (get_or said i d).tag) (is_flashing defaults (take i said))
flashing_more defaults said i d below = ap (is_flashing defaults) (take_more said i d below) ∙ flashing_push defaults (take i said) (get_or said i d)

-- a place that is one, or none
as_place : (is : Bool) (at : ℕ) → cons_option (cond is (Some at) None) [] ≡ place_first is at []
as_place true at = refl
as_place false at = refl

-- where pages end in a flash, with one more item
pub open_more : (defaults : Defaults) (said : List Said) (i : ℕ) (d : Said) → i < length said → let next = get_or said i d in
    open_flashes defaults (take (i + 1) said) ≡ open_flashes defaults (take i said) ++ place_first (is_flashing defaults (take i said) && is_page next.tag) next.at []
open_more defaults said i d below =
    let next = get_or said i d in
    let before = take i said in
    ap (open_flashes defaults) (take_more said i d below) ∙ some_after_push (λ before (s : Said). cond (is_flashing defaults before && is_page s.tag) (Some s.at) None) before next
    ∙ ap (λ l. open_flashes defaults before ++ l) (as_place (is_flashing defaults before && is_page next.tag) next.at)

-- whether a letter stands still, with one more item
pub still_more : (defaults : Defaults) (said : List Said) (i : ℕ) (d : Said) → i < length said → let next = get_or said i d in
    (length (still_letters defaults (take (i + 1) said)) == 0) ≡ ((length (still_letters defaults (take i said)) == 0) && not (is_letter next.tag && not (is_flashing defaults (take i said))))
still_more defaults said i d below =
    let next = get_or said i d in
    let before = take i said in
    let old = still_letters defaults before in
    let is = is_letter next.tag && not (is_flashing defaults before) in
    ap (λ l. length l == 0) (ap (still_letters defaults) (take_more said i d below) ∙ some_after_push (λ before (s : Said). cond (is_letter s.tag && not (is_flashing defaults before)) (Some s.at) None) before next
    ∙ ap (λ l. old ++ l) (as_place is next.at)) ∙ of old is next.at
  where
    of : (old : List ℕ) (is : Bool) (at : ℕ) → (length (old ++ place_first is at []) == 0) ≡ ((length old == 0) && not is)
    of [] true at = refl
    of [] false at = refl
    of (x ∷ old) is at = ne_eqb (length ((x ∷ old) ++ place_first is at [])) 0 (λ e. omega (arith, e)) ∙ sym (ap (λ b. b && not is) (ne_eqb (length (x ∷ old)) 0 (λ e. omega (arith, e))))

-- the page on which items end, with one more
page_push : (before : List Said) (next : Said) → page_after (before ++ next ∷ [])
    ≡ cond (is_page next.tag) (record { begin = next.end; letters = 0 }) (record { begin = (page_after before).begin; letters = (page_after before).letters + cond (is_letter next.tag) 1 0 })
page_push before next =
    ap (λ l. record { begin = unwrap_or (last_or None (map end l)) 0; letters = count_by letter (after_last page (before ++ next ∷ [])) }) (filter-append page before (next ∷ []))
    ∙ ap (λ l. record { begin = unwrap_or (last_or None (map end (filter page before ++ filter page (next ∷ [])))) 0; letters = count_by letter l }) (after_last_push page before next)
    ∙ of (page next)
  where
    page : Said → Bool
    page s = is_page s.tag

    letter : Said → Bool
    letter s = is_letter s.tag

    end : Said → ℕ
    end s = s.end

    text : (begin letters : ℕ) → PageText
    text begin letters = record { begin = begin; letters = letters }

    ends : List Said
    ends = filter page before

    of : (is : Bool) → text (unwrap_or (last_or None (map end (ends ++ cond is (next ∷ []) []))) 0) (count_by letter (cond is [] (after_last page before ++ next ∷ [])))
        ≡ cond is (text next.end 0) (text (page_after before).begin ((page_after before).letters + cond (is_letter next.tag) 1 0))
    of true = ap (λ l. text (unwrap_or (last_or None l) 0) 0) (map-append end ends (next ∷ [])) ∙ ap (λ o. text (unwrap_or o 0) 0) (last_or_push None (map end ends) next.end)
    of false = ap (λ l. text (unwrap_or (last_or None (map end l)) 0) (count_by letter (after_last page before ++ next ∷ []))) (append-nil ends) ∙ ap (text (page_after before).begin) (sum_by_push (λ s. cond (letter s) 1 0) (after_last page before) next)

pub page_more_items : (said : List Said) (i : ℕ) (d : Said) → i < length said → let next = get_or said i d in
    page_after (take (i + 1) said) ≡ cond (is_page next.tag) (record { begin = next.end; letters = 0 })
    (record { begin = (page_after (take i said)).begin; letters = (page_after (take i said)).letters + cond (is_letter next.tag) 1 0 })
page_more_items said i d below = ap page_after (take_more said i d below) ∙ page_push (take i said) (get_or said i d)

-- the pages that items end, with one more
pub ended_more : (said : List Said) (i : ℕ) (d : Said) → i < length said → let next = get_or said i d in
    ended_pages (take (i + 1) said) ≡ cond (is_page next.tag) (ended_pages (take i said) ++ page_after (take i said) ∷ []) (ended_pages (take i said))
ended_more said i d below =
    let next = get_or said i d in
    let before = take i said in
    ap ended_pages (take_more said i d below) ∙ some_after_push (λ before (s : Said). cond (is_page s.tag) (Some (page_after before)) None) before next ∙ of (ended_pages before) (page_after before) (is_page next.tag)
  where
    of : (old : List PageText) (here : PageText) (is : Bool) → old ++ cons_option (cond is (Some here) None) [] ≡ cond is (old ++ here ∷ []) old
    of old here true = refl
    of old here false = append-nil old
