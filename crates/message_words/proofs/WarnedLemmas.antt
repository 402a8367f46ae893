-- On the way through the pages of a message: which are too short.
use Rattle.std.proofs.Common.{◌≡◌, ℕ, ◌+◌, ◌<◌, ◌≤◌, Bool, true, false, ◌||◌, ◌==◌, arith, min, ◌-◌, List, [], ◌∷◌, ◌++◌, drop, get_or, length, map, take, refl, sym, ap, ◌∙◌, append-nil, append_assoc, take-append-drop}
use Rattle.std.proofs.lemmas.Bool.{ne_eqb}
use Rattle.std.proofs.lemmas.List.{drop_more, get_or-map, length-drop, length-map, map-append, take_more}
use Rattle.std.proofs.lemmas.List.Sums.{sum_by-append}
use Rattle.multi_meaning.specs.Times.{Times, cycle}
use Rattle.message_words.specs.PageTimes.{times_data}
use Rattle.message_words.specs.OnPages.{is_short, is_shown_always, place_first, short_places}
use Rattle.message_words.specs.declared.pages.PageText.{PageText}
use Rattle.message_words.specs.declared.times.Times as kept

-- one more place, after others
pub placed : (b : Bool) (at : ℕ) (old rest : List ℕ) → old ++ place_first b at rest ≡ (old ++ place_first b at []) ++ rest
placed true at old rest = sym (append_assoc old (at ∷ []) rest)
placed false at old rest = ap (λ l. l ++ rest) (sym (append-nil old))

-- the cycle of some pages, and of one more
cycle_more : (times : List kept.Times) (i : ℕ) (d : kept.Times) → i < length times → cycle (map times_data (take (i + 1) times)) ≡ cycle (map times_data (take i times)) + ((get_or times i d).on + (get_or times i d).off)
cycle_more times i d below =
    let one = get_or times i d in
    let all = ap (map times_data) (take_more times i d below) ∙ map-append times_data (take i times) (one ∷ []) in
    let sum = sum_by-append (λ (t : Times). t.on + t.off) (map times_data (take i times)) (times_data one ∷ []) in
    let last : 0 + (one.on + one.off) ≡ one.on + one.off = omega arith in
    ap cycle all ∙ sum ∙ ap (λ n. cycle (map times_data (take i times)) + n) last

-- if a page has a time, not each is shown all the time
pub has_time : (times : List kept.Times) (i : ℕ) (d : kept.Times) → i < length times → (length times ≡ 1 → ⊥) → 0 < (get_or times i d).on + (get_or times i d).off → is_shown_always (map times_data times) ≡ false
has_time times i d below several some =
    let front = take (i + 1) times in
    let rest = drop (i + 1) times in
    let split : times ≡ front ++ rest = sym (take-append-drop (i + 1) times) in
    let sum : cycle (map times_data times) ≡ cycle (map times_data front) + cycle (map times_data rest) =
    ap (λ l. cycle (map times_data l)) split ∙ ap cycle (map-append times_data front rest) ∙ sum_by-append (λ (t : Times). t.on + t.off) (map times_data front) (map times_data rest) in
    let more = cycle_more times i d below in
    let many = ap (λ n. n == 1) (length-map times times_data) ∙ ne_eqb (length times) 1 several in
    ap (λ b. b || (cycle (map times_data times) == 0)) many ∙ ne_eqb _ _ (λ e. omega (arith, sum, more, some, e))

-- one more page, and its own times
pub page_more : (times : List kept.Times) (pages : List PageText) (i : ℕ) (d : kept.Times) (e : PageText) (found : List ℕ) → i < length times → i < length pages
    → found ++ short_places (drop i (map times_data times)) (drop i pages)
    ≡ (found ++ place_first (is_short (get_or times i d).on (get_or pages i e).letters) (get_or pages i e).begin []) ++ short_places (drop (i + 1) (map times_data times)) (drop (i + 1) pages)
page_more times pages i d e found below within =
    let all = map times_data times in
    let one = get_or times i d in
    let page = get_or pages i e in
    let long : i < length all = omega (arith, length-map times times_data, below) in
    let first : drop i all ≡ times_data one ∷ drop (i + 1) all = drop_more all i (times_data d) long ∙ ap (λ t. t ∷ drop (i + 1) all) (get_or-map times_data times i d (times_data d) below) in
    ap (λ ts. found ++ short_places ts (drop i pages)) first ∙ ap (λ ps. found ++ short_places (times_data one ∷ drop (i + 1) all) ps) (drop_more pages i e within)
    ∙ placed (is_short one.on page.letters) page.begin found (short_places (drop (i + 1) all) (drop (i + 1) pages))

-- no times, or no pages, are left
short_none : (times : List Times) (pages : List PageText) → min (length times) (length pages) ≡ 0 → short_places times pages ≡ []
short_none [] pages none = refl
short_none (one ∷ times) [] none = refl
short_none (one ∷ times) (page ∷ pages) none = absurd (omega (arith, none))

pub short_all : (times : List kept.Times) (pages : List PageText) (i : ℕ) (found : List ℕ) → min (length times) (length pages) ≤ i → short_places (map times_data times) pages ≡ found ++ short_places (drop i (map times_data times)) (drop i pages)
    → found ≡ short_places (map times_data times) pages
short_all times pages i found end so_far =
    let all = map times_data times in
    let one : length (drop i all) ≡ length all - i = length-drop i all in
    let other : length (drop i pages) ≡ length pages - i = length-drop i pages in
    let long = length-map times times_data in
    let none = short_none (drop i all) (drop i pages) (omega (arith, end, one, other, long)) in
    sym (so_far ∙ ap (λ l. found ++ l) none ∙ append-nil found)
