-- The times of pages, and the page at a clock.
use Rattle.multi_meaning.proofs.Common.{◌≡◌, ℕ, zero, suc, ◌+◌, ◌-◌, ◌<◌, ◌≤◌, Bool, true, false, ◌||◌, ◌==◌, cond, length, take, List, [], ◌∷◌, ◌++◌, Some, None, refl, ap, ◌∙◌, arith, append_assoc, append-nil, length-append, ◌^◌, sym, eq-eqb, find, range_with_len, count_by, sum_by-append, sum_by-cons, sum_by_push, take-append_seam, nat_tests, SignData, NewPage, standing, Meaning, Does, is_new_page, meanings, Page, Times, cycle, is_on, page_times, shown, shown_at, shown_within, pages_of, Accepted, IsCycle, IsVerdict, some_after, ◌%◌, get_or, take-take, slice_get, sum_by_more, sum_by-take-le, slice_get-get_or, get_or-append_seam, or_left, or_right, begin, ended_times, times_at, rules}
use Rattle.std.proofs.lemmas.List.FromFn.{get_or-range_with_len, length-range_with_len}
use Rattle.std.proofs.lemmas.List.Recursion.{found_at}
use Rattle.multi_meaning.specs.declared.times.Shown.TheVariants.{Off}
use Rattle.multi_meaning.proofs.WordLemmas.{some_after-append}
use Rattle.multi_meaning.proofs.VerdictLemmas.{accepted_is, cycle_is}

-- one more page adds its times to the cycle
pub cycle_push : (before : List Times) (here : Times) → cycle (before ++ here ∷ []) ≡ cycle before + (here.on + here.off)
cycle_push before here = sum_by_push (λ (t : Times). t.on + t.off) before here

-- each page ends within the cycle
pub cycle_within : (before after : List Times) (here : Times) → cycle before + (here.on + here.off) ≤ cycle (before ++ here ∷ after)
cycle_within before after here = search (rules, sum_by-append, sum_by-cons)

-- the first number of a range that passes a test is found
find_first : (p : ℕ → Bool) (n k : ℕ) → k < n → p k ≡ true → ((j : ℕ) → j < k → p j ≡ false) → find p (range_with_len 0 n) ≡ Some k
find_first p n k below passes fails =
    let found_at' = found_at (find p) p (λ x. Some x) None refl (λ x xs. refl) (range_with_len 0 n) k 0 in
    grind (arith, found_at', length-range_with_len 0 n, get_or-range_with_len 0 n, passes, fails)

-- where no number of a range passes a test, none is found
find_none : (p : ℕ → Bool) (a n : ℕ) → ((j : ℕ) → a ≤ j → j < a + n → p j ≡ false) → find p (range_with_len a n) ≡ None
find_none p a zero fails = refl
find_none p a (suc n) fails = rw (fails a (omega arith) (omega arith)) (find_none p (a + 1) n (λ j g h. fails j (omega arith) (omega arith)))

-- a later page begins no earlier
begins_later : (pages : List Times) (j k : ℕ) → j ≤ k → begin pages j ≤ begin pages k
begins_later pages j k h = omega (arith, ap cycle (take-take j k pages h), sum_by-take-le (λ (t : Times). t.on + t.off) (take k pages) j)

-- one page, or a cycle of 0, always shows page 0
pub shown_always : (pages : List Times) (clock : ℕ) → ((length pages == 1) || (cycle pages == 0)) ≡ true → shown_at pages clock ≡ Page 0 clock
unfolding shown_at
shown_always pages clock always = rw always refl

-- else what is shown is that at the clock modulo the cycle
pub shown_modulo : (pages : List Times) (clock : ℕ) → ((length pages == 1) || (cycle pages == 0)) ≡ false → shown_at pages clock ≡ shown_within pages (clock % cycle pages)
unfolding shown_at
shown_modulo pages clock many = rw many refl

-- pages of which one has some pages before it and some after it
module _ (pages before after : List Times) (here : Times) (is : pages ≡ before ++ here ∷ after) where
  within : length before < length pages
  within = omega (arith, ap length is, length-append before (here ∷ after))

  begins : begin pages (length before) ≡ cycle before
  begins = ap (λ l. begin l (length before)) is ∙ ap cycle (take-append_seam before (here ∷ after))

  stands : slice_get pages (length before) ≡ Some here
  stands = slice_get-get_or pages (length before) here within ∙ ap (λ l. Some (get_or l (length before) here)) is ∙ ap (λ x. Some x) (get_or-append_seam before here after here)

  ends : begin pages (length before + 1) ≡ cycle before + (here.on + here.off)
  ends = grind (arith, sum_by_more (λ (t : Times). t.on + t.off) pages (length before) here within, is, get_or-append_seam before here after here, begins)

  -- no earlier page is on from its begin on
  none_before : (t j : ℕ) → cycle before ≤ t → j < length before → is_on pages t j ≡ false
  none_before t j from below =
      grind (arith, nat_tests, slice_get-get_or pages j (record { on = 0; off = 0 }), sum_by_more, within, begins_later pages (j + 1) (length before), begins)

  -- in its on time a page is shown
  pub shown_on : (t : ℕ) → cycle before ≤ t → t < cycle before + here.on → shown_within pages t ≡ Page (length before) (t - cycle before)
  unfolding shown_within
  shown_on t from until = grind (arith, find_first (is_on pages t) (length pages) (length before), within, begins, stands, none_before t)

  -- in its off time nothing is shown
  pub shown_off : (t : ℕ) → cycle before + here.on ≤ t → t < cycle before + here.on + here.off → shown_within pages t ≡ Off
  unfolding shown_within
  shown_off t from until = grind (arith, nat_tests, stands, begins, none_before, begins_later, ends, find_none)

-- after the last item the present page is the last
pub times_are_all : (sign : SignData) (before : List Meaning) → page_times sign before ≡ ended_times sign before ++ times_at (standing sign before) ∷ []
unfolding page_times
times_are_all sign before = refl

-- where a new page begins the present page ends with the times in force there
pub times_are : (sign : SignData) (before rest : List Meaning)
    → (more : List Times) × (page_times sign (before ++ Does NewPage ∷ rest) ≡ ended_times sign before ++ times_at (standing sign before) ∷ more)
unfolding page_times
times_are sign before rest = (some_after (λ ms m. cond (is_new_page m) (Some (times_at (standing sign (before ++ Does NewPage ∷ ms)))) None) rest ++ times_at (standing sign (before ++ Does NewPage ∷ rest)) ∷ [], grind (arith, some_after-append, append_assoc, append-nil))

-- there is one item for each that passes a test
count_some : {X Y : Type 0} (p : X → Bool) (of : List X → Y) (xs : List X) → length (some_after (λ before x. cond (p x) (Some (of before)) None) xs) ≡ count_by p xs
count_some p of [] = refl
count_some p of (x ∷ xs) = grind (arith, count_some p (λ before. of (x ∷ before)) xs, sum_by-cons (λ y. cond (p y) 1 0) x xs)

-- as many pages have ended as new pages have begun
pub ended_count : (sign : SignData) (before : List Meaning) → length (ended_times sign before) ≡ count_by is_new_page before
ended_count sign before = count_some is_new_page (λ ms. times_at (standing sign ms)) before

-- there is one page more than new pages begin
pub times_count : (sign : SignData) (items : List Meaning) → length (page_times sign items) ≡ count_by is_new_page items + 1
times_count sign items = grind (arith, times_are_all, length-append, ended_count)

-- what is found in a range is below its end
found_below : (p : ℕ → Bool) (a n k : ℕ) → find p (range_with_len a n) ≡ Some k → k < a + n
found_below p a zero k is = absurd cc
found_below p a (suc n) k is = grind (arith, is, found_below p (a + 1) n k)

-- a page that is shown is one of the string's
pub page_below : (sign : SignData) (octets : List ℕ) (clock page phase : ℕ) → shown sign octets clock ≡ Page page phase → page < pages_of (meanings octets)
unfolding shown_within
page_below sign octets clock page phase is = grind (arith, times_count, shown_always, found_below, shown_modulo)

-- the string has so many pages and these times together
module _ (sign : SignData) (octets : List ℕ) (pages tenths : ℕ) (verdict : IsVerdict sign octets (Accepted pages))
    (together : IsCycle sign octets tenths) (short : length octets < 2 ^ 32) where
  abbrev times : List Times
  times = page_times sign (meanings octets)

  count : length times ≡ pages
  count = times_count sign (meanings octets) ∙ sym (accepted_is sign octets pages verdict short).1

  same : cycle times ≡ tenths
  same = sym (cycle_is sign octets tenths together)

  -- one page, or a cycle of 0, always shows page 0
  pub always_one : (clock : ℕ) → pages ≡ 1 → shown sign octets clock ≡ Page 0 clock
  always_one clock one = shown_always times clock (or_left (length times == 1) _ (eq-eqb (length times) 1 (count ∙ one)))

  pub always_none : (clock : ℕ) → tenths ≡ 0 → shown sign octets clock ≡ Page 0 clock
  always_none clock none = shown_always times clock (or_right (length times == 1) _ (eq-eqb (cycle times) 0 (same ∙ none)))

  -- else what is shown is that at the clock modulo the cycle
  pub shown_in_turn : (clock : ℕ) → (pages ≡ 1 → ⊥) → (tenths ≡ 0 → ⊥) → shown sign octets clock ≡ shown_within times (clock % tenths)
  shown_in_turn clock many some = grind (arith, count, same, shown_modulo)

  -- the clock modulo the cycle is below it
  pub below_cycle : (clock : ℕ) → (tenths ≡ 0 → ⊥) → clock % tenths < cycle times
  below_cycle clock some = let h : 0 < tenths = omega arith in omega (arith, same)
