-- On the way through a message: the times of the pages that have ended, and those in force.
use Rattle.std.proofs.Common.{◌≡◌, ℕ, Bool, true, false, cond, List, [], ◌∷◌, ◌++◌, drop, map, Some, None, refl, sym, ap, ◌∙◌, append-nil, append_assoc}
use Rattle.std.proofs.lemmas.List.{map-append}
use Rattle.std.specs.List.{cons_option}
use Rattle.sign_font.specs.Sign.{SignData}
use Rattle.multi_meaning.specs.Address.{Standing, standing}
use Rattle.multi_meaning.specs.Meaning.{Meaning, is_new_page, meanings}
use Rattle.multi_meaning.specs.internal.Present.{standing_behind}
use Rattle.multi_meaning.specs.Times.{Times, ended_times, page_times, times_at}
use Rattle.multi_meaning.proofs.StandingLemmas.{standing_push}
use Rattle.multi_meaning.proofs.TimesLemmas.{times_are_all}
use Rattle.multi_meaning.proofs.WordLemmas.{some_after_push}
use Rattle.message_words.specs.declared.times.Times as kept
use Rattle.message_words.specs.PageTimes.{default_times, times_data}

-- the items before this offset are passed, these are the times of the pages that ended among them, and these are in force
pub record Passed (sign : SignData) (octets : List ℕ) (at : ℕ) (ended : List Times) (here : Times) : Type 0 where
  pub before : List Meaning
  pub whole : meanings octets ≡ before ++ meanings (drop at octets)
  pub ended_are : ended ≡ ended_times sign before
  pub here_is : here ≡ times_at (standing sign before)

-- before the first item
pub begins : (sign : SignData) (octets : List ℕ) (ended : List Times) (here : Times) → ended ≡ [] → here ≡ default_times sign → Passed sign octets 0 ended here
unfolding standing
begins sign octets ended here none is = record { before = []; whole = refl; ended_are = none; here_is = is }

-- one more item ends a page if a new page begins after it
ended_more : (sign : SignData) (before : List Meaning) (item : Meaning)
    → ended_times sign (before ++ item ∷ []) ≡ cond (is_new_page item) (ended_times sign before ++ times_at (standing sign before) ∷ []) (ended_times sign before)
ended_more sign before item =
    some_after_push (λ b x. cond (is_new_page x) (Some (times_at (standing sign b))) None) before item
    ∙ of (is_new_page item)
  where
    of : (b : Bool) → ended_times sign before ++ cons_option (cond b (Some (times_at (standing sign before))) None) [] ≡ cond b (ended_times sign before ++ times_at (standing sign before) ∷ []) (ended_times sign before)
    of true = refl
    of false = append-nil (ended_times sign before)

-- after one more item
pub more : (sign : SignData) (octets : List ℕ) (at next : ℕ) (ended now : List Times) (here new : Times) (item : Meaning) (passed : Passed sign octets at ended here)
    → meanings (drop at octets) ≡ item ∷ meanings (drop next octets) → now ≡ cond (is_new_page item) (ended ++ here ∷ []) ended
    → ((place : Standing) → here ≡ times_at place → new ≡ times_at (standing_behind sign place item)) → Passed sign octets next now new
more sign octets at next ended now here new item passed read is behind =
    let before = passed.before in
    record {
      before = before ++ item ∷ [];
      whole = passed.whole ∙ ap (λ l. before ++ l) read ∙ sym (append_assoc before (item ∷ []) (meanings (drop next octets)));
      ended_are = is ∙ ap (λ l. cond (is_new_page item) (l ++ here ∷ []) l) passed.ended_are ∙ ap (λ t. cond (is_new_page item) (ended_times sign before ++ t ∷ []) (ended_times sign before)) passed.here_is
          ∙ sym (ended_more sign before item);
      here_is = behind (standing sign before) passed.here_is ∙ sym (ap times_at (standing_push sign before item));
    }

-- after the last item
pub ends : (sign : SignData) (octets : List ℕ) (at : ℕ) (ended : List Times) (here : Times) (passed : Passed sign octets at ended here) → meanings (drop at octets) ≡ []
    → ended ++ here ∷ [] ≡ page_times sign (meanings octets)
ends sign octets at ended here passed none =
    let before = passed.before in
    let all : meanings octets ≡ before = passed.whole ∙ ap (λ l. before ++ l) none ∙ append-nil before in
    ap (λ l. l ++ here ∷ []) passed.ended_are ∙ ap (λ t. ended_times sign before ++ t ∷ []) passed.here_is ∙ sym (ap (page_times sign) all ∙ times_are_all sign before)

-- the times that are kept of the pages, seen as those of the definitions
pub seen_as : (ends : Bool) (ended now : List kept.Times) (here : kept.Times) → now ≡ cond ends (ended ++ here ∷ []) ended
    → map times_data now ≡ cond ends (map times_data ended ++ times_data here ∷ []) (map times_data ended)
seen_as true ended now here is = ap (map times_data) is ∙ map-append times_data ended (here ∷ [])
seen_as false ended now here is = ap (map times_data) is
