-- Slots that are counted, with one of them replaced.
use Rattle.std.proofs.Common.{◌≡◌, ℕ, zero, suc, ◌+◌, ◌<◌, ◌≤◌, Bool, true, false, not, cond, List, [], ◌∷◌, length, slice_index_or, slice_set, Option, None, Some, refl, sym, ap, ◌∙◌, arith}
use Rattle.std.proofs.lemmas.Bool.Decides.{nat_tests}
use Rattle.std.proofs.lemmas.List.Elements.{All-set}
use Rattle.std.proofs.lemmas.List.Sums.{sum_by-cons, sum_by-set}
use Rattle.std.specs.Prelude.{◌==◌, if◌then◌else◌, nat_lt, position}
use Rattle.std.specs.List.{count_by, position_or_len}
use Rattle.message_store.specs.declared.slot.Slot.{Slot}
use Rattle.message_store.specs.Slot.{is_not_used, is_validating}
use Rattle.message_store.specs.internal.Counted.{AreCounted, IsRanged}
use Rattle.message_store.proofs.WaitLemmas.{none-before}

abbrev pub bit : Bool → ℕ
bit b = cond b 1 0

module _ {X : Type 0} (p : X → Bool) where
  -- an element is replaced
  pub count_set : (xs : List X) (i : ℕ) (y d : X) → i < length xs → count_by p (slice_set xs i y) + bit (p (slice_index_or xs i d)) ≡ count_by p xs + bit (p y)
  count_set xs i y d below = sum_by-set (λ x. bit (p x)) xs i y d below

  one_more : (x : X) (xs : List X) → count_by p (x ∷ xs) ≡ bit (p x) + count_by p xs
  one_more x xs = sum_by-cons (λ x. bit (p x)) x xs

  none_first : (b : Bool) (n m l : ℕ) → bit b + n ≡ 0 → (n ≡ 0 → m ≡ l) → cond (not b) (1 + m) 0 ≡ suc l
  none_first true n m l is so = absurd (omega (arith, is))
  none_first false n m l is so = omega (arith, so (omega (arith, is)))

  -- where none passes, the first that does stands after the last one
  pub none_counted : (xs : List X) → count_by p xs ≡ 0 → position_or_len p xs ≡ length xs
  none_counted [] is = refl
  none_counted (x ∷ xs) is = none_first (p x) (count_by p xs) (position_or_len p xs) (length xs) (sym (one_more x xs) ∙ is) (none_counted xs)

  -- where none passes, there is no place of one
  pub none_placed : (xs : List X) → count_by p xs ≡ 0 → None ≡ position p xs
  none_placed xs is =
      let all : position_or_len p xs ≡ length xs = none_counted xs is in
      let test : nat_lt (position_or_len p xs) (length xs) ≡ false = grind (arith, nat_tests, all) in
      sym (ap (λ b. let o : Option ℕ = cond b (Some (position_or_len p xs)) None in o) test)

  -- nothing passes before a place up to that of an element which is replaced, if nothing passed, or nothing before this place did
  pub none_looked : (xs : List X) (from count look n i : ℕ) (y : X) → i < length xs → count ≡ count_by p xs → from ≤ position_or_len p xs
      → look ≡ (if count == 0 then i else from) → n ≤ look → n ≤ i → n ≤ position_or_len p (slice_set xs i y)
  none_looked xs from zero look n i y below counts first is within at =
      none-before p xs n i y at (omega (arith, at, below, none_counted xs (sym counts)))
  none_looked xs from (suc count) look n i y below counts first is within at =
      let test : (suc count == 0) ≡ false = grind (arith, nat_tests) in
      let same : look ≡ from = is ∙ ap (λ b. if b then i else from) test in
      none-before p xs n i y at (omega (arith, within, same, first))

-- a slot is replaced
pub put_counted : (slots : List Slot) (from waiting used i from' waiting' used' : ℕ) (old slot d : Slot) → i < length slots → old ≡ slice_index_or slots i d → AreCounted slots from waiting used
    → from' ≤ position_or_len (λ (slot : Slot). is_validating slot.status) (slice_set slots i slot)
    → waiting' + bit (is_validating old.status) ≡ waiting + bit (is_validating slot.status)
    → used' + bit (not (is_not_used old.status)) ≡ used + bit (not (is_not_used slot.status)) → IsRanged slot
    → AreCounted (slice_set slots i slot) from' waiting' used'
put_counted slots from waiting used i from' waiting' used' old slot d below is was first waits counts ranged =
    let waiting_one = λ (slot : Slot). is_validating slot.status in
    let used_one = λ (slot : Slot). not (is_not_used slot.status) in
    record {
      first = first;
      waits = omega (arith, was.waits, waits, count_set waiting_one slots i slot d below, ap (λ x. bit (waiting_one x)) is);
      counts = omega (arith, was.counts, counts, count_set used_one slots i slot d below, ap (λ x. bit (used_one x)) is);
      ranged = All-set IsRanged slots i slot ranged was.ranged;
    }
