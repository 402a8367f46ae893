-- Digits and the number that they write.
use Rattle.std.proofs.Common.{◌≡◌, ℕ, ◌<◌, Bool, true, List, [], ◌∷◌, length, Option, None, Some, refl, ap, arith}
use Rattle.std.specs.Prelude.{◌&&◌, nat_le}
use Rattle.std.specs.List.{list_all}
use Rattle.std.specs.Str.Parse.{AllDigits, digits_value}
use Rattle.std.specs.Char.{digit_value}
use Rattle.std.proofs.lemmas.Bool.{and_from, and_parts}
use Rattle.std.proofs.lemmas.Option.{cond_some}
use Rattle.octet_text.specs.Digits.{is_digit}
use Rattle.sign_script.specs.Fields.{number_of}
use Rattle.sign_script.specs.Spelling.{IsNumber}

digit_from : (c : ℕ) → digit_value c < 10 → is_digit c ≡ true
digit_from c h = grind (arith)

digit_to : (c : ℕ) → is_digit c ≡ true → digit_value c < 10
digit_to c h = grind (arith)

pub digits_from : (ds : List ℕ) → AllDigits 10 ds → list_all is_digit ds ≡ true
digits_from [] h = refl
digits_from (c ∷ cs) h = and_from (is_digit c) (list_all is_digit cs) (digit_from c h.0) (digits_from cs h.1)

pub digits_to : (ds : List ℕ) → list_all is_digit ds ≡ true → AllDigits 10 ds
digits_to [] h = tt
digits_to (c ∷ cs) h =
    let parts = and_parts (is_digit c) (list_all is_digit cs) h in
    (digit_to c parts.0, digits_to cs parts.1)

-- the tests of `number_of`
abbrev are_some : List ℕ → Bool
are_some ds = nat_le 1 (length ds)

abbrev are_few : List ℕ → Bool
are_few ds = are_some ds && nat_le (length ds) 10

abbrev are_digits : List ℕ → Bool
are_digits ds = are_few ds && list_all is_digit ds

abbrev is_within : ℕ → List ℕ → Bool
is_within most ds = nat_le (digits_value 10 ds) most

-- what is read is written so
pub number_found : (most n : ℕ) (ds : List ℕ) → number_of most ds ≡ Some n → IsNumber most n ds
number_found most n ds h =
    let found = cond_some (are_digits ds && is_within most ds) (digits_value 10 ds) n h in
    let tests = and_parts (are_digits ds) (is_within most ds) found.0 in
    let digits = and_parts (are_few ds) (list_all is_digit ds) tests.0 in
    let few = and_parts (are_some ds) (nat_le (length ds) 10) digits.0 in
    record {
      numeral = (grind (arith, few.0), digits_to ds digits.1);
      short = grind (arith, few.1);
      value = found.1;
      within = grind (arith, tests.1, found.1);
    }

-- what is written so is read
pub number_read : (most n : ℕ) (ds : List ℕ) → IsNumber most n ds → number_of most ds ≡ Some n
number_read most n ds is =
    let some : are_some ds ≡ true = grind (arith, is.numeral.0) in
    let few : nat_le (length ds) 10 ≡ true = grind (arith, is.short) in
    let digits : list_all is_digit ds ≡ true = digits_from ds is.numeral.1 in
    let within : is_within most ds ≡ true = grind (arith, is.value, is.within) in
    rw (some, few, digits, within) (ap (λ (v : ℕ). let o : Option ℕ = Some v in o) is.value)

-- what is written in no way isn't read
none_from : (o : Option ℕ) → ((n : ℕ) → o ≡ Some n → ⊥) → o ≡ None
none_from None none = refl
none_from (Some n) none = absurd (none n refl)

pub no_number : (most : ℕ) (ds : List ℕ) → ((n : ℕ) → IsNumber most n ds → ⊥) → number_of most ds ≡ None
no_number most ds none = none_from (number_of most ds) (λ n h. none n (number_found most n ds h))
