-- A field that begins with digits.
use Rattle.std.proofs.Common.{◌≡◌, ℕ, ◌+◌, ◌-◌, ◌*◌, ◌%◌, get_or, ◌<◌, ◌≤◌, true, false, List, [], ◌∷◌, ◌++◌, length, take, drop, slice_index_or, None, Some, inl, inr, refl, sym, ap, ◌∙◌, arith, append-nil}
use Rattle.std.specs.Prelude.{◌==◌, not}
use Rattle.std.specs.List.{list_all}
use Rattle.std.specs.Str.Parse.{digits_value}
use Rattle.std.specs.Char.{digit_value}
use Rattle.std.proofs.lemmas.Bool.{and_from, and_parts, cases_Bool}
use Rattle.std.proofs.lemmas.Int.Digits.{digits_value_more}
use Rattle.std.proofs.lemmas.List.{drop_more, length-append, length-drop, length-take-le, take-append-drop, take_more}
use Rattle.std.proofs.lemmas.List.Folds.{list_all-append}
use Rattle.octet_text.specs.Digits.{is_digit}
use Rattle.sign_script.specs.Fields.{Parted, is_ended, left, next_number, parted}
use Rattle.sign_script.specs.Spelling.{IsNumber}
use Rattle.sign_script.specs.internal.Leading.{IsLeading}
use Rattle.sign_script.proofs.NumberLemmas.{digits_from, digits_to, no_number, number_read}
use Rattle.sign_script.proofs.PartsLemmas.{has_no_space, parted_after, parted_ended, parted_more}

-- what is at most 9 when 48 is taken from it is a digit
pub digit_told : (c d : ℕ) → d ≡ c → c < 256 → (d + 18446744073709551568) % 18446744073709551616 ≤ 9
    → (48 ≤ c) × (c ≤ 57) × ((d + 18446744073709551568) % 18446744073709551616 ≡ c - 48)
digit_told c d is fits small = (grind (arith, is, fits, small), grind (arith, is, fits, small), grind (arith, is, fits, small))

pub one_digit_told : (c d : ℕ) → d ≡ c → c < 256 → (d + 4294967248) % 4294967296 ≤ 9 → (48 ≤ c) × (c ≤ 57) × ((d + 4294967248) % 4294967296 ≡ c - 48)
one_digit_told c d is fits small = (grind (arith, is, fits, small), grind (arith, is, fits, small), grind (arith, is, fits, small))

-- one digit more
pub digits_more : (ds : List ℕ) (i : ℕ) → i < length ds → list_all is_digit (take i ds) ≡ true → is_digit (get_or ds i 0) ≡ true → list_all is_digit (take (i + 1) ds) ≡ true
digits_more ds i there before here =
    ap (list_all is_digit) (take_more ds i 0 there) ∙ list_all-append is_digit (take i ds) (get_or ds i 0 ∷ []) ∙ and_from (list_all is_digit (take i ds)) _ before (and_from (is_digit (get_or ds i 0)) true here refl)

pub number_more : (ds : List ℕ) (i number : ℕ) → i < length ds → number ≡ digits_value 10 (take i ds) → 48 ≤ get_or ds i 0 → get_or ds i 0 ≤ 57 → number * 10 + (get_or ds i 0 - 48) ≡ digits_value 10 (take (i + 1) ds)
number_more ds i number there is least most =
    let value : digit_value (get_or ds i 0) ≡ get_or ds i 0 - 48 = grind (arith, least, most) in
    omega (arith, digits_value_more 10 ds i there, value, is)

no_space : (ds : List ℕ) → list_all is_digit ds ≡ true → has_no_space ds ≡ true
no_space [] h = refl
no_space (c ∷ cs) h =
    let parts = and_parts (is_digit c) (list_all is_digit cs) h in
    let differs : not (c == 32) ≡ true = grind (arith, parts.0) in
    and_from (not (c == 32)) (has_no_space cs) differs (no_space cs parts.1)

more_some : (rest : List ℕ) → is_ended rest ≡ false → 1 ≤ length rest
more_some [] more = cc
more_some (c ∷ cs) more = omega arith

module _ (most number count : ℕ) (text : List ℕ) (leads : IsLeading text number count) where
  abbrev front : List ℕ
  front = take count text

  abbrev behind : List ℕ
  behind = drop count text

  parts : parted text ≡ record { field = front ++ (parted behind).field; rest = (parted behind).rest }
  parts = ap parted (sym (take-append-drop count text)) ∙ parted_after front behind (no_space front leads.digits)

  long : length front ≡ count
  long = length-take-le count text leads.within

  ended_parts : is_ended behind ≡ true → parted text ≡ record { field = front; rest = left behind }
  ended_parts ended = parts ∙ rw (parted_ended behind ended, append-nil front) refl

  -- the digits are the field, and write a number that is small enough
  pub leading_number : is_ended behind ≡ true → 1 ≤ count → number ≤ most → Some (number, left behind) ≡ next_number most (Some text)
  leading_number ended some within =
      let is : IsNumber most number front = record {
        numeral = (grind (arith, long, some), digits_to front leads.digits);
        short = grind (arith, long, leads.few);
        value = sym leads.value;
        within = within;
      } in
      rw (ended_parts ended, number_read most number front is) refl

  -- no number is written that is small enough
  too_large : (is_ended behind ≡ true → 1 ≤ count → number ≤ most → ⊥) → (n : ℕ) → IsNumber most n (parted text).field → is_ended behind ≡ true → ⊥
  too_large none n is ended =
      let field : (parted text).field ≡ front = ap (λ (p : Parted). p.field) (ended_parts ended) in
      let same : n ≡ number = sym is.value ∙ ap (digits_value 10) field ∙ sym leads.value in
      let whole = ap length field in
      none ended (grind (arith, is.numeral.0, whole, long)) (grind (arith, is.within, same))

  not_ended : (n : ℕ) → IsNumber most n (parted text).field → is_ended behind ≡ false → ⊥
  not_ended n is more =
      let next = parted_more behind more in
      let field : (parted text).field ≡ front ++ (slice_index_or behind 0 0 ∷ next.0) = ap (λ (p : Parted). p.field) parts ∙ ap (λ (f : List ℕ). front ++ f) next.1 in
      let whole = ap length field ∙ length-append front (slice_index_or behind 0 0 ∷ next.0) in
      let digits = sym (list_all-append is_digit front (slice_index_or behind 0 0 ∷ next.0)) ∙ sym (ap (list_all is_digit) field) ∙ digits_from (parted text).field is.numeral.1 in
      let here = and_parts (is_digit (slice_index_or behind 0 0)) (list_all is_digit next.0) (and_parts (list_all is_digit front) _ digits).1 in
      let there : count < length text = omega (arith, leads.within, more_some behind more, length-drop count text) in
      let same : slice_index_or behind 0 0 ≡ slice_index_or text count 0 = ap (λ (l : List ℕ). slice_index_or l 0 0) (drop_more text count 0 there) in
      let last = leads.all (grind (arith, is.short, whole, long)) there in
      let first = sym (ap is_digit same) ∙ here.0 in
      cc

  pub no_leading : (is_ended behind ≡ true → 1 ≤ count → number ≤ most → ⊥) → None ≡ next_number most (Some text)
  no_leading none =
      let bad = no_number most (parted text).field (λ n is. elim (cases_Bool (is_ended behind)) [
        | inl ended ↦ too_large none n is ended
        | inr more ↦ not_ended n is more
      ]) in
      rw bad refl

ended_here : (c : ℕ) → (c == 32) ≡ true → is_digit c ≡ false
ended_here c is = grind (arith, is)

no_second : (c : ℕ) (behind : List ℕ) → is_ended behind ≡ true → 1 < length (c ∷ behind) → is_digit (slice_index_or (c ∷ behind) 1 0) ≡ false
no_second c [] ended there = absurd (omega (arith, there))
no_second c (d ∷ ds) ended there = ended_here d ended

-- a field that is one digit
pub one_digit : (most digit : ℕ) (rest : List ℕ) → 2 ≤ length rest → 48 ≤ slice_index_or rest 1 0 → slice_index_or rest 1 0 ≤ 57 → digit ≡ slice_index_or rest 1 0 - 48 → digit ≤ most
    → is_ended (drop 2 rest) ≡ true → Some (digit, left (drop 2 rest)) ≡ next_number most (left rest)
one_digit most digit [] long least greatest is within ended = absurd (omega (arith, long))
one_digit most digit (x ∷ []) long least greatest is within ended = absurd (omega (arith, long))
one_digit most digit (x ∷ c ∷ behind) long least greatest is within ended =
    let text : List ℕ = c ∷ behind in
    let there : 0 < length text = omega arith in
    let leads : IsLeading text digit 1 = record {
      within = omega arith;
      few = omega arith;
      digits = digits_more text 0 there refl (grind (arith, least, greatest));
      value = omega (arith, is, number_more text 0 0 there refl least greatest);
      all = λ few more. no_second c behind ended more;
    } in
    leading_number most digit 1 text leads ended (omega arith) within
