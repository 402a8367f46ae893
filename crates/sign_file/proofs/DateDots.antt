-- A date or a time has one dot at most.
use Rattle.std.proofs.Common.{◌≡◌, ℕ, ◌+◌, ◌≤◌, Bool, false, ◌&&◌, ◌==◌, if◌then◌else◌, List, [], ◌∷◌, drop, slice_index, Option, Some, None, option_and_then, refl, ap, inl, inr, arith}
use Rattle.std.proofs.lemmas.Bool.{cases_Bool}
use Rattle.std.proofs.lemmas.Bool.Decides.{nat_tests}
use Rattle.std.proofs.lemmas.Option.{none-some, same_Some, some_pair_parts, cond_some, option_and_then_some}
use Rattle.std.specs.List.{prefix_len}
use Rattle.std.specs.Char.{is_ascii_digit}
use Rattle.toml_datetime.specs.Parse.{Read, after_byte, two_digits, full_date, nanoseconds, optional, seconds, partial_time, offset_minutes, time_offset, is_zulu, is_time_delim, whole, after_time, after_date, parse_datetime}
use Rattle.toml_datetime.specs.declared.datetime.Date.{Date}
use Rattle.toml_datetime.specs.declared.datetime.Time.{Time}
use Rattle.toml_datetime.specs.declared.datetime.Datetime.{Datetime}
use Rattle.toml_parser.specs.Lexical.{first}
use Rattle.sign_file.proofs.OptionLemmas.{option_map_some, read_map_some}
use Rattle.sign_file.proofs.Dots.{dots_in, digits_dots, one_more, no_more}

-- what was read has this many dots at most
abbrev HasDots : {A : Type 0} → ℕ → (List ℕ → Read A) → Type 0
HasDots {A} n read = (text : List ℕ) (value : A) (rest : List ℕ) → read text ≡ Some (value, rest) → dots_in text ≤ n + dots_in rest

two_digits_dots : HasDots 0 two_digits
unfolding two_digits
two_digits_dots [] value rest read = absurd (none-some _ read)
two_digits_dots (a ∷ []) value rest read = absurd (none-some _ read)
two_digits_dots (a ∷ b ∷ more) value rest read =
    elim (cases_Bool (is_ascii_digit a && is_ascii_digit b)) [
      | inl digits ↦
          let one = no_more (a ∷ b ∷ more) (grind (arith, nat_tests)) in
          let two = no_more (b ∷ more) (grind (arith, nat_tests)) in
          let as_many = ap dots_in (some_pair_parts _ value more rest (rw digits at read)).1 in
          omega arith
      | inr other ↦ absurd (none-some _ (rw other at read))
    ]

after_byte_dots : (byte : ℕ) (text rest : List ℕ) → (byte == 46) ≡ false → after_byte byte text ≡ Some rest → dots_in text ≤ dots_in rest
after_byte_dots byte [] rest other read = absurd (none-some rest read)
after_byte_dots byte (c ∷ cs) rest other read =
    elim (cases_Bool (c == byte)) [
      | inl is ↦
          let one = no_more (c ∷ cs) (grind (arith, nat_tests)) in
          let as_many = ap dots_in (same_Some cs rest (rw is at read)) in
          omega arith
      | inr another ↦ absurd (none-some rest (rw another at read))
    ]

-- two digits after a byte
after_digits_dots : (byte : ℕ) (text : List ℕ) (value : ℕ) (rest : List ℕ) → (byte == 46) ≡ false → option_and_then two_digits (after_byte byte text) ≡ Some (value, rest) → dots_in text ≤ dots_in rest
after_digits_dots byte text value rest other read =
    option_and_then_some _ (after_byte byte text) (value, rest) read λ more mark digits.
    let before = after_byte_dots byte text more other mark in
    let after = two_digits_dots more value rest digits in
    omega arith

-- what was read, if a test passed
if_rest : {A : Type 0} (b : Bool) (v w : A) (text rest : List ℕ) → if◌then◌else◌ {A = Option (A × List ℕ)} b (Some (v, text)) None ≡ Some (w, rest) → dots_in text ≡ dots_in rest
if_rest b v w text rest read = ap (λ p. dots_in p.1) (cond_some b (v, text) (w, rest) read).1

full_date_dots : HasDots 0 full_date
unfolding full_date
full_date_dots text value rest read =
    option_and_then_some _ (two_digits text) (value, rest) read λ century century_is century_more.
    option_and_then_some _ (two_digits century.1) (value, rest) century_more λ year year_is year_more.
    option_and_then_some _ (option_and_then two_digits (after_byte 45 year.1)) (value, rest) year_more λ month month_is month_more.
    option_and_then_some _ (option_and_then two_digits (after_byte 45 month.1)) (value, rest) month_more λ day day_is day_more.
    let century_dots = two_digits_dots text century.0 century.1 century_is in
    let year_dots = two_digits_dots century.1 year.0 year.1 year_is in
    let month_dots = after_digits_dots 45 year.1 month.0 month.1 refl month_is in
    let day_dots = after_digits_dots 45 month.1 day.0 day.1 refl day_is in
    let same = if_rest _ _ value day.1 rest day_more in
    omega arith

nanoseconds_dots : HasDots 0 nanoseconds
unfolding nanoseconds
nanoseconds_dots text value rest read =
    let len = prefix_len is_ascii_digit text in
    elim (cases_Bool (len == 0)) [
      | inl none ↦ absurd (none-some _ (rw none at read))
      | inr some ↦
          let digits = digits_dots text in
          let as_many = ap dots_in (some_pair_parts _ value (drop len text) rest (rw some at read)).1 in
          omega arith
    ]

fraction_dots : HasDots 1 (optional 46 nanoseconds)
fraction_dots text value rest read =
    elim (cases_Bool (first text == 46)) [
      | inl dot ↦
          read_map_some _ (nanoseconds (drop 1 text)) value rest (rw dot at read) λ fraction is same.
          let after = nanoseconds_dots (drop 1 text) fraction rest is in
          let before = one_more text in
          omega arith
      | inr none ↦
          let as_many = ap dots_in (some_pair_parts None value text rest (rw none at read)).1 in
          omega arith
    ]

seconds_dots : HasDots 1 seconds
unfolding seconds
seconds_dots text value rest read =
    elim (cases_Bool (first text == 58)) [
      | inl colon ↦
          option_and_then_some _ (two_digits (drop 1 text)) (value, rest) (rw colon at read) λ second is more.
          read_map_some _ (optional 46 nanoseconds second.1) value rest more λ fraction found same.
          let before = no_more text (grind (arith, nat_tests)) in
          let digits = two_digits_dots (drop 1 text) second.0 second.1 is in
          let after = fraction_dots second.1 fraction rest found in
          omega arith
      | inr none ↦
          let as_many = ap dots_in (some_pair_parts (None, None) value text rest (rw none at read)).1 in
          omega arith
    ]

partial_time_dots : HasDots 1 partial_time
unfolding partial_time
partial_time_dots text value rest read =
    option_and_then_some _ (two_digits text) (value, rest) read λ hour hour_is hour_more.
    option_and_then_some _ (option_and_then two_digits (after_byte 58 hour.1)) (value, rest) hour_more λ minute minute_is minute_more.
    option_and_then_some _ (seconds minute.1) (value, rest) minute_more λ second second_is second_more.
    let hour_dots = two_digits_dots text hour.0 hour.1 hour_is in
    let minute_dots = after_digits_dots 58 hour.1 minute.0 minute.1 refl minute_is in
    let second_dots = seconds_dots minute.1 second.0 second.1 second_is in
    let same = if_rest _ _ value second.1 rest second_more in
    omega arith

offset_minutes_dots : HasDots 0 offset_minutes
unfolding offset_minutes
offset_minutes_dots text value rest read =
    option_and_then_some _ (two_digits text) (value, rest) read λ hours hours_is hours_more.
    option_and_then_some _ (option_and_then two_digits (after_byte 58 hours.1)) (value, rest) hours_more λ minutes minutes_is minutes_more.
    let hours_dots = two_digits_dots text hours.0 hours.1 hours_is in
    let minutes_dots = after_digits_dots 58 hours.1 minutes.0 minutes.1 refl minutes_is in
    let same = if_rest _ _ value minutes.1 rest minutes_more in
    omega arith

time_offset_dots : HasDots 0 time_offset
unfolding time_offset
time_offset_dots [] value rest read = absurd (none-some _ read)
time_offset_dots (c ∷ cs) value rest read =
    elim (cases_Bool (is_zulu c)) [
      | inl zulu ↦
          let one = no_more (c ∷ cs) (grind (arith, nat_tests)) in
          let as_many = ap dots_in (some_pair_parts _ value cs rest (rw zulu at read)).1 in
          omega arith
      | inr no_zulu ↦ elim (cases_Bool (c == 43)) [
        | inl plus ↦
            let one = no_more (c ∷ cs) (grind (arith, nat_tests)) in
            read_map_some _ (offset_minutes cs) value rest (rw (no_zulu, plus) at read) λ minutes is same. omega (arith, offset_minutes_dots cs minutes rest is)
        | inr no_plus ↦ elim (cases_Bool (c == 45)) [
          | inl dash ↦
              let one = no_more (c ∷ cs) (grind (arith, nat_tests)) in
              read_map_some _ (offset_minutes cs) value rest (rw (no_zulu, no_plus, dash) at read) λ minutes is same. omega (arith, offset_minutes_dots cs minutes rest is)
          | inr none ↦ absurd (none-some _ (rw (no_zulu, no_plus, none) at read))
        ]
      ]
    ]

-- nothing is left after the whole
whole_rest : {A : Type 0} (read : Read A) (value : A) → whole read ≡ Some value → read ≡ Some (value, [])
whole_rest None value is = absurd (none-some value is)
whole_rest (Some (a, [])) value is = ap (λ v. Some (v, [])) (same_Some a value is)
whole_rest (Some (a, c ∷ rest)) value is = absurd (none-some value is)

after_time_dots : (date : Date) (time : Time) (text : List ℕ) (value : Datetime) → after_time date time text ≡ Some value → dots_in text ≤ 0
after_time_dots date time [] value read = omega arith
after_time_dots date time (c ∷ cs) value read =
    option_map_some _ (whole (time_offset (c ∷ cs))) value read λ offset is same.
    time_offset_dots (c ∷ cs) offset [] (whole_rest (time_offset (c ∷ cs)) offset is)

after_date_dots : (date : Date) (text : List ℕ) (value : Datetime) → after_date date text ≡ Some value → dots_in text ≤ 1
unfolding after_date
after_date_dots date [] value read = omega arith
after_date_dots date (c ∷ cs) value read =
    elim (cases_Bool (is_time_delim c)) [
      | inl delim ↦
          option_and_then_some _ (partial_time cs) value (rw delim at read) λ time is more.
          let one = no_more (c ∷ cs) (grind (arith, nat_tests)) in
          let before = partial_time_dots cs time.0 time.1 is in
          let after = after_time_dots date time.0 time.1 value more in
          omega arith
      | inr none ↦ absurd (none-some value (rw none at read))
    ]

pub datetime_dots : (text : List ℕ) (value : Datetime) → parse_datetime text ≡ Some value → dots_in text ≤ 1
unfolding parse_datetime
datetime_dots text value read =
    elim (cases_Bool (slice_index text 2 == 58)) [
      | inl colon ↦
          option_map_some _ (whole (partial_time text)) value (rw colon at read) λ time is same.
          partial_time_dots text time [] (whole_rest (partial_time text) time is)
      | inr none ↦
          option_and_then_some _ (full_date text) value (rw none at read) λ date is more.
          let before = full_date_dots text date.0 date.1 is in
          let after = after_date_dots date.0 date.1 value more in
          omega arith
    ]
