-- A boolean, a number or a date has one dot at most.
use Rattle.std.proofs.Common.{◌≡◌, ℕ, suc, ◌+◌, ◌≤◌, Bool, true, false, not, ◌&&◌, ◌||◌, ◌==◌, if◌then◌else◌, List, [], ◌∷◌, length, drop, slice_index, filter, codes, Some, refl, ap, ◌∙◌, inl, inr, arith}
use Rattle.std.proofs.lemmas.Bool.{cases_Bool, and_parts}
use Rattle.std.proofs.lemmas.Bool.Decides.{nat_tests}
use Rattle.std.proofs.lemmas.Option.{none-some, cond_some}
use Rattle.std.proofs.lemmas.Slice.Eq.{bytes_eq-Decides}
use Rattle.std.proofs.Math.Seq.{drop-length}
use Rattle.std.specs.List.{prefix_len, list_all}
use Rattle.std.specs.Char.{is_digit, is_ascii_digit}
use Rattle.std.specs.Float.Numeral.{scan_numeral, digits_end, exponent_start, has_exponent}
use Rattle.std.specs.Str.{bytes_eq}
use lib.Seq.{get_or-drop, drop-drop}
use Rattle.toml_datetime.specs.Parse.{whole, parse_datetime}
use Rattle.toml_parser.specs.Lexical.{first}
use Rattle.toml_parser.specs.Numbers.{decimal_number, is_decimal, looks_like_datetime, number, plain_number, prefixed_integer, radix_of, word_value}
use Rattle.toml_parser.specs.declared.scalar.Scalar.{Scalar}
use Rattle.sign_file.proofs.OptionLemmas.{option_map_some, under_test}
use Rattle.sign_file.proofs.Dots.{dots_in, digits_dots, one_more, no_more}
use Rattle.sign_file.proofs.DateDots.{datetime_dots}

-- the digits from a place on
digits_at : (text : List ℕ) (i : ℕ) → dots_in (drop i text) ≡ dots_in (drop (digits_end text i) text)
digits_at text i = digits_dots (drop i text) ∙ ap dots_in (drop-drop (prefix_len is_ascii_digit (drop i text)) i text)

one_at : (text : List ℕ) (i : ℕ) → dots_in (drop i text) ≤ suc (dots_in (drop (i + 1) text))
one_at text i =
    let next : dots_in (drop 1 (drop i text)) ≡ dots_in (drop (i + 1) text) = ap dots_in (drop-drop 1 i text) in
    let more = one_more (drop i text) in
    omega arith

none_at : (text : List ℕ) (i : ℕ) → (slice_index text i == 46) ≡ false → dots_in (drop i text) ≤ dots_in (drop (i + 1) text)
none_at text i other =
    let next : dots_in (drop 1 (drop i text)) ≡ dots_in (drop (i + 1) text) = ap dots_in (drop-drop 1 i text) in
    let start : first (drop i text) ≡ slice_index text i = get_or-drop i text 0 0 ∙ ap (slice_index text) (omega arith) in
    let more = no_more (drop i text) (rw start other) in
    omega arith

after_point : (text : List ℕ) (a : ℕ) → dots_in (drop a text) ≤ suc (dots_in (drop (if slice_index text a == 46 then digits_end text (a + 1) else a) text))
after_point text a =
    elim (cases_Bool (slice_index text a == 46)) [
      | inl point ↦
          let one = one_at text a in
          let digits = digits_at text (a + 1) in
          rw point (omega arith)
      | inr none ↦ rw none (omega arith)
    ]

sign_at : (text : List ℕ) (b : ℕ) → dots_in (drop (b + 1) text) ≤ dots_in (drop (exponent_start text b) text)
sign_at text b =
    elim (cases_Bool (slice_index text (b + 1) == 45 || slice_index text (b + 1) == 43)) [
      | inl sign ↦
          let one = none_at text (b + 1) (grind (arith, nat_tests)) in
          let two : b + 1 + 1 ≡ b + 2 = omega arith in
          let as_many : dots_in (drop (b + 1 + 1) text) ≡ dots_in (drop (b + 2) text) = ap (λ i. dots_in (drop i text)) two in
          rw sign (omega arith)
      | inr none ↦ rw none (omega arith)
    ]

after_exponent : (text : List ℕ) (b : ℕ) → dots_in (drop b text) ≤ dots_in (drop (if has_exponent text b then digits_end text (exponent_start text b) else b) text)
after_exponent text b =
    elim (cases_Bool (has_exponent text b)) [
      | inl exponent ↦
          let one = none_at text b (grind (arith, nat_tests)) in
          let sign = sign_at text b in
          let digits = digits_at text (exponent_start text b) in
          rw exponent (omega arith)
      | inr none ↦ rw none (omega arith)
    ]

scan_dots : (text : List ℕ) → dots_in text ≤ suc (dots_in (drop (scan_numeral text).len text))
unfolding scan_numeral
scan_dots text =
    let a = digits_end text 0 in
    let whole : dots_in text ≡ dots_in (drop a text) = digits_at text 0 in
    let point = after_point text a in
    let exponent = after_exponent text (if slice_index text a == 46 then digits_end text (a + 1) else a) in
    omega arith

nothing_left : (text : List ℕ) (n : ℕ) → n ≡ length text → dots_in (drop n text) ≡ 0
nothing_left text n all = rw (all, drop-length text) refl

same_dots : (text other : List ℕ) → bytes_eq text other ≡ true → dots_in text ≡ dots_in other
same_dots text other same = ap dots_in ((bytes_eq-Decides text other).0 same)

decimal_dots : (negative : Bool) (text : List ℕ) (value : Scalar) → decimal_number negative text ≡ Some value → dots_in text ≤ 1
unfolding decimal_number
decimal_dots negative text value read =
    elim (cases_Bool (bytes_eq text (codes "inf"))) [
      | inl is_inf ↦ let none : dots_in text ≡ 0 = same_dots text (codes "inf") is_inf in omega arith
      | inr no_inf ↦ elim (cases_Bool (bytes_eq text (codes "nan"))) [
        | inl is_nan ↦ let none : dots_in text ≡ 0 = same_dots text (codes "nan") is_nan in omega arith
        | inr no_nan ↦ elim (cases_Bool ((scan_numeral text).len == length text && is_decimal (scan_numeral text))) [
          | inl whole ↦
              let all = (and_parts ((scan_numeral text).len == length text) (is_decimal (scan_numeral text)) whole).0 in
              let left = nothing_left text (scan_numeral text).len (grind (arith, nat_tests)) in
              let scanned = scan_dots text in
              omega arith
          | inr part ↦ absurd (none-some value (rw (no_inf, no_nan, part) at read))
        ]
      ]
    ]

-- digits of any radix have none, and neither have underscores to be left out
all_digits_dots : (radix : ℕ) (text : List ℕ) → radix ≤ 36 → list_all (λ c. is_digit c radix) text ≡ true → dots_in text ≡ 0
all_digits_dots radix [] small digits = refl
all_digits_dots radix (c ∷ cs) small digits =
    let (here, more) = and_parts (is_digit c radix) (list_all (λ d. is_digit d radix) cs) digits in
    let no_dot : (c == 46) ≡ false = grind (arith, nat_tests) in
    rw no_dot (all_digits_dots radix cs small more)

underscores_dots : (text : List ℕ) → dots_in (filter (λ c. not (c == 95)) text) ≡ dots_in text
underscores_dots [] = refl
underscores_dots (c ∷ cs) =
    let rest = underscores_dots cs in
    elim (cases_Bool (c == 95)) [
      | inl under ↦
          let no_dot : (c == 46) ≡ false = grind (arith, nat_tests) in
          rw (under, no_dot) rest
      | inr other ↦ rw other (grind arith)
    ]

prefixed_dots : (radix : ℕ) (text : List ℕ) (value : Scalar) → radix ≤ 36 → prefixed_integer radix text ≡ Some value → dots_in text ≡ 0
unfolding prefixed_integer
prefixed_dots radix text value small read =
    let test = (cond_some _ _ value read).0 in
    all_digits_dots radix text small (grind (arith, nat_tests))

plain_dots : (text : List ℕ) (value : Scalar) → plain_number text ≡ Some value → dots_in text ≤ 1
unfolding plain_number
plain_dots [] value read = omega arith
plain_dots (c ∷ cs) value read =
    elim (cases_Bool (radix_of (c ∷ cs) == 10)) [
      | inl ten ↦ elim (cases_Bool (c == 45)) [
        | inl dash ↦
            let digits = decimal_dots true cs value (rw (ten, dash) at read) in
            let no_dot : (c == 46) ≡ false = grind (arith, nat_tests) in
            rw no_dot digits
        | inr no_dash ↦ elim (cases_Bool (c == 43)) [
          | inl plus ↦
              let digits = decimal_dots false cs value (rw (ten, no_dash, plus) at read) in
              let no_dot : (c == 46) ≡ false = grind (arith, nat_tests) in
              rw no_dot digits
          | inr no_plus ↦ decimal_dots false (c ∷ cs) value (rw (ten, no_dash, no_plus) at read)
        ]
      ]
      | inr other ↦
          let digits = prefixed_dots (radix_of (c ∷ cs)) (drop 1 cs) value (grind (arith, nat_tests)) (rw other at read) in
          let no_dot : (c == 46) ≡ false = grind (arith, nat_tests) in
          let letter = no_more cs (grind (arith, nat_tests)) in
          rw no_dot (omega arith)
    ]

pub word_dots : (text : List ℕ) (value : Scalar) → word_value text ≡ Some value → dots_in text ≤ 1
unfolding word_value number
word_dots text value read =
    elim (cases_Bool (bytes_eq text (codes "true"))) [
      | inl is_true ↦ let none : dots_in text ≡ 0 = same_dots text (codes "true") is_true in omega arith
      | inr no_true ↦ elim (cases_Bool (bytes_eq text (codes "false"))) [
        | inl is_false ↦ let none : dots_in text ≡ 0 = same_dots text (codes "false") is_false in omega arith
        | inr no_false ↦ elim (cases_Bool (looks_like_datetime text)) [
          | inl dated ↦ option_map_some _ (parse_datetime text) value (rw (no_true, no_false, dated) at read) λ date is same. datetime_dots text date is
          | inr undated ↦
              let under = under_test _ _ value (rw (no_true, no_false, undated) at read) in
              let digits = plain_dots (filter (λ c. not (c == 95)) text) value under in
              let as_many = underscores_dots text in
              omega arith
        ]
      ]
    ]
