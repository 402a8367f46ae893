-- What the look at nesting passes over: booleans, numbers and dates.
use Rattle.std.proofs.Common.{◌≡◌, ℕ, suc, ◌+◌, ◌≤◌, Bool, true, ◌&&◌, ◌||◌, ◌==◌, List, [], ◌∷◌, ◌++◌, drop, take, slice_index, subst, Some, refl, sym, ap, ◌∙◌, inl, inr, arith}
use Rattle.std.proofs.lemmas.Bool.{cases_Bool, and_parts}
use Rattle.std.proofs.lemmas.Bool.Decides.{nat_tests}
use Rattle.std.proofs.lemmas.List.{take-append-drop}
use Rattle.std.proofs.lemmas.List.Folds.{list_all-append}
use Rattle.std.proofs.lemmas.Option.{none-some}
use Rattle.std.proofs.Math.Seq.{take-add}
use Rattle.std.specs.List.{prefix_len, list_all}
use Rattle.std.specs.Char.{is_ascii_digit}
use lib.Seq.{get_or-drop}
use Rattle.toml_parser.specs.Lexical.{first, is_word}
use Rattle.toml_parser.specs.Numbers.{unquoted, word_len, word_value}
use Rattle.toml_parser.specs.declared.scalar.Scalar.{Scalar}
use Rattle.sign_file.proofs.PassedOver.{IsOk, plain_ok, dot_ok, fewer_ok}
use Rattle.sign_file.proofs.OptionLemmas.{option_map_some}
use Rattle.sign_file.proofs.Dots.{dots_in}
use Rattle.sign_file.proofs.NumberDots.{word_dots}

-- an octet of a word, or the space between a date and a time
abbrev is_in_word : ℕ → Bool
is_in_word c = is_word c || c == 32

front_ok : {most opened : ℕ} (dots : ℕ) (word rest : List ℕ) → list_all is_in_word word ≡ true → IsOk most opened (dots + dots_in word) rest → IsOk most opened dots (word ++ rest)
front_ok {most = most} {opened = opened} dots [] rest all ok =
    let none : dots + 0 ≡ dots = omega arith in
    subst (λ n. IsOk most opened n rest) none ok
front_ok {most = most} {opened = opened} dots (c ∷ cs) rest all ok =
    let (here, more) = and_parts (is_in_word c) (list_all is_in_word cs) all in
    elim (cases_Bool (c == 46)) [
      | inl dot ↦
          let one : dots + suc (dots_in cs) ≡ suc dots + dots_in cs = omega arith in
          let behind : IsOk most opened (dots + suc (dots_in cs)) rest = rw dot at ok in
          dot_ok (c ∷ cs ++ rest) (grind (arith, nat_tests)) (front_ok (suc dots) cs rest more (subst (λ n. IsOk most opened n rest) one behind))
      | inr other ↦ plain_ok (c ∷ cs ++ rest) (grind (arith, nat_tests)) (front_ok dots cs rest more (rw other at ok))
    ]

words_all : (text : List ℕ) → list_all is_in_word (take (prefix_len is_word text) text) ≡ true
words_all [] = refl
words_all (c ∷ cs) =
    elim (cases_Bool (is_word c)) [
      | inl word ↦
          let next : 1 + prefix_len is_word cs ≡ suc (prefix_len is_word cs) = omega arith in
          rw (word, next, word) (words_all cs)
      | inr other ↦ rw other refl
    ]

space_all : (text : List ℕ) → first text ≡ 32 → list_all is_in_word (take 1 text) ≡ true
space_all [] is = refl
space_all (c ∷ cs) is = let space : c ≡ 32 = is in rw space refl

word_all : (text : List ℕ) → list_all is_in_word (take (word_len text) text) ≡ true
unfolding word_len
word_all text =
    let len = prefix_len is_word text in
    elim (cases_Bool (slice_index text len == 32 && is_ascii_digit (slice_index text (len + 1)))) [
      | inl both ↦
          let space : slice_index text len ≡ 32 = grind (arith, nat_tests) in
          let start : first (drop len text) ≡ 32 = get_or-drop len text 0 0 ∙ ap (slice_index text) (omega arith) ∙ space in
          let more = drop (len + 1) text in
          rw (
            both,
            take-add (len + 1) (prefix_len is_word more) text,
            take-add len 1 text,
            list_all-append is_in_word (take len text ++ take 1 (drop len text)) (take (prefix_len is_word more) more),
            list_all-append is_in_word (take len text) (take 1 (drop len text)),
            words_all text,
            space_all (drop len text) start,
          ) (words_all more)
      | inr one ↦ rw one (words_all text)
    ]

-- a boolean, a number or a date
pub unquoted_ok : {most opened : ℕ} (text : List ℕ) (scalar : Scalar) (rest : List ℕ) → 1 ≤ most → unquoted text ≡ Some (scalar, rest) → IsOk most opened most rest → IsOk most opened 0 text
unfolding unquoted
unquoted_ok {most = most} {opened = opened} text scalar rest some read ok =
    let len = word_len text in
    let word = take len text in
    elim (cases_Bool (len == 0)) [
      | inl none ↦ absurd (none-some _ (rw none at read))
      | inr more ↦
          option_map_some (λ (d : Scalar). (d, drop len text)) (word_value word) (scalar, rest) (rw more at read) λ d is same.
          let few = word_dots word d is in
          let behind : IsOk most opened most (drop len text) = subst (IsOk most opened most) (sym (ap (λ p. p.1) same)) ok in
          let passed = front_ok 0 word (drop len text) (word_all text) (fewer_ok (0 + dots_in word) most (drop len text) (omega arith) behind) in
          subst (IsOk most opened 0) (take-append-drop len text) passed
    ]
