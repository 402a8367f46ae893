-- What the look at nesting passes over: keys.
use Rattle.std.proofs.Common.{◌≡◌, ℕ, zero, suc, Bool, true, false, ◌&&◌, ◌||◌, ◌==◌, List, [], ◌∷◌, ◌++◌, length, drop, slice_index, Some, refl, sym, ap, subst, ◌∙◌, inl, inr, arith}
use Rattle.std.proofs.lemmas.Bool.{cases_Bool, true≢false, false≢true}
use Rattle.std.proofs.lemmas.Bool.Decides.{nat_tests}
use Rattle.std.proofs.lemmas.Option.{none-some, same_Some, option_and_then_some}
use lib.Seq.{get_or-drop}
use Rattle.std.proofs.Math.ListN.{length-append}
use Rattle.toml_parser.specs.Lexical.{first, is_ws, is_bare, skip_ws, split_while}
use Rattle.toml_parser.specs.Strings.{Key, body, is_plain, key, key_after, one_line, quoted, recursion_limit, simple_key, special, starts_string}
use Rattle.toml_parser.proofs.StringsLemmas.{body_special}
use Rattle.sign_file.proofs.PassedOver.{IsOk, dot_ok, run_ok, string_ok, ws_ok}

-- an empty string before its delimiter once more is none
two_delims : (text string rest : List ℕ) → starts_string text ≡ true → one_line text ≡ Some (string, rest) → (first rest == first text) ≡ false
    → (slice_index text 1 == first text && slice_index text 2 == first text) ≡ true → ⊥
unfolding one_line special
two_delims [] string rest starts read other three = false≢true starts
two_delims (d ∷ cs) string rest starts read other three =
    let ends : (first cs == d) ≡ true = grind (arith, nat_tests) in
    let special_here : is_plain d false (first cs) ≡ false = rw ends refl in
    let long : length (d ∷ cs) ≡ suc (length cs) = omega arith in
    let turn = sym (body_special d false (length cs) cs special_here) ∙ sym (ap (λ n. body d false n cs) long) ∙ read in
    let same = ap (λ p. p.1) (same_Some ([], drop 1 cs) (string, rest) (rw ends at turn)) in
    let third : first rest ≡ slice_index (d ∷ cs) 2 = ap first (sym same) ∙ get_or-drop 1 cs 0 0 in
    true≢false (grind (arith, nat_tests))

-- a string on one line is a string, unless its two delimiters are the first of three
one_line_quoted : (text string rest : List ℕ) → starts_string text ≡ true → one_line text ≡ Some (string, rest) → (first rest == first text) ≡ false → quoted text ≡ Some (string, rest)
unfolding quoted
one_line_quoted text string rest starts read other =
    elim (cases_Bool (slice_index text 1 == first text && slice_index text 2 == first text)) [
      | inl three ↦ absurd (two_delims text string rest starts read other three)
      | inr one ↦ rw one read
    ]

-- an octet before which a key may end
abbrev pub ends_key : ℕ → Bool
ends_key c = (c == 46 || c == 61) || c == 93

simple_key_ok : {most opened dots : ℕ} (text string rest : List ℕ) → simple_key text ≡ Some (string, rest) → (first rest == 34 || first rest == 39) ≡ false → IsOk most opened dots rest
    → IsOk most opened dots text
unfolding simple_key
simple_key_ok {most = most} {opened = opened} {dots = dots} text string rest read other ok =
    elim (cases_Bool (starts_string text)) [
      | inl starts ↦ string_ok text string rest starts (one_line_quoted text string rest starts (rw starts at read) (grind (arith, nat_tests))) ok
      | inr no_string ↦ elim (cases_Bool (is_bare (first text))) [
        | inl bare ↦
            let same = same_Some (split_while is_bare text) (string, rest) (rw (no_string, bare) at read) in
            run_ok is_bare (λ c is. grind (arith, nat_tests)) text (subst (IsOk most opened dots) (sym (ap (λ p. p.1) same)) ok)
        | inr neither ↦ absurd (none-some _ (rw (no_string, neither) at read))
      ]
    ]

-- what stands before no quote after white space stands before none
no_quote : (text : List ℕ) → ends_key (first (skip_ws text)) ≡ true → (first text == 34 || first text == 39) ≡ false
unfolding skip_ws
no_quote [] ends = refl
no_quote (c ∷ cs) ends =
    elim (cases_Bool (is_ws c)) [
      | inl space ↦ grind (arith, nat_tests)
      | inr other ↦
          let here : ends_key c ≡ true = rw other at ends in
          grind (arith, nat_tests)
    ]

key_after_ok : {most opened : ℕ} (n : ℕ) (path : List (List ℕ)) (text : List ℕ) (k : Key) (rest : List ℕ) → key_after n path text ≡ Some (k, rest) → ends_key (first rest) ≡ true
    → IsOk most opened (length k.0) rest → IsOk most opened (length path) text
unfolding key_after
key_after_ok zero path text k rest read ends ok = absurd (none-some _ read)
key_after_ok {most = most} {opened = opened} (suc n) path text k rest read ends ok =
    option_and_then_some _ (simple_key text) (k, rest) read λ part is more.
    elim (cases_Bool (first (skip_ws part.1) == 46)) [
      | inl goes_on ↦
          let next = key_after_ok n (path ++ part.0 ∷ []) (skip_ws (drop 1 (skip_ws part.1))) k rest (rw goes_on at more) ends ok in
          let start : first (skip_ws part.1) ≡ 46 = grind (arith, nat_tests) in
          let longer : length (path ++ part.0 ∷ []) ≡ suc (length path) = simp length-append (omega arith) in
          let behind = ws_ok (drop 1 (skip_ws part.1)) (subst (λ d. IsOk most opened d (skip_ws (drop 1 (skip_ws part.1)))) longer next) in
          simple_key_ok text part.0 part.1 is (no_quote part.1 (rw start refl)) (ws_ok part.1 (dot_ok (skip_ws part.1) start behind))
      | inr last ↦
          let same = same_Some ((path, part.0), skip_ws part.1) (k, rest) (rw last at more) in
          let at_rest : skip_ws part.1 ≡ rest = ap (λ p. p.1) same in
          let as_long : length path ≡ length k.0 = ap (λ p. length p.0.0) same in
          let behind : IsOk most opened (length path) (skip_ws part.1) = rw (at_rest, as_long) ok in
          simple_key_ok text part.0 part.1 is (no_quote part.1 (subst (λ t. ends_key (first t) ≡ true) (sym at_rest) ends)) (ws_ok part.1 behind)
    ]

pub key_ok : {most opened : ℕ} (text : List ℕ) (k : Key) (rest : List ℕ) → key text ≡ Some (k, rest) → ends_key (first rest) ≡ true → IsOk most opened (length k.0) rest → IsOk most opened 0 text
key_ok text k rest read ends ok = key_after_ok recursion_limit [] text k rest read ends ok
