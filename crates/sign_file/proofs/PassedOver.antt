-- What the look at nesting passes over in a text that TOML's grammar reads.
use Rattle.std.proofs.Common.{◌≡◌, ℕ, zero, suc, ◌+◌, ◌-◌, ◌≤◌, Bool, true, false, not, ◌&&◌, ◌||◌, ◌==◌, List, [], ◌∷◌, drop, Some, refl, sym, ◌∙◌, inl, inr, arith}
use Rattle.std.proofs.lemmas.Bool.{cases_Bool, true≢false, and_parts}
use Rattle.std.proofs.lemmas.Bool.Decides.{nat_tests}
use Rattle.std.specs.List.{prefix_len}
use Rattle.toml_parser.specs.Lexical.{first, is_ws, skip_blank, skip_from, skip_ws}
use Rattle.toml_parser.specs.Strings.{quoted, starts_string}
use Rattle.toml.specs.Parse.{ends_line}
use Rattle.sign_file.specs.Nesting.{opens, closes, ends_name, mark_of, outside}
use Rattle.sign_file.proofs.NestingLemmas.{fits_in, open_after, dots_after, most_dots-more, goes_on, fits_nothing, is_over, outside_over, outside_string, outside_mark}

-- no more than 16 brackets are open at once, and no name has more than `most` dots, in a text after so many of both, however far it is looked at
pub record IsOk (most opened dots : ℕ) (text : List ℕ) : Type 0 where
  pub shallow : opened ≤ 16
  pub few : dots ≤ most
  pub fits : (n : ℕ) → fits_in most opened dots (outside n text) ≡ true

none_at_first : (text : List ℕ) → outside zero text ≡ []
unfolding outside
none_at_first text = refl

pub over_ok : {most opened dots : ℕ} (text : List ℕ) → opened ≤ 16 → dots ≤ most → is_over (first text) ≡ true → IsOk most opened dots text
over_ok {most = most} {opened = opened} {dots = dots} text shallow few over = record {
  shallow = shallow;
  few = few;
  fits = λ n. rw (outside_over n text over) (fits_nothing most opened dots shallow few);
}

string_far : {most opened dots : ℕ} (text string rest : List ℕ) → is_over (first text) ≡ false → starts_string text ≡ true → quoted text ≡ Some (string, rest)
    → IsOk most opened dots rest → (n : ℕ) → fits_in most opened dots (outside n text) ≡ true
string_far {most = most} {opened = opened} {dots = dots} text string rest going starts read ok zero = rw (none_at_first text) (fits_nothing most opened dots ok.shallow ok.few)
string_far text string rest going starts read ok (suc n) =
    let less : suc n - 1 ≡ n = omega arith in
    rw (outside_string (suc n) text string rest (omega arith) going starts read, less) (ok.fits n)

pub string_ok : {most opened dots : ℕ} (text string rest : List ℕ) → starts_string text ≡ true → quoted text ≡ Some (string, rest) → IsOk most opened dots rest → IsOk most opened dots text
string_ok text string rest starts read ok = record {
  shallow = ok.shallow;
  few = ok.few;
  fits = string_far text string rest (grind (arith, nat_tests)) starts read ok;
}

mark_far : {most opened dots : ℕ} (text : List ℕ) (octet : ℕ) (rest : List ℕ) (deep some : ℕ) → opened ≤ 16 → dots ≤ most → is_over (first text) ≡ false → starts_string text ≡ false
    → (octet, rest) ≡ mark_of text → deep ≡ open_after opened octet → some ≡ dots_after dots octet → IsOk most deep some rest → (n : ℕ) → fits_in most opened dots (outside n text) ≡ true
mark_far {most = most} {opened = opened} {dots = dots} text octet rest deep some shallow few going starts is opening ending ok zero = rw (none_at_first text) (fits_nothing most opened dots shallow few)
mark_far {most = most} {opened = opened} {dots = dots} text octet rest deep some shallow few going starts is opening ending ok (suc n) =
    let less : suc n - 1 ≡ n = omega arith in
    rw (outside_mark (suc n) text octet rest (omega arith) going starts is, less)
    (goes_on most opened dots octet (outside n rest) deep some shallow few opening ending ∙ ok.fits n)

-- an octet that is neither the end of all nor begins a string or a comment
abbrev pub is_mark : ℕ → Bool
is_mark c = ((not (is_over c) && not (c == 34)) && not (c == 39)) && not (c == 35)

mark_ok : {most opened dots : ℕ} (text : List ℕ) (deep some : ℕ) → opened ≤ 16 → dots ≤ most → is_mark (first text) ≡ true → deep ≡ open_after opened (first text) → some ≡ dots_after dots (first text)
    → IsOk most deep some (drop 1 text) → IsOk most opened dots text
mark_ok text deep some shallow few mark opening ending ok =
    let no_comment : (first text == 35) ≡ false = grind (arith, nat_tests) in record {
      shallow = shallow;
      few = few;
      fits = mark_far text (first text) (drop 1 text) deep some shallow few (grind (arith, nat_tests)) (grind (arith, nat_tests)) (rw no_comment refl) opening ending ok;
    }

-- an octet of which nothing nests, nor ends
abbrev pub is_plain_mark : ℕ → Bool
is_plain_mark c = (is_mark c && not (ends_name c)) && not (c == 46)

pub plain_ok : {most opened dots : ℕ} (text : List ℕ) → is_plain_mark (first text) ≡ true → IsOk most opened dots (drop 1 text) → IsOk most opened dots text
plain_ok {opened = opened} {dots = dots} text plain ok = mark_ok text opened dots ok.shallow ok.few (grind (arith, nat_tests)) (grind (arith, nat_tests)) (grind (arith, nat_tests)) ok

pub dot_ok : {most opened dots : ℕ} (text : List ℕ) → first text ≡ 46 → IsOk most opened (suc dots) (drop 1 text) → IsOk most opened dots text
dot_ok {opened = opened} {dots = dots} text is ok =
    let few = ok.few in
    mark_ok text opened (suc dots) ok.shallow (omega arith) (rw is refl) (rw is refl) (rw is refl) ok

-- an octet that ends a name, and is no bracket
abbrev pub is_end : ℕ → Bool
is_end c = (c == 61 || c == 44) || c == 10

pub end_ok : {most opened dots : ℕ} (text : List ℕ) → dots ≤ most → is_end (first text) ≡ true → IsOk most opened 0 (drop 1 text) → IsOk most opened dots text
end_ok {opened = opened} text few is ok = mark_ok text opened 0 ok.shallow few (grind (arith, nat_tests)) (grind (arith, nat_tests)) (grind (arith, nat_tests)) ok

pub opening_ok : {most opened dots : ℕ} (text : List ℕ) → dots ≤ most → opens (first text) ≡ true → IsOk most (suc opened) 0 (drop 1 text) → IsOk most opened dots text
opening_ok {opened = opened} text few opening ok =
    let shallow = ok.shallow in
    mark_ok text (suc opened) 0 (omega arith) few (grind (arith, nat_tests)) (grind (arith, nat_tests)) (grind (arith, nat_tests)) ok

pub closing_ok : {most opened dots : ℕ} (text : List ℕ) → suc opened ≤ 16 → dots ≤ most → closes (first text) ≡ true → IsOk most opened 0 (drop 1 text) → IsOk most (suc opened) dots text
closing_ok {opened = opened} text shallow few closing ok = mark_ok text opened 0 shallow few (grind (arith, nat_tests)) (grind (arith, nat_tests)) (grind (arith, nat_tests)) ok

reset_far : (most opened dots more : ℕ) (text : List ℕ) → more ≤ most → is_over (first text) ≡ false → starts_string text ≡ false → (first text, drop 1 text) ≡ mark_of text → ends_name (first text) ≡ true
    → IsOk most opened dots text → (n : ℕ) → fits_in most opened more (outside n text) ≡ true
reset_far most opened dots more text few going starts is ending ok zero = rw (none_at_first text) (fits_nothing most opened more ok.shallow few)
reset_far most opened dots more text few going starts is ending ok (suc n) =
    let ahead = outside_mark (suc n) text (first text) (drop 1 text) (omega arith) going starts is in
    let octets = outside (suc n - 1) (drop 1 text) in
    let before = ok.fits (suc n) in
    let same : fits_in most opened dots (first text ∷ octets) ≡ fits_in most opened more (first text ∷ octets) =
    goes_on most opened dots (first text) octets (open_after opened (first text)) 0 ok.shallow ok.few refl (rw ending refl)
    ∙ sym (goes_on most opened more (first text) octets (open_after opened (first text)) 0 ok.shallow few refl (rw ending refl)) in
    rw ahead (sym same ∙ (rw ahead at before))

fewer_fit : (most opened fewer dots : ℕ) (octets : List ℕ) → fewer ≤ dots → fits_in most opened dots octets ≡ true → fits_in most opened fewer octets ≡ true
fewer_fit most opened fewer dots octets small fits =
    let less = most_dots-more fewer dots octets small in
    grind (arith, nat_tests)

-- with fewer dots before
pub fewer_ok : {most opened : ℕ} (fewer dots : ℕ) (text : List ℕ) → fewer ≤ dots → IsOk most opened dots text → IsOk most opened fewer text
fewer_ok {most = most} {opened = opened} fewer dots text small ok =
    let few = ok.few in record {
      shallow = ok.shallow;
      few = omega arith;
      fits = λ n. fewer_fit most opened fewer dots (outside n text) small (ok.fits n);
    }

-- the longest front of octets of which none nests, nor ends
pub run_ok : {most opened dots : ℕ} (p : ℕ → Bool) → ((c : ℕ) → p c ≡ true → is_plain_mark c ≡ true) → (text : List ℕ) → IsOk most opened dots (drop (prefix_len p text) text) → IsOk most opened dots text
run_ok p means_nothing [] ok = ok
run_ok p means_nothing (c ∷ cs) ok =
    elim (cases_Bool (p c)) [
      | inl is ↦
          let next : 1 + prefix_len p cs ≡ suc (prefix_len p cs) = omega arith in
          plain_ok (c ∷ cs) (means_nothing c is) (run_ok p means_nothing cs (rw (is, next) at ok))
      | inr other ↦ (rw other at ok)
    ]

pub ws_ok : {most opened dots : ℕ} (text : List ℕ) → IsOk most opened dots (skip_ws text) → IsOk most opened dots text
unfolding skip_ws
ws_ok text ok = run_ok is_ws (λ c is. grind (arith, nat_tests)) text ok

comment_ok : {most opened dots : ℕ} (c : ℕ) (cs : List ℕ) → dots ≤ most → c ≡ 35 → IsOk most opened 0 (skip_blank (c ∷ cs)) → IsOk most opened dots (c ∷ cs)
comment_ok {opened = opened} c cs few is ok = record {
  shallow = ok.shallow;
  few = few;
  fits = mark_far (c ∷ cs) 10 (skip_blank (c ∷ cs)) opened 0 ok.shallow few (rw is refl) (rw is refl) (rw is refl) refl refl ok;
}

-- white space, newlines and comments
pub blank_ok : {most opened dots : ℕ} (text : List ℕ) → IsOk most opened dots (skip_blank text) → IsOk most opened dots text
unfolding skip_from
blank_ok [] ok = ok
blank_ok {dots = dots} (c ∷ cs) ok =
    elim (cases_Bool (c == 10)) [
      | inl feed ↦
          let is : c ≡ 10 = grind (arith, nat_tests) in
          end_ok (c ∷ cs) ok.few (rw is refl) (fewer_ok 0 dots cs (omega arith) (blank_ok cs (rw is at ok)))
      | inr no_feed ↦ elim (cases_Bool (c == 13 && first cs == 10)) [
        | inl newline ↦ plain_ok (c ∷ cs) (grind (arith, nat_tests)) (blank_ok cs (rw (no_feed, newline) at ok))
        | inr no_newline ↦ elim (cases_Bool (is_ws c)) [
          | inl space ↦ plain_ok (c ∷ cs) (grind (arith, nat_tests)) (blank_ok cs (rw (no_feed, no_newline, space) at ok))
          | inr no_space ↦ elim (cases_Bool (c == 35)) [
            | inl comment ↦ comment_ok c cs ok.few (grind (arith, nat_tests)) (fewer_ok 0 dots (skip_blank (c ∷ cs)) (omega arith) ok)
            | inr other ↦ (rw (no_feed, no_newline, no_space, other) at ok)
          ]
        ]
      ]
    ]

feed_ends : (text : List ℕ) → (first text == 10) ≡ true → ends_line (skip_ws text) ≡ true
unfolding skip_ws
feed_ends [] is = absurd (true≢false (sym is))
feed_ends (c ∷ cs) is =
    let feed : c ≡ 10 = grind (arith, nat_tests) in
    rw feed (grind (arith, nat_tests))

-- what ends a line, and what comes before the next; a carriage return alone does not
pub line_end_ok : {most opened dots : ℕ} (text : List ℕ) → dots ≤ most → ends_line (skip_ws text) ≡ true → (first (skip_blank text) == 13) ≡ false → IsOk most opened 0 (skip_blank text)
    → IsOk most opened dots text
unfolding skip_from skip_ws
line_end_ok [] few ends begins ok = over_ok [] ok.shallow few refl
line_end_ok (c ∷ cs) few ends begins ok =
    elim (cases_Bool (c == 10)) [
      | inl feed ↦
          let is : c ≡ 10 = grind (arith, nat_tests) in
          end_ok (c ∷ cs) few (rw is refl) (blank_ok cs (rw is at ok))
      | inr no_feed ↦ elim (cases_Bool (c == 13 && first cs == 10)) [
        | inl newline ↦
            plain_ok (c ∷ cs) (grind (arith, nat_tests)) (line_end_ok cs few (feed_ends cs (and_parts (c == 13) (first cs == 10) newline).1) (rw (no_feed, newline) at begins) (rw (no_feed, newline) at ok))
        | inr no_newline ↦ elim (cases_Bool (is_ws c)) [
          | inl space ↦
              let next : 1 + prefix_len is_ws cs ≡ suc (prefix_len is_ws cs) = omega arith in
              plain_ok (c ∷ cs) (grind (arith, nat_tests))
              (line_end_ok cs few (rw (space, next) at ends) (rw (no_feed, no_newline, space) at begins) (rw (no_feed, no_newline, space) at ok))
          | inr no_space ↦ elim (cases_Bool (c == 35)) [
            | inl comment ↦ comment_ok c cs few (grind (arith, nat_tests)) ok
            | inr other ↦
                let no_return : (c == 13) ≡ false = rw (no_feed, no_newline, no_space, other) at begins in
                absurd (true≢false (sym (rw no_space at ends) ∙ grind (arith, nat_tests)))
          ]
        ]
      ]
    ]

-- before an octet that ends a name it does not count how many dots the name has
pub reset_ok : {most opened : ℕ} (dots more : ℕ) (text : List ℕ) → more ≤ most → is_mark (first text) ≡ true → ends_name (first text) ≡ true → IsOk most opened dots text → IsOk most opened more text
reset_ok {most = most} {opened = opened} dots more text few mark ending ok =
    let no_comment : (first text == 35) ≡ false = grind (arith, nat_tests) in record {
      shallow = ok.shallow;
      few = few;
      fits = reset_far most opened dots more text few (grind (arith, nat_tests)) (grind (arith, nat_tests)) (rw no_comment refl) ending ok;
    }
