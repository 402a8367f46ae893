-- On the way through what the items of a message say: its lines.
use Rattle.std.proofs.Common.{◌≡◌, ℕ, ◌+◌, ◌<◌, Bool, true, false, cond, not, ◌&&◌, ◌||◌, ◌==◌, List, [], ◌∷◌, ◌++◌, get_or, length, take, Option, None, Some, refl, sym, ap, ◌∙◌, append-nil, arith}
use Rattle.std.proofs.lemmas.Bool.{ne_eqb}
use Rattle.std.proofs.lemmas.List.{length-append, take_more}
use Rattle.std.proofs.lemmas.List.Elements.{filter-append, filter_map-append}
use Rattle.std.proofs.lemmas.List.Folds.{list_any-append}
use Rattle.std.specs.List.{after_last, cons_option, filter, filter_map, last_or}
use Rattle.std.specs.Option.{unwrap_or}
use Rattle.sign_font.specs.declared.parts.Defaults.{Defaults}
use Rattle.multi_meaning.proofs.WordLemmas.{after_last_push, last_or-append, some_after_push}
use Rattle.message_words.specs.OnItems.{is_letter}
use Rattle.message_words.specs.OnLines.{ended_texts, ends_line, first_place, has_letters, is_character, just_after, just_set, lead_of, line_after, text_after, trail_of, with_character}
use Rattle.message_words.specs.declared.lines.LineText.{LineText}
use Rattle.message_words.specs.declared.said.Said.{Said}

-- a line by its parts
abbrev pub text : Option ℕ → Option ℕ → Bool → Bool → ℕ → LineText
text lead trail empty letters just = record { lead = lead; trail = trail; is_empty = empty; has_letters = letters; just = just }

-- a line by its characters
abbrev pub text_of : ℕ → List Said → LineText
text_of just line = text (lead_of line) (trail_of line) (length line == 0) (has_letters line) just

-- the first of some characters, with one more
first_push : (line : List Said) (s : Said) → first_place (line ++ s ∷ []) ≡ Some (unwrap_or (first_place line) s.at)
first_push [] s = refl
first_push (c ∷ line) s = refl

module _ (line : List Said) (s : Said) where
  letters_push : has_letters (line ++ s ∷ []) ≡ (has_letters line || is_letter s.tag)
  letters_push = list_any-append (λ (s : Said). is_letter s.tag) line (s ∷ []) ∙ ap (λ b. has_letters line || b) (of (is_letter s.tag))
    where
      of : (b : Bool) → (b || false) ≡ b
      of true = refl
      of false = refl

  trail_push : trail_of (line ++ s ∷ []) ≡ cond (is_letter s.tag || not (has_letters line)) None (Some (unwrap_or (trail_of line) s.at))
  trail_push =
      ap (λ b. cond b (first_place (after_last (λ (s : Said). is_letter s.tag) (line ++ s ∷ []))) None) letters_push
      ∙ ap (λ l. cond (has_letters line || is_letter s.tag) (first_place l) None) (after_last_push (λ (s : Said). is_letter s.tag) line s) ∙ of (has_letters line) (is_letter s.tag)
    where
      last : List Said
      last = after_last (λ (s : Said). is_letter s.tag) line

      of : (some is : Bool) → cond (some || is) (first_place (cond is [] (last ++ s ∷ []))) None ≡ cond (is || not some) None (Some (unwrap_or (cond some (first_place last) None) s.at))
      of true true = refl
      of true false = first_push last s
      of false true = refl
      of false false = refl

  not_empty : (length (line ++ s ∷ []) == 0) ≡ false
  not_empty = ne_eqb _ 0 (λ e. omega (arith, e, length-append line (s ∷ [])))

lead_push : (line : List Said) (s : Said) → lead_of (line ++ s ∷ []) ≡ cond ((length line == 0) && not (is_letter s.tag)) (Some s.at) (lead_of line)
lead_push [] s = of (is_letter s.tag)
  where
    of : (b : Bool) → cond b None (Some s.at) ≡ cond (not b) (Some s.at) None
    of true = refl
    of false = refl
lead_push (c ∷ line) s = sym (ap (λ b. cond (b && not (is_letter s.tag)) (Some s.at) (lead_of (c ∷ line))) (ne_eqb (length (c ∷ line)) 0 (λ e. omega (arith, e))))

-- a line with one more character
added : (just : ℕ) (line : List Said) (s : Said) → with_character (text_of just line) (is_letter s.tag) s.at ≡ text_of just (line ++ s ∷ [])
added just line s = sym (
    ap (λ o. text o (trail_of (line ++ s ∷ [])) (length (line ++ s ∷ []) == 0) (has_letters (line ++ s ∷ [])) just) (lead_push line s)
    ∙ ap (λ o. text (cond ((length line == 0) && not (is_letter s.tag)) (Some s.at) (lead_of line)) o (length (line ++ s ∷ []) == 0) (has_letters (line ++ s ∷ [])) just) (trail_push line s)
    ∙ ap (λ b. text (cond ((length line == 0) && not (is_letter s.tag)) (Some s.at) (lead_of line)) (cond (is_letter s.tag || not (has_letters line)) None (Some (unwrap_or (trail_of line) s.at))) b (has_letters (line ++ s ∷ [])) just) (not_empty line s)
    ∙ ap (λ b. text (cond ((length line == 0) && not (is_letter s.tag)) (Some s.at) (lead_of line)) (cond (is_letter s.tag || not (has_letters line)) None (Some (unwrap_or (trail_of line) s.at))) false b just) (letters_push line s))

-- the line on which items end, with one more item
module _ (defaults : Defaults) (before : List Said) (s : Said) where
  line_push : line_after (before ++ s ∷ []) ≡ cond (ends_line s.tag) [] (cond (is_character s.tag) (line_after before ++ s ∷ []) (line_after before))
  line_push = ap (filter (λ (s : Said). is_character s.tag)) (after_last_push (λ (s : Said). ends_line s.tag) before s) ∙ of (ends_line s.tag)
    where
      or_not : (b : Bool) → line_after before ++ cond b (s ∷ []) [] ≡ cond b (line_after before ++ s ∷ []) (line_after before)
      or_not true = refl
      or_not false = append-nil (line_after before)

      of : (b : Bool) → filter (λ (s : Said). is_character s.tag) (cond b [] (after_last (λ (s : Said). ends_line s.tag) before ++ s ∷ []))
          ≡ cond b [] (cond (is_character s.tag) (line_after before ++ s ∷ []) (line_after before))
      of true = refl
      of false = filter-append (λ (s : Said). is_character s.tag) (after_last (λ (s : Said). ends_line s.tag) before) (s ∷ []) ∙ or_not (is_character s.tag)

  just_push : just_after defaults (before ++ s ∷ []) ≡ unwrap_or (just_set defaults s.tag) (just_after defaults before)
  just_push =
      ap (λ l. unwrap_or (last_or None l) defaults.line) (filter_map-append sets before (s ∷ []))
      ∙ ap (λ o. unwrap_or o defaults.line) (last_or-append None (filter_map sets before) (filter_map sets (s ∷ []))) ∙ of (sets s)
    where
      sets : Said → Option ℕ
      sets s = just_set defaults s.tag

      of : (now : Option ℕ) → unwrap_or (last_or (last_or None (filter_map sets before)) (cons_option now [])) defaults.line ≡ unwrap_or now (unwrap_or (last_or None (filter_map sets before)) defaults.line)
      of None = refl
      of (Some just) = refl

  abbrev just : ℕ
  just = unwrap_or (just_set defaults s.tag) (just_after defaults before)

  after_is : (line : List Said) → line_after (before ++ s ∷ []) ≡ line → text_of just line ≡ text_after defaults (before ++ s ∷ [])
  after_is line is = sym (ap (λ j. text_of j (line_after (before ++ s ∷ []))) just_push ∙ ap (text_of just) is)

  pub ended : ends_line s.tag ≡ true → text_of just [] ≡ text_after defaults (before ++ s ∷ [])
  ended ends = after_is [] (line_push ∙ ap (λ b. cond b [] (cond (is_character s.tag) (line_after before ++ s ∷ []) (line_after before))) ends)

  goes_on : ends_line s.tag ≡ false → (b : Bool) → is_character s.tag ≡ b → line_after (before ++ s ∷ []) ≡ cond b (line_after before ++ s ∷ []) (line_after before)
  goes_on ends b is = line_push ∙ ap (λ e. cond e [] (cond (is_character s.tag) (line_after before ++ s ∷ []) (line_after before))) ends ∙ ap (λ c. cond c (line_after before ++ s ∷ []) (line_after before)) is

  pub shown : ends_line s.tag ≡ false → is_character s.tag ≡ true → with_character (text_of just (line_after before)) (is_letter s.tag) s.at ≡ text_after defaults (before ++ s ∷ [])
  shown ends is = added just (line_after before) s ∙ after_is (line_after before ++ s ∷ []) (goes_on ends true is)

  pub other : ends_line s.tag ≡ false → is_character s.tag ≡ false → text_of just (line_after before) ≡ text_after defaults (before ++ s ∷ [])
  other ends is = after_is (line_after before) (goes_on ends false is)

-- the lines that items end, with one more
pub ended_more : (defaults : Defaults) (said : List Said) (i : ℕ) (d : Said) → i < length said → let next = get_or said i d in
    ended_texts defaults (take (i + 1) said) ≡ cond (ends_line next.tag) (ended_texts defaults (take i said) ++ text_after defaults (take i said) ∷ []) (ended_texts defaults (take i said))
ended_more defaults said i d below =
    let next = get_or said i d in
    let before = take i said in
    ap (ended_texts defaults) (take_more said i d below) ∙ some_after_push (λ before (s : Said). cond (ends_line s.tag) (Some (text_after defaults before)) None) before next
    ∙ of (ended_texts defaults before) (text_after defaults before) (ends_line next.tag)
  where
    of : (old : List LineText) (here : LineText) (is : Bool) → old ++ cons_option (cond is (Some here) None) [] ≡ cond is (old ++ here ∷ []) old
    of old here true = refl
    of old here false = append-nil old

-- what is found of lines, with one more line
pub places_more : (f : LineText → Option ℕ) (lines : List LineText) (i : ℕ) (d : LineText) → i < length lines → filter_map f (take (i + 1) lines) ≡ filter_map f (take i lines) ++ cons_option (f (get_or lines i d)) []
places_more f lines i d below = ap (filter_map f) (take_more lines i d below) ∙ filter_map-append f (take i lines) (get_or lines i d ∷ [])
