-- Lines, the parts between their blanks, and their words.
use Rattle.std.proofs.Common.{◌≡◌, ℕ, suc, ◌+◌, ◌-◌, ◌<◌, ◌≤◌, Bool, true, false, List, [], ◌∷◌, length, take, drop, get_or, map, Option, None, Some, refl, sym, ap, ◌∙◌, arith, inl, inr}
use Rattle.std.specs.Prelude.{cond, nat_lt, not, ◌==◌, option_map}
use Rattle.std.specs.Borrow.{Bor}
use Rattle.std.specs.List.{filter, find, position, position_or_len, prefix_len, slice_split, onto_first}
use Rattle.std.proofs.lemmas.Bool.{cases_Bool, ltb-true, ltb-false}
use Rattle.std.proofs.lemmas.List.Splits.{slice_split_first}
use Rattle.std.proofs.lemmas.List.{drop-map, length-map, take-map}
use Rattle.std.proofs.lemmas.Option.{cond_some}
use Rattle.font_bdf.specs.Lines.{after, before, begins, is_blank, words}
use Rattle.font_bdf.specs.Parts.{blocks_of, parts_of, texts, words_of}

-- a list in which nothing passes is one part
pub whole_part : {X : Type 0} (p : X → Bool) (xs : List X) → length xs ≤ position_or_len p xs → slice_split p xs ≡ xs ∷ []
whole_part p [] h = refl
whole_part p (x ∷ xs) h =
    elim (cases_Bool (p x)) [
      | inl is ↦ absurd (let e = rw is at h in omega (arith, e))
      | inr differs ↦
          let e = rw differs at h in
          let rest : length xs ≤ position_or_len p xs = omega (arith, e) in
          rw (differs, whole_part p xs rest) refl
    ]

-- a choice of something or nothing
chosen_none : {X : Type 0} (b : Bool) (x : X) → (let o : Option X = cond b (Some x) None in o) ≡ None → b ≡ false
chosen_none true x h = cc
chosen_none false x h = refl

pub none_passes : {X : Type 0} (p : X → Bool) (xs : List X) → position p xs ≡ None → slice_split p xs ≡ xs ∷ []
none_passes p xs is =
    whole_part p xs (ltb-false (position_or_len p xs) (length xs) (chosen_none (nat_lt (position_or_len p xs) (length xs)) (position_or_len p xs) is))

pub one_passes : {X : Type 0} (p : X → Bool) (xs : List X) (d : X) (at : ℕ) → position p xs ≡ Some at → slice_split p xs ≡ take at xs ∷ slice_split p (drop (at + 1) xs)
one_passes p xs d at is =
    let found = cond_some (nat_lt (position_or_len p xs) (length xs)) (position_or_len p xs) at is in
    slice_split_first p xs d (ltb-true (position_or_len p xs) (length xs) found.0) ∙ ap (λ (n : ℕ). take n xs ∷ slice_split p (drop (n + 1) xs)) found.1

pub parted_some : (text : List ℕ) (at : ℕ) → position is_blank text ≡ Some at → slice_split is_blank text ≡ take at text ∷ slice_split is_blank (drop (at + 1) text)
parted_some text at is = one_passes is_blank text 0 at is

pub parted_none : (text : List ℕ) → position is_blank text ≡ None → slice_split is_blank text ≡ text ∷ []
parted_none text is = none_passes is_blank text is

pub prefix_len_texts : (p : List ℕ → Bool) (lines : List (Bor (List ℕ))) → prefix_len p (texts lines) ≡ prefix_len (λ line. p line.now) lines
prefix_len_texts p [] = refl
prefix_len_texts p (line ∷ lines) = ap (λ n. cond (p line.now) (1 + n) 0) (prefix_len_texts p lines)

-- the first line with a word
pub position_texts : (word : List ℕ) (lines : List (Bor (List ℕ))) → position (begins word) (texts lines) ≡ position (λ line. begins word line.now) lines
position_texts word lines =
    let first : ℕ = position_or_len (λ (line : Bor (List ℕ)). begins word line.now) lines in
    ap (λ (n : ℕ). let o : Option ℕ = cond (nat_lt n (length (texts lines))) (Some n) None in o) (prefix_len_texts (λ line. not (begins word line)) lines)
    ∙ ap (λ (n : ℕ). let o : Option ℕ = cond (nat_lt first n) (Some first) None in o) (length-map {A = Bor (List ℕ)} {B = List ℕ} lines (λ line. line.now))

-- what is left of a line, after a part
abbrev pub IsParted : List ℕ → List ℕ → Option (List ℕ) → Type 0
IsParted text part after = slice_split is_blank text ≡ part ∷ parts_of after

words_left : (after : Option (List ℕ)) → filter (λ word. not (length word == 0)) (parts_of after) ≡ words_of after
unfolding words
words_left None = refl
words_left (Some text) = refl

-- an empty part is no word
pub empty_part : (text part : List ℕ) (after : Option (List ℕ)) → IsParted text part after → (length part == 0) ≡ true → words text ≡ words_of after
unfolding words
empty_part text part after is empty = ap (filter (λ word. not (length word == 0))) is ∙ rw empty (words_left after)

-- any other part is one
pub word_part : (text part : List ℕ) (after : Option (List ℕ)) → IsParted text part after → (length part == 0) ≡ false → words text ≡ part ∷ words_of after
unfolding words
word_part text part after is some = ap (filter (λ word. not (length word == 0))) is ∙ rw some (ap (λ (ws : List (List ℕ)). part ∷ ws) (words_left after))

-- the word at a place, among those that are left
abbrev pub word_left : Option (List ℕ) → ℕ → List ℕ
word_left rest place = get_or (words_of rest) place []

pub word_after_empty : (text part : List ℕ) (after : Option (List ℕ)) (place : ℕ) (word : List ℕ) → IsParted text part after → (length part == 0) ≡ true → word_left (Some text) place ≡ word → word_left after place ≡ word
word_after_empty text part after place word is empty before = ap (λ (ws : List (List ℕ)). get_or ws place []) (sym (empty_part text part after is empty)) ∙ before

pub word_here : (text part : List ℕ) (after : Option (List ℕ)) (place : ℕ) (word : List ℕ) → IsParted text part after → (length part == 0) ≡ false → place ≡ 0 → word_left (Some text) place ≡ word → part ≡ word
word_here text part after place word is some here before =
    ap (λ (k : ℕ). get_or (part ∷ words_of after) k []) (sym here) ∙ ap (λ (ws : List (List ℕ)). get_or ws place []) (sym (word_part text part after is some)) ∙ before

place_below : (place : ℕ) → (place ≡ 0 → ⊥) → place ≡ suc (place - 1)
place_below place apart = omega arith

pub word_behind : (text part : List ℕ) (after : Option (List ℕ)) (place : ℕ) (word : List ℕ) → IsParted text part after → (length part == 0) ≡ false → (place ≡ 0 → ⊥) → word_left (Some text) place ≡ word → word_left after (place - 1) ≡ word
word_behind text part after place word is some apart before =
    ap (λ (k : ℕ). get_or (part ∷ words_of after) k []) (sym (place_below place apart)) ∙ ap (λ (ws : List (List ℕ)). get_or ws place []) (sym (word_part text part after is some)) ∙ before

-- the line that is found
abbrev first_place : (List ℕ → Bool) → List (Bor (List ℕ)) → ℕ
first_place p lines = position_or_len p (texts lines)

one_more : (n : ℕ) → 1 + n ≡ suc n
one_more n = omega arith

found_at : (p : List ℕ → Bool) (lines : List (Bor (List ℕ))) (line : Bor (List ℕ)) → first_place p lines < length (texts lines) → find p (texts lines) ≡ Some (get_or lines (first_place p lines) line).now
found_at p [] line there = absurd (omega (arith, there))
found_at p (l ∷ ls) line there =
    elim (cases_Bool (p l.now)) [
      | inl is ↦ rw is refl
      | inr differs ↦
          let e = rw differs at there in
          let rest : first_place p ls < length (texts ls) = omega (arith, e) in
          let next : (get_or ls (first_place p ls) line) ≡ get_or (l ∷ ls) (1 + first_place p ls) line = ap (λ (k : ℕ). get_or (l ∷ ls) k line) (sym (one_more (first_place p ls))) in
          rw differs (found_at p ls line rest ∙ ap (λ (b : Bor (List ℕ)). let o : Option (List ℕ) = Some b.now in o) next)
    ]

found_nowhere : (p : List ℕ → Bool) (lines : List (Bor (List ℕ))) → length (texts lines) ≤ first_place p lines → find p (texts lines) ≡ None
found_nowhere p [] there = refl
found_nowhere p (l ∷ ls) there =
    elim (cases_Bool (p l.now)) [
      | inl is ↦ absurd (let e = rw is at there in omega (arith, e))
      | inr differs ↦
          let e = rw differs at there in
          let rest : length (texts ls) ≤ first_place p ls = omega (arith, e) in
          rw differs (found_nowhere p ls rest)
    ]

pub found_some : (word : List ℕ) (lines : List (Bor (List ℕ))) (line : Bor (List ℕ)) (place : ℕ) → position (begins word) (texts lines) ≡ Some place → find (begins word) (texts lines) ≡ Some (get_or lines place line).now
found_some word lines line place is =
    let first : ℕ = first_place (begins word) lines in
    let found = cond_some (nat_lt first (length (texts lines))) first place is in
    found_at (begins word) lines line (ltb-true first (length (texts lines)) found.0) ∙ ap (λ (k : ℕ). let o : Option (List ℕ) = Some (get_or lines k line).now in o) found.1

pub found_none : (word : List ℕ) (lines : List (Bor (List ℕ))) → position (begins word) (texts lines) ≡ None → find (begins word) (texts lines) ≡ None
found_none word lines is =
    let first : ℕ = first_place (begins word) lines in
    found_nowhere (begins word) lines (ltb-false first (length (texts lines)) (chosen_none (nat_lt first (length (texts lines))) first is))

-- lines before a place, and after it
pub before_at : (word : List ℕ) (lines : List (Bor (List ℕ))) (place : ℕ) → Some place ≡ position (begins word) (texts lines) → Some (texts (take place lines)) ≡ before word (texts lines)
unfolding before
before_at word lines place is =
    ap (λ (ls : List (List ℕ)). let o : Option (List (List ℕ)) = Some ls in o) (sym (take-map (λ (line : Bor (List ℕ)). line.now) place lines))
    ∙ ap (λ (o : Option ℕ). option_map (λ at. take at (texts lines)) o) is

pub after_at : (word : List ℕ) (lines : List (Bor (List ℕ))) (place : ℕ) → Some place ≡ position (begins word) (texts lines) → Some (texts (drop (place + 1) lines)) ≡ after word (texts lines)
unfolding after
after_at word lines place is =
    ap (λ (ls : List (List ℕ)). let o : Option (List (List ℕ)) = Some ls in o) (sym (drop-map (λ (line : Bor (List ℕ)). line.now) (place + 1) lines))
    ∙ ap (λ (o : Option ℕ). option_map (λ at. drop (at + 1) (texts lines)) o) is

-- parts of lines, wherever they stand in memory
abbrev Lines : Type 0
Lines = List (Bor (List ℕ))

onto_texts : (line : Bor (List ℕ)) (parts : List Lines) → map texts (onto_first line parts) ≡ onto_first line.now (map texts parts)
onto_texts line [] = refl
onto_texts line (part ∷ parts) = refl

map_now : (found : List (Bor Lines)) → blocks_of found ≡ map texts (map (λ part. part.now) found)
map_now [] = refl
map_now (part ∷ parts) = ap (λ (ps : List (List (List ℕ))). texts part.now ∷ ps) (map_now parts)

split_texts : (p : List ℕ → Bool) (lines : Lines) → map texts (slice_split (λ line. p line.now) lines) ≡ slice_split p (texts lines)
split_texts p [] = refl
split_texts p (line ∷ lines) =
    elim (cases_Bool (p line.now)) [
      | inl is ↦ rw is (ap (λ (parts : List (List (List ℕ))). [] ∷ parts) (split_texts p lines))
      | inr differs ↦ rw differs (onto_texts line (slice_split (λ (l : Bor (List ℕ)). p l.now) lines) ∙ ap (onto_first line.now) (split_texts p lines))
    ]

pub parts_texts : (word : List ℕ) (lines : Lines) (found : List (Bor Lines)) → map (λ part. part.now) found ≡ slice_split (λ line. begins word line.now) lines → blocks_of found ≡ slice_split (begins word) (texts lines)
parts_texts word lines found is = map_now found ∙ ap (map texts) is ∙ split_texts (begins word) lines
