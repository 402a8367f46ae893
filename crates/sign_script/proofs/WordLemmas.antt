-- The words of verbs and the names of defaults.
use Rattle.std.proofs.Common.{◌≡◌, ℕ, true, false, List, ◌++◌, Option, None, Some, inl, inr, refl, sym, ap, ◌∙◌}
use Rattle.std.specs.Prelude.{cond}
use Rattle.std.specs.Str.{bytes_eq}
use Rattle.std.proofs.lemmas.Bool.{cases_Bool}
use Rattle.std.proofs.lemmas.List.{append_cancel_left}
use Rattle.std.proofs.lemmas.Option.{none-some, same_Some}
use Rattle.std.proofs.lemmas.Slice.Eq.{bytes_eq-Decides}
use Rattle.sign_control.specs.declared.command.DefaultField.{DefaultField}
use Rattle.sign_control.specs.declared.command.DefaultField.TheVariants as default
use Rattle.sign_script.specs.declared.verb.Verb.{Verb}
use Rattle.sign_script.specs.declared.verb.Verb.TheVariants as verb
use Rattle.sign_script.specs.Asks.{ask_of, ask_of_line}
use Rattle.sign_script.specs.Fields.{Parted, is_ended, left, parted}
use Rattle.sign_script.specs.Verbs.{field_of, name, verb_of, word}
use Rattle.sign_script.specs.internal.Likely.{likely}
use Rattle.sign_script.proofs.PartsLemmas.{has_no_space, parted_parts, parted_word, tail, tail_left}

-- a test for one word in a chain of tests
pub tested : {V : Type 0} (written : V → List ℕ) (w : List ℕ) (u v : V) (others : Option V) → (others ≡ Some u → w ≡ written u) → cond (bytes_eq w (written v)) (Some v) others ≡ Some u → w ≡ written u
tested written w u v others rest h =
    elim (cases_Bool (bytes_eq w (written v))) [
      | inl is ↦
          let found = rw is at h in
          let same : v ≡ u = cc in
          (bytes_eq-Decides w (written v)).0 is ∙ ap written same
      | inr differs ↦ rest (rw differs at h)
    ]

pub verb_word : (w : List ℕ) (u : Verb) → verb_of w ≡ Some u → w ≡ word u
unfolding verb_of
verb_word w u h =
    let next = tested word w u in
    next verb.Request _ (next verb.Multi _ (next verb.MultiHex _ (next verb.Owner _ (next verb.Priority _ (next verb.Beacon _ (next verb.Pixel _ (next verb.Clear _ (next verb.Work _
    (next verb.Activate _ (next verb.End _ (next verb.Tick _ (next verb.Frame _ (next verb.Row _ (next verb.Report _ (next verb.Default _ (next verb.Defaults None (λ none. cc))))))))))))))))) h

pub verb_of-word : (v : Verb) → verb_of (word v) ≡ Some v
unfolding verb_of
verb_of-word verb.Request = refl
verb_of-word verb.Multi = refl
verb_of-word verb.MultiHex = refl
verb_of-word verb.Owner = refl
verb_of-word verb.Priority = refl
verb_of-word verb.Beacon = refl
verb_of-word verb.Pixel = refl
verb_of-word verb.Clear = refl
verb_of-word verb.Work = refl
verb_of-word verb.Activate = refl
verb_of-word verb.End = refl
verb_of-word verb.Tick = refl
verb_of-word verb.Frame = refl
verb_of-word verb.Row = refl
verb_of-word verb.Report = refl
verb_of-word verb.Default = refl
verb_of-word verb.Defaults = refl

-- a line that begins with the word of a verb is likely of this verb
likely-word : (v : Verb) (rest : Option (List ℕ)) → likely (word v ++ tail rest) ≡ Some v
likely-word verb.Request rest = refl
likely-word verb.Multi None = refl
likely-word verb.Multi (Some text) = refl
likely-word verb.MultiHex rest = refl
likely-word verb.Owner rest = refl
likely-word verb.Priority rest = refl
likely-word verb.Beacon rest = refl
likely-word verb.Pixel rest = refl
likely-word verb.Clear rest = refl
likely-word verb.Work rest = refl
likely-word verb.Activate rest = refl
likely-word verb.End rest = refl
likely-word verb.Tick rest = refl
likely-word verb.Frame rest = refl
likely-word verb.Row rest = refl
likely-word verb.Report rest = refl
likely-word verb.Default None = refl
likely-word verb.Default (Some text) = refl
likely-word verb.Defaults rest = refl

unspelled : (line : List ℕ) (found : Option Verb) → verb_of (parted line).field ≡ found
    → ((v : Verb) (rest : Option (List ℕ)) → likely line ≡ Some v → line ≡ word v ++ tail rest → ⊥) → None ≡ found
unspelled line None is none = refl
unspelled line (Some u) is none =
    let left = (parted line).rest in
    let begins : line ≡ word u ++ tail left = parted_parts line ∙ ap (λ (w : List ℕ). w ++ tail left) (verb_word (parted line).field u is) in
    absurd (none u left (ap likely begins ∙ likely-word u left) begins)

-- a line that likely begins with no verb has none
pub no_verb : (line : List ℕ) → likely line ≡ None → None ≡ verb_of (parted line).field
no_verb line none = unspelled line (verb_of (parted line).field) refl (λ v rest is begins. none-some v (sym none ∙ is))

-- a line that doesn't begin with the word of its likely verb has none
pub other_verb : (line : List ℕ) (v : Verb) → likely line ≡ Some v → ((rest : Option (List ℕ)) → line ≡ word v ++ tail rest → ⊥) → None ≡ verb_of (parted line).field
other_verb line v only differs =
    unspelled line (verb_of (parted line).field) refl (λ u rest is begins.
    differs rest (begins ∙ ap (λ (w : Verb). word w ++ tail rest) (same_Some u v (sym is ∙ only))))

-- a line that begins with a word isn't passed over, and its word has no space
pub record BeginsLine (w : List ℕ) : Type 0 where
  pub plain : has_no_space w ≡ true
  pub asks : (parts : List ℕ) → ask_of (w ++ parts) ≡ ask_of_line (w ++ parts)

pub word_begins : (v : Verb) → BeginsLine (word v)
word_begins verb.Request = record { plain = refl; asks = λ parts. refl }
word_begins verb.Multi = record { plain = refl; asks = λ parts. refl }
word_begins verb.MultiHex = record { plain = refl; asks = λ parts. refl }
word_begins verb.Owner = record { plain = refl; asks = λ parts. refl }
word_begins verb.Priority = record { plain = refl; asks = λ parts. refl }
word_begins verb.Beacon = record { plain = refl; asks = λ parts. refl }
word_begins verb.Pixel = record { plain = refl; asks = λ parts. refl }
word_begins verb.Clear = record { plain = refl; asks = λ parts. refl }
word_begins verb.Work = record { plain = refl; asks = λ parts. refl }
word_begins verb.Activate = record { plain = refl; asks = λ parts. refl }
word_begins verb.End = record { plain = refl; asks = λ parts. refl }
word_begins verb.Tick = record { plain = refl; asks = λ parts. refl }
word_begins verb.Frame = record { plain = refl; asks = λ parts. refl }
word_begins verb.Row = record { plain = refl; asks = λ parts. refl }
word_begins verb.Report = record { plain = refl; asks = λ parts. refl }
word_begins verb.Default = record { plain = refl; asks = λ parts. refl }
word_begins verb.Defaults = record { plain = refl; asks = λ parts. refl }

-- a line that begins with a word and what is left after it
module _ (line rest : List ℕ) (v : Verb) (is : line ≡ word v ++ rest) where
  begun : is_ended rest ≡ true → parted line ≡ record { field = word v; rest = left rest }
  begun ended = ap parted (is ∙ ap (λ (r : List ℕ). word v ++ r) (tail_left rest ended)) ∙ parted_word (word v) (left rest) (word_begins v).plain

  pub begun_verb : is_ended rest ≡ true → Some v ≡ verb_of (parted line).field
  begun_verb ended = sym (ap (λ (p : Parted). verb_of p.field) (begun ended) ∙ verb_of-word v)

  pub begun_rest : is_ended rest ≡ true → left rest ≡ (parted line).rest
  begun_rest ended = sym (ap (λ (p : Parted). p.rest) (begun ended))

-- where more follows a word, the line has no other end of this word
pub longer_word : (line word rest after : List ℕ) → line ≡ word ++ rest → is_ended rest ≡ false → is_ended after ≡ true → line ≡ word ++ after → ⊥
longer_word line word rest after is more ended begins =
    let same = append_cancel_left word rest after (sym is ∙ begins) in
    let both = ap is_ended same in
    cc

pub field_name : (w : List ℕ) (u : DefaultField) → field_of w ≡ Some u → w ≡ name u
unfolding field_of
field_name w u h =
    let next = tested name w u in
    next default.Font _ (next default.Line _ (next default.Page _ (next default.PageOn _ (next default.PageOff _ (next default.FlashOn _ (next default.FlashOff _
    (next default.Fore _ (next default.Back None (λ none. cc))))))))) h

-- a name is that of its default, and has no space
pub record IsNameOf (field : DefaultField) : Type 0 where
  pub plain : has_no_space (name field) ≡ true
  pub named : field_of (name field) ≡ Some field

pub is_name : (field : DefaultField) → IsNameOf field
unfolding field_of
is_name default.Font = record { plain = refl; named = refl }
is_name default.Line = record { plain = refl; named = refl }
is_name default.Page = record { plain = refl; named = refl }
is_name default.PageOn = record { plain = refl; named = refl }
is_name default.PageOff = record { plain = refl; named = refl }
is_name default.FlashOn = record { plain = refl; named = refl }
is_name default.FlashOff = record { plain = refl; named = refl }
is_name default.Fore = record { plain = refl; named = refl }
is_name default.Back = record { plain = refl; named = refl }
