-- What a line asks for, and the lines by which it is asked for.
use Rattle.std.proofs.Common.{◌≡◌, ℕ, List, [], ◌∷◌, ◌++◌, Option, None, Some, Result, Ok, Err, inl, inr, refl, sym, ap, ◌∙◌, subst}
use Rattle.std.specs.Prelude.{◌==◌, IfOk}
use Rattle.std.specs.Option.{option_map}
use Rattle.std.proofs.lemmas.Bool.{cases_Bool, eqb-true}
use Rattle.std.proofs.lemmas.Option.{none-some, same_Some}
use Rattle.sign_control.specs.declared.command.Command.TheVariants as command
use Rattle.sign_script.specs.declared.ask.Ask.{Ask}
use Rattle.sign_script.specs.declared.ask.Ask.TheVariants as ask
use Rattle.sign_script.specs.declared.ask.LineFault.{LineFault}
use Rattle.sign_script.specs.declared.ask.LineFault.TheVariants as fault
use Rattle.sign_script.specs.declared.verb.Verb.{Verb}
use Rattle.sign_script.specs.declared.verb.Verb.TheVariants as verb
use Rattle.sign_script.specs.Asks.{ask_of, ask_of_line, ask_with, bare}
use Rattle.sign_script.specs.Fields.{Gives, last_message, last_number, last_octets, message_octets, message_value, next_field, next_message, parted, text_of}
use Rattle.sign_script.specs.Spelling.{AreFields, Field, Hex, IsLine, IsSpelled, Name, Number, Octets, Text, of_message}
use Rattle.sign_script.specs.Verbs.{field_of, name, verb_of, word}
use Rattle.sign_script.proofs.FieldsFound.{at_end_found, field_found, last_message_found, last_number_found, message_octets_found, next_message_found, octets_found, text_found, value_found}
use Rattle.sign_script.proofs.FieldsRead.{last_message_read, last_number_read, message_octets_read, name_read, next_message_read, octets_read, text_read, value_read}
use Rattle.sign_script.proofs.PartsLemmas.{bind_some, fields_tail, parted_parts, parted_word, tail, tail_none}
use Rattle.sign_script.proofs.WordLemmas.{field_name, is_name, verb_of-word, verb_word, word_begins}

-- what was made of what was read
mapped : {A B : Type 0} (f : A → B) (o : Option A) (y : B) → option_map f o ≡ Some y → (x : A) × (o ≡ Some x) × (f x ≡ y)
mapped f (Some x) y h = (x, refl, same_Some (f x) y h)
mapped f None y h = cc h

module _ (line : List ℕ) where
  abbrev left : Option (List ℕ)
  left = (parted line).rest

  -- a line is its word and what is left after it
  line_is : (v : Verb) → verb_of (parted line).field ≡ Some v → line ≡ word v ++ tail left
  line_is v is = parted_parts line ∙ ap (λ (w : List ℕ). w ++ tail left) (verb_word (parted line).field v is)

  abbrev spells : Ask → Type 0
  spells a = IsSpelled a line

  default_found : (a : Ask) → verb_of (parted line).field ≡ Some verb.Default → ask_with verb.Default left ≡ Some a → spells a
  default_found a is h =
      let named = bind_some (next_field left) _ a h in
      let field = bind_some (field_of named.0.0) _ a named.2 in
      let value = bind_some (last_number 255 named.0.1) _ a field.2 in
      let are = last_number_found 255 value.0 named.0.1 value.1 in
      let parts = field_found (Number 255 value.0 ∷ []) named.0.0 named.0.1 left named.1 are in
      let fields : AreFields (Name named.0.0 ∷ Number 255 value.0 ∷ []) (tail left) = (32 ∷ named.0.0, tail named.0.1, parts, refl, are) in
      let named_fields = subst (λ (w : List ℕ). AreFields (Name w ∷ Number 255 value.0 ∷ []) (tail left)) (field_name named.0.0 field.0 field.1) fields in
      subst spells (same_Some _ a value.2) (tail left, line_is verb.Default is, named_fields)

  verb_found : (v : Verb) (a : Ask) → verb_of (parted line).field ≡ Some v → ask_with v left ≡ Some a → spells a
  verb_found verb.Request a is h =
      let m = mapped _ (message_value left) a h in
      subst spells m.2 (tail left, line_is verb.Request is, value_found m.0 left m.1)
  verb_found verb.Multi a is h =
      let m = mapped _ (next_message left) a h in
      subst spells m.2 (inl (tail left, line_is verb.Multi is, next_message_found (Text (text_of m.0.1) ∷ []) m.0 left m.1 (text_found m.0.1)))
  verb_found verb.MultiHex a is h =
      let m = mapped _ (message_octets left) a h in
      subst spells m.2 (inr (tail left, line_is verb.MultiHex is, message_octets_found m.0 left m.1))
  verb_found verb.Owner a is h =
      let m = mapped _ (message_octets left) a h in
      subst spells m.2 (tail left, line_is verb.Owner is, message_octets_found m.0 left m.1)
  verb_found verb.Priority a is h =
      let m = mapped _ (message_value left) a h in
      subst spells m.2 (tail left, line_is verb.Priority is, value_found m.0 left m.1)
  verb_found verb.Beacon a is h =
      let m = mapped _ (message_value left) a h in
      subst spells m.2 (tail left, line_is verb.Beacon is, value_found m.0 left m.1)
  verb_found verb.Pixel a is h =
      let m = mapped _ (message_value left) a h in
      subst spells m.2 (tail left, line_is verb.Pixel is, value_found m.0 left m.1)
  verb_found verb.Clear a is h =
      let e = at_end_found (ask.Command command.Clear) a left h in
      subst spells e.0 (tail left, line_is verb.Clear is, e.1)
  verb_found verb.Work a is h =
      let e = at_end_found (ask.Command command.Work) a left h in
      subst spells e.0 (tail left, line_is verb.Work is, e.1)
  verb_found verb.Activate a is h =
      let m = mapped _ (last_octets 12 left) a h in
      subst spells m.2 (tail left, line_is verb.Activate is, octets_found 12 m.0 left m.1)
  verb_found verb.End a is h =
      let m = mapped _ (last_octets 5 left) a h in
      subst spells m.2 (tail left, line_is verb.End is, octets_found 5 m.0 left m.1)
  verb_found verb.Tick a is h =
      let m = mapped _ (last_number 4294967295 left) a h in
      subst spells m.2 (tail left, line_is verb.Tick is, last_number_found 4294967295 m.0 left m.1)
  verb_found verb.Frame a is h =
      let m = mapped _ (last_number 255 left) a h in
      subst spells m.2 (tail left, line_is verb.Frame is, last_number_found 255 m.0 left m.1)
  verb_found verb.Row a is h =
      let m = mapped _ (last_message left) a h in
      subst spells m.2 (tail left, line_is verb.Row is, last_message_found m.0 left m.1)
  verb_found verb.Report a is h =
      let e = at_end_found ask.Report a left h in
      subst spells e.0 (tail left, line_is verb.Report is, e.1)
  verb_found verb.Default a is h = default_found a is h
  verb_found verb.Defaults a is h =
      let e = at_end_found ask.Defaults a left h in
      subst spells e.0 (tail left, line_is verb.Defaults is, e.1)

-- what a line asks for is spelled so
pub found : (line : List ℕ) (a : Ask) → ask_of line ≡ Some a → IsSpelled a line
unfolding ask_of_line
found [] a h = subst (λ (x : Ask). IsSpelled x []) (same_Some ask.Nothing a h) (inl refl)
found (c ∷ cs) a h =
    elim (cases_Bool (c == 35)) [
      | inl is ↦
          let nothing = rw is at h in
          subst (λ (x : Ask). IsSpelled x (c ∷ cs)) (same_Some ask.Nothing a nothing) (inr (cs, ap (λ (n : ℕ). n ∷ cs) (eqb-true c 35 is)))
      | inr differs ↦
          let asked = rw differs at h in
          let v = bind_some (verb_of (parted (c ∷ cs)).field) _ a asked in
          verb_found (c ∷ cs) v.0 a v.1 v.2
    ]

-- a line is read by its word and what is left after it
line_read : (v : Verb) (fields : List Field) (line : List ℕ) (asked : Option Ask) → IsLine (word v) fields line
    → ((rest : Option (List ℕ)) → AreFields fields (tail rest) → ask_with v rest ≡ asked) → ask_of line ≡ asked
unfolding ask_of_line
line_read v fields line asked h reads =
    let rest = fields_tail fields h.0 h.2 in
    let begins = word_begins v in
    let is : line ≡ word v ++ tail rest.0 = h.1 ∙ ap (λ (parts : List ℕ). word v ++ parts) rest.1 in
    ap ask_of is ∙ begins.asks (tail rest.0) ∙ rw (parted_word (word v) rest.0 begins.plain, verb_of-word v) (reads rest.0 (rw (← rest.1) h.2))

-- what is spelled is asked for
pub only : (line : List ℕ) (a : Ask) → IsSpelled a line → ask_of line ≡ Some (bare a)
only line ask.Nothing (inl is) = rw is refl
only line ask.Nothing (inr is) = rw is.1 refl
only line (ask.Command (command.Request message code)) h = line_read verb.Request (of_message message (Number 255 code ∷ [])) line _ h (λ rest are. rw (value_read message code rest are) refl)
only line (ask.Command (command.SetMulti message text)) (inl h) = line_read verb.Multi (of_message message (Text text.now ∷ [])) line _ h (λ rest are.
    let next = next_message_read message (Text text.now ∷ []) rest are in
    rw (next.1, text_read text.now next.0 next.2) refl)
only line (ask.Command (command.SetMulti message text)) (inr h) = line_read verb.MultiHex (of_message message (Hex text.now ∷ [])) line _ h (λ rest are. rw (message_octets_read message text.now rest are) refl)
only line (ask.Command (command.SetOwner message owner)) h = line_read verb.Owner (of_message message (Hex owner.now ∷ [])) line _ h (λ rest are. rw (message_octets_read message owner.now rest are) refl)
only line (ask.Command (command.SetPriority message value)) h = line_read verb.Priority (of_message message (Number 255 value ∷ [])) line _ h (λ rest are. rw (value_read message value rest are) refl)
only line (ask.Command (command.SetBeacon message value)) h = line_read verb.Beacon (of_message message (Number 255 value ∷ [])) line _ h (λ rest are. rw (value_read message value rest are) refl)
only line (ask.Command (command.SetPixelService message value)) h = line_read verb.Pixel (of_message message (Number 255 value ∷ [])) line _ h (λ rest are. rw (value_read message value rest are) refl)
only line (ask.Command command.Clear) h = line_read verb.Clear [] line _ h (λ rest are. rw (tail_none rest are) refl)
only line (ask.Command command.Work) h = line_read verb.Work [] line _ h (λ rest are. rw (tail_none rest are) refl)
only line (ask.Command (command.Activate octets)) h = line_read verb.Activate (Octets 12 octets ∷ []) line _ h (λ rest are. rw (octets_read 12 octets rest are) refl)
only line (ask.Command (command.SetEnd octets)) h = line_read verb.End (Octets 5 octets ∷ []) line _ h (λ rest are. rw (octets_read 5 octets rest are) refl)
only line (ask.Command (command.Tick tenths)) h = line_read verb.Tick (Number 4294967295 tenths ∷ []) line _ h (λ rest are. rw (last_number_read 4294967295 tenths rest are) refl)
only line (ask.Command (command.SetDefault field value)) h = line_read verb.Default (Name (name field) ∷ Number 255 value ∷ []) line _ h (λ rest are.
    let next = name_read (name field) (Number 255 value ∷ []) rest (is_name field).plain are in
    rw (next.1, (is_name field).named, last_number_read 255 value next.0 next.2) refl)
only line (ask.Frame colour) h = line_read verb.Frame (Number 255 colour ∷ []) line _ h (λ rest are. rw (last_number_read 255 colour rest are) refl)
only line (ask.Row message) h = line_read verb.Row (of_message message []) line _ h (λ rest are. rw (last_message_read message rest are) refl)
only line ask.Report h = line_read verb.Report [] line _ h (λ rest are. rw (tail_none rest are) refl)
only line ask.Defaults h = line_read verb.Defaults [] line _ h (λ rest are. rw (tail_none rest are) refl)

-- where octets lie says nothing of how they are spelled
pub unbare : (line : List ℕ) (a : Ask) → IsSpelled (bare a) line → IsSpelled a line
unbare line ask.Nothing h = h
unbare line (ask.Command (command.SetMulti message text)) h = h
unbare line (ask.Command (command.SetOwner message owner)) h = h
unbare line (ask.Command c) h = h
unbare line (ask.Frame colour) h = h
unbare line (ask.Row message) h = h
unbare line ask.Report h = h
unbare line ask.Defaults h = h

-- what a line gives is spelled so
pub gives_spelled : (r : Result Ask LineFault) (line : List ℕ) → Gives bare r (ask_of line) → IfOk r (λ a. IsSpelled a line)
gives_spelled (Ok a) line h = unbare line a (found line (bare a) h)
gives_spelled (Err e) line h = tt

-- a bad line spells nothing
pub gives_bad : (r : Result Ask LineFault) (line : List ℕ) → Gives bare r (ask_of line) → r ≡ Err fault.Bad → (a : Ask) → IsSpelled a line → ⊥
gives_bad (Ok x) line h is a spelled = cc
gives_bad (Err fault.Bad) line h is a spelled = none-some (bare a) (sym h ∙ only line a spelled)
gives_bad (Err fault.Memory) line h is a spelled = cc
