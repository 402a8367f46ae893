-- What is written as fields is read.
use Rattle.std.proofs.Common.{◌≡◌, ℕ, true, List, [], ◌∷◌, ◌++◌, Option, Some, inl, inr, refl, ap, ◌∙◌, arith}
use Rattle.std.specs.Prelude.{◌==◌, not}
use Rattle.std.specs.Str.Parse.{AllDigits}
use Rattle.std.proofs.lemmas.Bool.{and_from}
use Rattle.hex.specs.Hex.{decode_pairs}
use Rattle.message_store.specs.declared.message.MsgRef.{MsgRef}
use Rattle.sign_script.specs.Fields.{last_message, last_number, last_octets, message_octets, message_value, next_field, next_message, next_number, octets_of, text_of}
use Rattle.sign_script.specs.Spelling.{AreFields, Field, Hex, Name, Number, Octets, Text, of_message}
use Rattle.sign_script.proofs.NumberLemmas.{number_read}
use Rattle.sign_script.proofs.PartsLemmas.{fields_tail, has_no_space, one_field, parted_word, tail, tail_none, tail_some}

digits_plain : (ds : List ℕ) → AllDigits 10 ds → has_no_space ds ≡ true
digits_plain [] h = refl
digits_plain (c ∷ cs) h =
    let differs : not (c == 32) ≡ true = grind (arith, h.0) in
    and_from (not (c == 32)) (has_no_space cs) differs (digits_plain cs h.1)

-- a field that is read up to a space, and what is left after it
field_read : (w : List ℕ) (fields : List Field) (rest : Option (List ℕ)) (others : List ℕ) → has_no_space w ≡ true → tail rest ≡ (32 ∷ w) ++ others → AreFields fields others
    → (left : Option (List ℕ)) × (next_field rest ≡ Some (w, left)) × AreFields fields (tail left)
field_read w fields rest others plain is h =
    let left = fields_tail fields others h in
    let same = tail_some rest (w ++ tail left.0) (is ∙ ap (λ (o : List ℕ). (32 ∷ w) ++ o) left.1) in
    (left.0, rw (same, parted_word w left.0 plain) refl, rw (← left.1) h)

pub name_read : (w : List ℕ) (fields : List Field) (rest : Option (List ℕ)) → has_no_space w ≡ true → AreFields (Name w ∷ fields) (tail rest)
    → (left : Option (List ℕ)) × (next_field rest ≡ Some (w, left)) × AreFields fields (tail left)
name_read w fields rest plain h = field_read w fields rest h.1 plain (h.2 ∙ ap (λ (part : List ℕ). part ++ h.1) h.3) h.4

pub next_number_read : (most n : ℕ) (fields : List Field) (rest : Option (List ℕ)) → AreFields (Number most n ∷ fields) (tail rest)
    → (left : Option (List ℕ)) × (next_number most rest ≡ Some (n, left)) × AreFields fields (tail left)
next_number_read most n fields rest h =
    let digits = h.3.0 in
    let number = h.3.1 in
    let next = field_read digits fields rest h.1 (digits_plain digits number.numeral.1) (h.2 ∙ ap (λ (part : List ℕ). part ++ h.1) h.3.2) h.4 in
    (next.0, rw (next.1, number_read most n digits number) refl, next.2)

pub last_number_read : (most n : ℕ) (rest : Option (List ℕ)) → AreFields (Number most n ∷ []) (tail rest) → last_number most rest ≡ Some n
last_number_read most n rest h =
    let next = next_number_read most n [] rest h in
    rw (next.1, tail_none next.0 next.2) refl

pub next_message_read : (message : MsgRef) (fields : List Field) (rest : Option (List ℕ)) → AreFields (of_message message fields) (tail rest)
    → (left : Option (List ℕ)) × (next_message rest ≡ Some (message, left)) × AreFields fields (tail left)
next_message_read message fields rest h =
    let memory = next_number_read 255 message.memory (Number 65535 message.number ∷ fields) rest h in
    let number = next_number_read 65535 message.number fields memory.0 memory.2 in
    (number.0, rw (memory.1, number.1) refl, number.2)

pub last_message_read : (message : MsgRef) (rest : Option (List ℕ)) → AreFields (of_message message []) (tail rest) → last_message rest ≡ Some message
last_message_read message rest h =
    let next = next_message_read message [] rest h in
    rw (next.1, tail_none next.0 next.2) refl

pub value_read : (message : MsgRef) (value : ℕ) (rest : Option (List ℕ)) → AreFields (of_message message (Number 255 value ∷ [])) (tail rest) → message_value rest ≡ Some (message, value)
value_read message value rest h =
    let next = next_message_read message (Number 255 value ∷ []) rest h in
    rw (next.1, last_number_read 255 value next.0 next.2) refl

pub text_read : (octets : List ℕ) (rest : Option (List ℕ)) → AreFields (Text octets ∷ []) (tail rest) → text_of rest ≡ octets
text_read octets rest h =
    elim (one_field (Text octets) (tail rest) h) [
      | inl is ↦ rw (tail_some rest octets is) refl
      | inr none ↦ rw (tail_none rest none.0, none.1) refl
    ]

pub hex_read : (octets : List ℕ) (rest : Option (List ℕ)) → AreFields (Hex octets ∷ []) (tail rest) → octets_of (text_of rest) ≡ Some octets
unfolding decode_pairs
hex_read octets rest h =
    elim (one_field (Hex octets) (tail rest) h) [
      | inl is ↦ rw (tail_some rest is.0 is.2, is.1) refl
      | inr none ↦ rw (tail_none rest none.0, none.1) refl
    ]

pub message_octets_read : (message : MsgRef) (octets : List ℕ) (rest : Option (List ℕ)) → AreFields (of_message message (Hex octets ∷ [])) (tail rest) → message_octets rest ≡ Some (message, octets)
message_octets_read message octets rest h =
    let next = next_message_read message (Hex octets ∷ []) rest h in
    rw (next.1, hex_read octets next.0 next.2) refl

pub octets_read : (count : ℕ) (octets : List ℕ) (rest : Option (List ℕ)) → AreFields (Octets count octets ∷ []) (tail rest) → last_octets count rest ≡ Some octets
octets_read count octets rest h =
    let is = one_field (Octets count octets) (tail rest) h in
    rw (tail_some rest is.0 is.2, is.1) refl
