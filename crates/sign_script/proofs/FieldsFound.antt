-- What is read is written as fields.
use Rattle.std.proofs.Common.{◌≡◌, ℕ, List, [], ◌∷◌, ◌++◌, Option, None, Some, Result, Ok, Err, inl, inr, refl, sym, ap, ◌∙◌, subst}
use Rattle.std.proofs.lemmas.Option.{same_Some, some_pair_parts}
use Rattle.hex.specs.Hex.{decode_of, decode_pairs, decode_sized}
use Rattle.hex.specs.declared.error.FromHexError.{FromHexError}
use Rattle.message_store.specs.declared.message.MsgRef.{MsgRef}
use Rattle.sign_script.specs.Fields.{at_end, if_decoded, last_message, last_number, last_octets, message_octets, message_value, next_field, next_message, next_number, number_of, octets_of, parted, text_of}
use Rattle.sign_script.specs.Spelling.{AreFields, Field, Hex, Number, Octets, Text, of_message}
use Rattle.sign_script.proofs.NumberLemmas.{number_found}
use Rattle.sign_script.proofs.PartsLemmas.{bind_some, only_field, parted_parts, tail}

pub at_end_found : {A : Type 0} (x y : A) (rest : Option (List ℕ)) → at_end x rest ≡ Some y → (x ≡ y) × (tail rest ≡ [])
at_end_found x y None h = (same_Some x y h, refl)
at_end_found x y (Some text) h = cc h

pub field_found : (fields : List Field) (w : List ℕ) (left rest : Option (List ℕ)) → next_field rest ≡ Some (w, left) → AreFields fields (tail left) → tail rest ≡ (32 ∷ w) ++ tail left
field_found fields w left None h are = cc h
field_found fields w left (Some text) h are =
    let same = some_pair_parts (parted text).field w (parted text).rest left h in
    ap (λ (l : List ℕ). 32 ∷ l) (parted_parts text ∙ ap (λ (f : List ℕ). f ++ tail (parted text).rest) same.0 ∙ ap (λ (r : Option (List ℕ)). w ++ tail r) same.1)

pub next_number_found : (most : ℕ) (fields : List Field) (x : ℕ × Option (List ℕ)) (rest : Option (List ℕ)) → next_number most rest ≡ Some x → AreFields fields (tail x.1)
    → AreFields (Number most x.0 ∷ fields) (tail rest)
next_number_found most fields x rest h are =
    let field = bind_some (next_field rest) _ x h in
    let number = bind_some (number_of most field.0.0) _ x field.2 in
    let same = some_pair_parts number.0 x.0 field.0.1 x.1 number.2 in
    let is = field_found fields field.0.0 x.1 rest (field.1 ∙ ap (λ (r : Option (List ℕ)). let o : Option (List ℕ × Option (List ℕ)) = Some (field.0.0, r) in o) same.1) are in
    let digits = number_found most x.0 field.0.0 (number.1 ∙ ap (λ (n : ℕ). let o : Option ℕ = Some n in o) same.0) in
    (32 ∷ field.0.0, tail x.1, is, (field.0.0, digits, refl), are)

pub last_number_found : (most n : ℕ) (rest : Option (List ℕ)) → last_number most rest ≡ Some n → AreFields (Number most n ∷ []) (tail rest)
last_number_found most n rest h =
    let number = bind_some (next_number most rest) _ n h in
    let last = at_end_found number.0.0 n number.0.1 number.2 in
    let are = next_number_found most [] number.0 rest number.1 last.1 in
    rw last.0 at are

pub next_message_found : (fields : List Field) (x : MsgRef × Option (List ℕ)) (rest : Option (List ℕ)) → next_message rest ≡ Some x → AreFields fields (tail x.1)
    → AreFields (of_message x.0 fields) (tail rest)
next_message_found fields x rest h are =
    let memory = bind_some (next_number 255 rest) _ x h in
    let number = bind_some (next_number 65535 memory.0.1) _ x memory.2 in
    let message : MsgRef = record { memory = memory.0.0; number = number.0.0 } in
    let same = some_pair_parts message x.0 number.0.1 x.1 number.2 in
    let others = next_number_found 65535 fields number.0 memory.0.1 number.1 (rw same.1 are) in
    let found : AreFields (of_message message fields) (tail rest) = next_number_found 255 (Number 65535 number.0.0 ∷ fields) memory.0 rest memory.1 others in
    rw (← same.0) found

pub last_message_found : (message : MsgRef) (rest : Option (List ℕ)) → last_message rest ≡ Some message → AreFields (of_message message []) (tail rest)
last_message_found message rest h =
    let next = bind_some (next_message rest) _ message h in
    let last = at_end_found next.0.0 message next.0.1 next.2 in
    let are = next_message_found [] next.0 rest next.1 last.1 in
    rw (← last.0) are

pub value_found : (x : MsgRef × ℕ) (rest : Option (List ℕ)) → message_value rest ≡ Some x → AreFields (of_message x.0 (Number 255 x.1 ∷ [])) (tail rest)
value_found x rest h =
    let message = bind_some (next_message rest) _ x h in
    let value = bind_some (last_number 255 message.0.1) _ x message.2 in
    let are = next_message_found (Number 255 value.0 ∷ []) message.0 rest message.1 (last_number_found 255 value.0 message.0.1 value.1) in
    subst (λ (y : MsgRef × ℕ). AreFields (of_message y.0 (Number 255 y.1 ∷ [])) (tail rest)) (same_Some _ x value.2) are

pub text_found : (rest : Option (List ℕ)) → AreFields (Text (text_of rest) ∷ []) (tail rest)
text_found None = only_field (Text []) [] (inr (refl, refl))
text_found (Some text) = only_field (Text text) (32 ∷ text) (inl refl)

decoded : (r : Result (List ℕ) FromHexError) (octets : List ℕ) → if_decoded r ≡ Some octets → r ≡ Ok octets
decoded (Ok read) octets h = cc
decoded (Err e) octets h = cc h

pub hex_found : (octets : List ℕ) (rest : Option (List ℕ)) → octets_of (text_of rest) ≡ Some octets → AreFields (Hex octets ∷ []) (tail rest)
unfolding decode_pairs
hex_found octets None h = only_field (Hex octets) [] (inr (refl, sym (same_Some [] octets h)))
hex_found octets (Some digits) h = only_field (Hex octets) (32 ∷ digits) (inl (digits, decoded (decode_of digits) octets h, refl))

pub message_octets_found : (x : MsgRef × List ℕ) (rest : Option (List ℕ)) → message_octets rest ≡ Some x → AreFields (of_message x.0 (Hex x.1 ∷ [])) (tail rest)
message_octets_found x rest h =
    let message = bind_some (next_message rest) _ x h in
    let octets = bind_some (octets_of (text_of message.0.1)) _ x message.2 in
    let are = next_message_found (Hex octets.0 ∷ []) message.0 rest message.1 (hex_found octets.0 message.0.1 octets.1) in
    subst (λ (y : MsgRef × List ℕ). AreFields (of_message y.0 (Hex y.1 ∷ [])) (tail rest)) (same_Some _ x octets.2) are

pub octets_found : (count : ℕ) (octets : List ℕ) (rest : Option (List ℕ)) → last_octets count rest ≡ Some octets → AreFields (Octets count octets ∷ []) (tail rest)
octets_found count octets None h = cc h
octets_found count octets (Some digits) h = only_field (Octets count octets) (32 ∷ digits) (digits, decoded (decode_sized digits count) octets h, refl)
