-- What is left of a text is no longer than the text.
use Rattle.std.proofs.Common.{◌≡◌, ℕ, ◌≤◌, List, length, Option, None, Some, ap, arith, subst}
use Rattle.std.proofs.lemmas.List.{length-append}
use Rattle.std.proofs.lemmas.Option.{same_Some}
use Rattle.message_store.specs.declared.message.MsgRef.{MsgRef}
use Rattle.sign_script.specs.Fields.{next_field, next_message, next_number, number_of, parted, text_of}
use Rattle.sign_script.proofs.PartsLemmas.{bind_some, parted_parts, tail}

tail_length : (rest : Option (List ℕ)) → length (text_of rest) ≤ length (tail rest)
tail_length None = omega arith
tail_length (Some text) = omega arith

pub parted_short : (text : List ℕ) → length (text_of (parted text).rest) ≤ length text
parted_short text =
    let whole = ap length (parted_parts text) in
    let sum = length-append (parted text).field (tail (parted text).rest) in
    let left = tail_length (parted text).rest in
    omega (arith, whole, sum, left)

next_field_short : (rest : Option (List ℕ)) (x : List ℕ × Option (List ℕ)) → next_field rest ≡ Some x → length (text_of x.1) ≤ length (text_of rest)
next_field_short None x h = cc h
next_field_short (Some text) x h =
    subst (λ (y : List ℕ × Option (List ℕ)). length (text_of y.1) ≤ length text) (same_Some ((parted text).field, (parted text).rest) x h) (parted_short text)

next_number_short : (most : ℕ) (rest : Option (List ℕ)) (x : ℕ × Option (List ℕ)) → next_number most rest ≡ Some x → length (text_of x.1) ≤ length (text_of rest)
next_number_short most rest x h =
    let field = bind_some (next_field rest) _ x h in
    let number = bind_some (number_of most field.0.0) _ x field.2 in
    let left = next_field_short rest field.0 field.1 in
    subst (λ (y : ℕ × Option (List ℕ)). length (text_of y.1) ≤ length (text_of rest)) (same_Some (number.0, field.0.1) x number.2) left

pub next_message_short : (rest : Option (List ℕ)) (x : MsgRef × Option (List ℕ)) → next_message rest ≡ Some x → length (text_of x.1) ≤ length (text_of rest)
next_message_short rest x h =
    let memory = bind_some (next_number 255 rest) _ x h in
    let number = bind_some (next_number 65535 memory.0.1) _ x memory.2 in
    let first = next_number_short 255 rest memory.0 memory.1 in
    let second = next_number_short 65535 memory.0.1 number.0 number.1 in
    let both : length (text_of number.0.1) ≤ length (text_of rest) = omega (arith, first, second) in
    let message : MsgRef = record { memory = memory.0.0; number = number.0.0 } in
    subst (λ (y : MsgRef × Option (List ℕ)). length (text_of y.1) ≤ length (text_of rest)) (same_Some (message, number.0.1) x number.2) both
