-- What a token's item means, from what its tag was read as.
use Rattle.std.proofs.Common.{Bool, false, nat_lt, sym, [], ◌∷◌, Ok, length-append, length-drop}
use Rattle.multi_meaning.proofs.Common.{nat_tests, ◌≡◌, ℕ, List, arith, ◌+◌, ◌-◌, ◌*◌, ◌^◌, ◌<◌, ◌≤◌, true, false, length, inr, ◌⊎◌, Option, Some, refl, ◌∙◌, min, nat_eq, Tag, tag_of, Does, meaning, Faulty, Shows, append-nil, append_assoc, Result, slice_get, Err, ap, inl, HasNoItem, option_eq, meaning_of_tag, said_by}
use Rattle.multi_token.specs.declared.token.Token.{Token}
use Rattle.multi_token.specs.Tokens.{body_of, item_of, IsTagOf}
use Rattle.multi_tag.specs.declared.tag.TagFault.{TagFault}
use Rattle.multi_token.proofs.PlaceLemmas.{doubled_token, length-tag}
use Rattle.multi_tag.specs.Closed.{IsTagAt}
use Rattle.multi_tag.proofs.AheadLemmas.{body_long}
use Rattle.multi_tag.specs.declared.tag.TagFault.TheVariants.{Unsupported, Value}
use Rattle.multi_tag.proofs.TagOfLemmas.{tag_of-spelled, tag_of_is_the_table}
use Rattle.std.specs.Prelude.{drop, if◌then◌else◌}
use Rattle.std.specs.List.{take_while}
use Rattle.multi_token.specs.Reading.{is_plain}
use Rattle.multi_token.specs.Spelling as spelled
use Rattle.multi_token.proofs.PlaceLemmas.{drop_read}
use Rattle.multi_token.specs.Spelling.{is_bracket}
use Rattle.multi_meaning.specs.Meaning.{Meaning}
use Rattle.multi_meaning.specs.Steps.{again, item_steps, looks, rest_steps}
use Rattle.multi_meaning.specs.internal.ItemAt.{IsFaultAt, IsFaultRead, IsItemAt, IsBracketedRead}
use Rattle.multi_meaning.proofs.StepsLemmas.{never_again}
use Rattle.multi_token.specs.declared.token.Kind.TheVariants as kinds

-- a tag that says that some tag is done is that tag
pub does_tag : (said tag : Tag) → said_by said ≡ Does tag → said ≡ tag
does_tag said tag e = grind arith

-- the item of a tag means what its body is read as
pub meaning-tag : (octets : List ℕ) (token : Token) (result : Result Tag TagFault) → token.kind ≡ kinds.Tag → tag_of (body_of octets token) ≡ result → meaning (item_of octets token) ≡ meaning_of_tag result
meaning-tag octets token result kind is = grind (arith, nat_tests, append_assoc, append-nil)

-- an octet that was read, by a comparison
pub read_is : (found : Option ℕ) (octet : ℕ) → true ≡ option_eq nat_eq found (Some octet) → found ≡ Some octet
read_is found octet e = grind arith

pub read_not : (found : Option ℕ) (octet : ℕ) → false ≡ option_eq nat_eq found (Some octet) → found ≡ Some octet → ⊥
read_not found octet e is = grind arith

module _ (octets : List ℕ) (at : ℕ) where
  -- a doubled bracket
  pub doubled_read : (bracket : ℕ) → length octets < 2 ^ 63 → (bracket ≡ 91) ⊎ (bracket ≡ 93) → slice_get octets at ≡ Some bracket → slice_get octets (at + 1) ≡ Some bracket
      → IsBracketedRead octets at 2 (Shows bracket) 1
  doubled_read bracket room is first second =
      let t : Token = record { at = at; len = 2; kind = kinds.Char bracket } in
      (t, refl, refl, doubled_token octets at bracket room first second is, refl, elim is [ inl e ↦ rw e refl | inr e ↦ rw e refl ])

  -- a closing bracket alone
  pub closing_read : slice_get octets at ≡ Some 93 → HasNoItem (drop at octets) → IsFaultRead octets at 3 1
  closing_read first none = inl (none, refl, ap rest_steps (drop_read octets at 93 first))

  -- an opening bracket with which nothing begins: it was looked ahead, and then up to the next bracket or the end
  pub open_read : (steps : ℕ) → slice_get octets at ≡ Some 91 → HasNoItem (drop at octets) → steps ≡ length (take_while is_plain (drop (at + 1) octets)) + 1
      → IsFaultRead octets at 3 (1 + min 26 (length octets - (at + 1)) + steps)
  open_read steps first none counted =
      let all = ap rest_steps (drop_read octets at 91 first) in
      inl (none, refl, omega (arith, all, counted, length-drop (at + 1) octets))

  -- a tag of the table
  pub tag_read : (tag : Tag) (len : ℕ) → IsTagAt octets at tag len → IsBracketedRead octets at len (said_by tag) (1 + min 26 (length octets - (at + 1)))
  tag_read tag len (is, spells) =
      let t : Token = record { at = at; len = len; kind = kinds.Tag } in
      let body = body_of octets t in
      let means : meaning (spelled.Tag body) ≡ said_by tag = ap meaning_of_tag (tag_of-spelled body tag spells) in
      (t, refl, refl, is.is, means, omega (arith, ap (λ m. again m body) means, never_again tag body, ap looks means))

  -- a tag at fault
  pub fault_read : (len code steps : ℕ) (fault : TagFault) → IsTagOf octets (record { at = at; len = len; kind = kinds.Tag })
      → tag_of (body_of octets (record { at = at; len = len; kind = kinds.Tag })) ≡ Err fault → meaning_of_tag (Err fault) ≡ Faulty code → steps ≡ len - 1 + min 3 (len - 2)
      → IsFaultRead octets at code (1 + min 26 (length octets - (at + 1)) + steps)
  fault_read len code steps fault is read error counted =
      let t : Token = record { at = at; len = len; kind = kinds.Tag } in
      let body = body_of octets t in
      let means : meaning (spelled.Tag body) ≡ Faulty code = ap meaning_of_tag read ∙ error in
      inr (len, (t, refl, refl, is.is, means, omega (arith, counted, length-tag octets t is, ap (λ m. again m body) means, ap looks means)))

-- WITHOUT THEM

-- an item that was read stands there
pub item_there : {octets : List ℕ} {at len : ℕ} {means : Meaning} (steps : ℕ) → IsBracketedRead octets at len means steps → IsItemAt octets at len means
item_there steps (token, at_is, len_is, is, meant, counted) = (token, at_is, len_is, is, meant)

-- so does an error
pub fault_there : {octets : List ℕ} {at code : ℕ} (steps : ℕ) → IsFaultRead octets at code steps → IsFaultAt octets at code
fault_there steps (inl (none, is, counted)) = inl (none, is)
fault_there steps (inr (len, item)) = inr (len, item_there steps item)

-- an item without a fault takes few steps after its bracket
pub item_few : {octets : List ℕ} {at len : ℕ} {means : Meaning} {steps : ℕ} → ((code : ℕ) → means ≡ Faulty code → ⊥) → IsBracketedRead octets at len means steps → (1 ≤ len) × (steps ≤ 9 * len - 9)
item_few {octets} {at} {len} {means} {steps} sound (t, at_is, len_is, token, meant, counted) = by (item_of octets t) refl
  where
    left : ℕ
    left = length octets - at

    size : (item : spelled.Item) → item_of octets t ≡ item → len ≡ length (spelled.spelling item)
    size item e = sym len_is ∙ token.len ∙ ap (λ (i : spelled.Item). length (spelled.spelling i)) e

    taken : (item : spelled.Item) → item_of octets t ≡ item → item_steps left item ≡ 2 + steps + looks (meaning item)
    taken item e = ap (item_steps left) (sym e) ∙ counted ∙ ap (λ (m : Meaning). 2 + steps + looks m) (sym meant ∙ ap meaning e)

    doubled : (number : ℕ) (bracket small : Bool) → len ≡ length (if bracket then number ∷ number ∷ [] else number ∷ []) → (if bracket then 4 else 2) ≡ 2 + steps + (if small then 1 else 8) → (1 ≤ len) × (steps ≤ 9 * len - 9)
    doubled number true true long is = (omega (arith, long), omega (arith, long, is))
    doubled number true false long is = absurd (omega (arith, is))
    doubled number false true long is = absurd (omega (arith, is))
    doubled number false false long is = absurd (omega (arith, is))

    tagged : (body : List ℕ) (result : Result Tag TagFault) → tag_of body ≡ result → item_of octets t ≡ spelled.Tag body → (1 ≤ len) × (steps ≤ 9 * len - 9)
    tagged body (Err fault) is e = absurd (by_fault fault refl)
      where
        faulty : (code : ℕ) → meaning_of_tag (Err fault) ≡ Faulty code → ⊥
        faulty code m = sound code (sym meant ∙ ap meaning e ∙ ap meaning_of_tag is ∙ m)

        by_fault : (f : TagFault) → fault ≡ f → ⊥
        by_fault Unsupported f = faulty 3 (ap (λ x. meaning_of_tag (Err x)) f)
        by_fault Value f = faulty 4 (ap (λ x. meaning_of_tag (Err x)) f)
    tagged body (Ok tag) is e =
        let long = body_long body tag (((tag_of_is_the_table body).0 tag).1 is) in
        let two : length (spelled.spelling (spelled.Tag body)) ≡ length body + 2 = simp length-append (omega arith) in
        (omega (arith, size (spelled.Tag body) e, two), omega (arith, size (spelled.Tag body) e, two, long, taken (spelled.Tag body) e, ap (λ m. again (meaning_of_tag m) body) is, never_again tag body))

    by : (item : spelled.Item) → item_of octets t ≡ item → (1 ≤ len) × (steps ≤ 9 * len - 9)
    by (spelled.Char number) e = doubled number (is_bracket number) (nat_lt number 256) (size (spelled.Char number) e) (taken (spelled.Char number) e)
    by (spelled.Tag body) e = tagged body (tag_of body) refl e
