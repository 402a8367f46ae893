-- What the octets that were read make of the place where reading began.
use Rattle.std.proofs.Common.{◌≡◌, ◌≢◌, ℕ, zero, suc, Bool, true, false, cond, ◌||◌, ◌==◌, ◌<◌, ◌≤◌, ◌+◌, ◌-◌, ◌^◌, List, [], ◌∷◌, ◌++◌, length, get_or, drop, refl, sym, ap, ◌∙◌, arith, append_assoc, inl, inr, ◌⊎◌, Option, Some, None, length-take, length-drop}
use Rattle.std.specs.Prelude.{slice_get, slice_range, IfSome}
use Rattle.std.specs.List.{All, prefix_len, take_while}
use Rattle.std.proofs.lemmas.List.Sums.{take_while-cons}
use Rattle.multi_token.specs.Reading.{is_plain}
use Rattle.std.proofs.lemmas.List.{drop_more, take_more, get_or-drop, take-append-drop, drop-drop, length-append}
use Rattle.std.proofs.lemmas.Option.{slice_get_within, get_or_from_slice_get, same_Some}
use Rattle.std.proofs.lemmas.Bool.{cases_eq, eq-eqb, ne_eqb}
use Rattle.std.proofs.lemmas.List.Elements.{All-nil, All-push, All-head, All-tail}
use Rattle.multi_token.specs.declared.token.Token.{Token}
use Rattle.multi_token.specs.declared.token.Kind.TheVariants as kinds
use Rattle.multi_token.specs.Spelling.{Char, Tag, IsPlain, spelling, HasNoItem}
use Rattle.multi_token.specs.Tokens.{IsEndedBy, bracket_steps, IsBracketed, IsTokenOf, IsTagOf, item_of, item_spelled, body_of, octets_of}
use Rattle.multi_token.specs.declared.token.Bracketed.{Bracketed}
use Rattle.multi_token.specs.declared.token.Bracketed.TheVariants as bracketed
use Rattle.multi_token.proofs.SpellingLemmas.{IsStopped, one_plain_front, doubled, single, spelled_char}

-- the list from a place on, where x stands at it
pub drop_read : (xs : List ℕ) (i x : ℕ) → slice_get xs i ≡ Some x → drop i xs ≡ x ∷ drop (i + 1) xs
drop_read xs i x e =
    let h : i < length xs = slice_get_within xs i x e in
    let g : get_or xs i 0 ≡ x = get_or_from_slice_get xs i x 0 e in
    rw (drop_more xs i 0 h, g) refl

pub drop_none : (xs : List ℕ) (i : ℕ) → slice_get xs i ≡ None → drop i xs ≡ []
drop_none [] zero e = refl
drop_none [] (suc i) e = refl
drop_none (x ∷ xs) zero e = cc
drop_none (x ∷ xs) (suc i) e = drop_none xs i e

-- and back
pub read_drop : (xs : List ℕ) (i x : ℕ) (rest : List ℕ) → drop i xs ≡ x ∷ rest → slice_get xs i ≡ Some x
read_drop [] zero x rest e = cc
read_drop [] (suc i) x rest e = cc
read_drop (y ∷ ys) zero x rest e = let h : y ≡ x = cc in ap Some h
read_drop (y ∷ ys) (suc i) x rest e = read_drop ys i x rest e

-- one more plain octet
pub plain_more : (xs : List ℕ) (from end c : ℕ) → from ≤ end → slice_get xs end ≡ Some c → IsPlain c → All IsPlain (slice_range xs from end) → All IsPlain (slice_range xs from (end + 1))
plain_more xs from end c h e q p =
    let within : end < length xs = slice_get_within xs end c e in
    let one : end + 1 - from ≡ (end - from) + 1 = omega arith in
    let there : from + (end - from) ≡ end = omega arith in
    let read : get_or (drop from xs) (end - from) 0 ≡ c = get_or-drop from xs (end - from) 0 ∙ (ap (λ k. get_or xs k 0) there ∙ get_or_from_slice_get xs end c 0 e) in
    let short : end - from < length (drop from xs) = simp length-drop (omega arith) in
    rw (one, take_more (drop from xs) (end - from) 0 short, read) (All-push IsPlain (slice_range xs from end) c p q)

-- the octets from a place on, cut at a later place
pub cut : (xs : List ℕ) (from end : ℕ) → from ≤ end → drop from xs ≡ slice_range xs from end ++ drop end xs
cut xs from end h =
    let there : from + (end - from) ≡ end = omega arith in
    sym (take-append-drop (end - from) (drop from xs)) ∙ ap (λ ys. slice_range xs from end ++ ys) (drop-drop (end - from) from xs ∙ ap (λ k. drop k xs) there)

-- a character of one octet
pub single_token : (xs : List ℕ) (at c : ℕ) → length xs < 2 ^ 63 → slice_get xs at ≡ Some c → IsPlain c → IsTokenOf xs (record { at = at; len = 1; kind = kinds.Char c })
single_token xs at c room e p =
    let one : spelling (Char c) ≡ c ∷ [] = rw (ne_eqb c 91 p.0, ne_eqb c 93 p.1) refl in
    let h : at < length xs = slice_get_within xs at c e in
    record {
      begins = (tt, rw one (drop_read xs at c e));
      len = rw one refl;
      within = omega arith;
      room = room;
    }

-- a bracket, doubled
pub doubled_token : (xs : List ℕ) (at c : ℕ) → length xs < 2 ^ 63 → slice_get xs at ≡ Some c → slice_get xs (at + 1) ≡ Some c → (c ≡ 91) ⊎ (c ≡ 93) → IsTokenOf xs (record { at = at; len = 2; kind = kinds.Char c })
doubled_token xs at c room e f b =
    let two : spelling (Char c) ≡ c ∷ c ∷ [] = elim b [ inl k ↦ rw (eq-eqb c 91 k) refl | inr k ↦ rw k refl ] in
    let h : at + 1 < length xs = slice_get_within xs (at + 1) c f in
    let next : at + 1 + 1 ≡ at + 2 = omega arith in
    let all : drop at xs ≡ c ∷ c ∷ drop (at + 2) xs = drop_read xs at c e ∙ ap (λ ys. c ∷ ys) (drop_read xs (at + 1) c f ∙ ap (λ k. c ∷ drop k xs) next) in
    record {
      begins = (tt, rw two all);
      len = rw two refl;
      within = omega arith;
      room = room;
    }

-- a tag, closed at its end
pub tag_token : (xs : List ℕ) (at end : ℕ) → length xs < 2 ^ 63 → slice_get xs at ≡ Some 91 → at + 1 < end → All IsPlain (slice_range xs (at + 1) end) → slice_get xs end ≡ Some 93 → IsTokenOf xs (record { at = at; len = end + 1 - at; kind = kinds.Tag })
tag_token xs at end room e h p f =
    let last : at + (end + 1 - at) - 1 ≡ end = omega arith in
    let body = slice_range xs (at + 1) end in
    let g : end < length xs = slice_get_within xs end 93 f in
    let size : length body ≡ end - (at + 1) = simp (length-take, length-drop) (omega arith) in
    let whole : length (spelling (Tag body)) ≡ end + 1 - at = simp length-append (omega arith) in
    let after : at + (end + 1 - at) ≡ end + 1 = omega arith in
    let all : drop at xs ≡ spelling (Tag body) ++ drop (end + 1) xs =
    drop_read xs at 91 e ∙ ap (λ ys. 91 ∷ ys) (cut xs (at + 1) end (omega arith) ∙ (ap (λ ys. body ++ ys) (drop_read xs end 93 f) ∙ sym (append_assoc body (93 ∷ []) (drop (end + 1) xs)))) in
    let full : body ≢ [] = λ n. absurd (let z : length body ≡ 0 = ap length n in omega arith) in
    record {
      begins = (rw last (full, p), rw (last, after) all);
      len = rw last (sym whole);
      within = omega arith;
      room = room;
    }

-- nothing begins with a closing bracket alone
pub none_closing : (xs : List ℕ) (at : ℕ) → slice_get xs at ≡ Some 93 → (slice_get xs (at + 1) ≡ Some 93 → ⊥) → HasNoItem (drop at xs)
none_closing xs at e n (Char c) rest (i, q) =
    let first = drop_read xs at 93 e in
    elim (spelled_char c rest) [
      | doubled b w ↦
          let h : 93 ≡ c = cc in
          let t : drop (at + 1) xs ≡ c ∷ rest = cc in
          n (rw h (read_drop xs (at + 1) c rest t))
      | single m w ↦ m.1 cc
    ]
none_closing xs at e n (Tag body) rest (i, q) =
    let first : ◌≡◌ {A = ℕ} 93 91 = ap (λ ys. get_or ys 0 0) (sym (drop_read xs at 93 e) ∙ q) in
    absurd (omega arith)

-- what stops a body: a bracket or the end
pub data Stop (xs : List ℕ) (end : ℕ) : Type 0 where
  at_end : slice_get xs end ≡ None → Stop xs end
  at_open : slice_get xs end ≡ Some 91 → Stop xs end
  at_close : slice_get xs end ≡ Some 93 → Stop xs end

stopped : (xs : List ℕ) (end : ℕ) → Stop xs end → IsStopped (drop end xs)
stopped xs end (at_end e) = rw (drop_none xs end e) tt
stopped xs end (at_open e) = rw (drop_read xs end 91 e) (λ m. m.0 refl)
stopped xs end (at_close e) = rw (drop_read xs end 93 e) (λ m. m.1 refl)

-- nothing begins with an opening bracket that is neither doubled nor closed after a body
pub none_opening : (xs : List ℕ) (at end : ℕ) → slice_get xs at ≡ Some 91 → at + 1 ≤ end → All IsPlain (slice_range xs (at + 1) end) → Stop xs end → (slice_get xs end ≡ Some 91 → at + 1 < end) → (slice_get xs end ≡ Some 93 → end ≡ at + 1) → HasNoItem (drop at xs)
none_opening xs at end e h p s o k (Char c) rest (i, q) =
    let first = drop_read xs at 91 e in
    let body = slice_range xs (at + 1) end in
    elim (spelled_char c rest) [
      | doubled b w ↦
          let g : 91 ≡ c = cc in
          let t : drop (at + 1) xs ≡ 91 ∷ rest = cc in
          let two : body ++ drop end xs ≡ [] ++ 91 ∷ rest = sym (cut xs (at + 1) end h) ∙ t in
          let r = one_plain_front body [] (drop end xs) (91 ∷ rest) p (All-nil IsPlain) (stopped xs end s) (λ m. m.0 refl) two in
          let r0 = r.0 in
          let r1 = r.1 in
          let opened = read_drop xs end 91 rest r1 in
          let more = o opened in
          let short : length body ≡ 0 = ap length r0 in
          let g : end < length xs = slice_get_within xs end 91 opened in
          let size : length body ≡ end - (at + 1) = simp (length-take, length-drop) (omega arith) in
          absurd (omega arith)
      | single m w ↦ m.0 cc
    ]
none_opening xs at end e h p s o k (Tag b) rest (i, q) =
    let first = drop_read xs at 91 e in
    let body = slice_range xs (at + 1) end in
    let t : drop (at + 1) xs ≡ (b ++ 93 ∷ []) ++ rest = cc in
    let two : body ++ drop end xs ≡ b ++ 93 ∷ rest = sym (cut xs (at + 1) end h) ∙ (t ∙ append_assoc b (93 ∷ []) rest) in
    let r = one_plain_front body b (drop end xs) (93 ∷ rest) p i.1 (stopped xs end s) (λ m. m.1 refl) two in
    let r0 = r.0 in
    let r1 = r.1 in
    let empty : end ≡ at + 1 = k (read_drop xs end 93 rest r1) in
    let zero_long : end - (at + 1) ≡ 0 = omega arith in
    let none : body ≡ [] = rw zero_long refl in
    i.0 (sym r0 ∙ none)

-- the same, by what was found there
pub none_opened : (xs : List ℕ) (at end : ℕ) (found : Option ℕ) → slice_get xs at ≡ Some 91 → at + 1 ≤ end → All IsPlain (slice_range xs (at + 1) end) → found ≡ slice_get xs end → IfSome found (λ c. (c ≡ 91) ⊎ (c ≡ 93)) → (found ≡ Some 91 → at + 1 < end) → (found ≡ Some 93 → end ≡ at + 1) → HasNoItem (drop at xs)
none_opened xs at end None e h p f b o k = none_opening xs at end e h p (at_end (sym f)) (λ g. o (f ∙ g)) (λ g. k (f ∙ g))
none_opened xs at end (Some c) e h p f b o k =
    none_opening xs at end e h p (elim b [ inl i ↦ at_open (sym f ∙ ap Some i) | inr i ↦ at_close (sym f ∙ ap Some i) ]) (λ g. o (f ∙ g)) (λ g. k (f ∙ g))

-- what was found is one octet
pub one_found : {o : Option ℕ} {a b : ℕ} → o ≡ Some a → o ≡ Some b → a ≡ b
one_found {o} {a} {b} p q = same_Some a b (sym p ∙ q)

-- after the opening bracket of a tag stand its body and the closing bracket
pub after_opening : (xs : List ℕ) (t : Token) → IsTagOf xs t → drop (t.at + 1) xs ≡ body_of xs t ++ 93 ∷ drop (t.at + t.len) xs
after_opening xs t k =
    let body = body_of xs t in
    let tag : item_of xs t ≡ Tag body = rw k.kind refl in
    let spelled : drop t.at xs ≡ 91 ∷ ((body ++ 93 ∷ []) ++ drop (t.at + t.len) xs) = k.is.begins.1 ∙ ap (λ i. spelling i ++ drop (t.at + t.len) xs) tag in
    let first = drop_read xs t.at 91 (read_drop xs t.at 91 _ spelled) in
    let rest : drop (t.at + 1) xs ≡ (body ++ 93 ∷ []) ++ drop (t.at + t.len) xs = cc in
    rest ∙ append_assoc body (93 ∷ []) (drop (t.at + t.len) xs)

-- a tag has two octets more than its body
pub length-tag : (xs : List ℕ) (t : Token) → IsTagOf xs t → t.len ≡ length (body_of xs t) + 2
length-tag xs t k =
    let body = body_of xs t in
    let tag : item_of xs t ≡ Tag body = rw k.kind refl in
    k.is.len ∙ ap (λ i. length (spelling i)) tag ∙ (let n : length (spelling (Tag body)) ≡ length body + 2 = simp length-append (omega arith) in n)

-- what begins with a bracket, as the token that it is
pub bracketed_token : (xs : List ℕ) (at bracket : ℕ) (spelled : Bracketed) → IsBracketed xs at bracket spelled
    → (t : Token) × (t.at ≡ at) × (t.len ≡ octets_of spelled) × IsTokenOf xs t × (item_of xs t ≡ item_spelled xs at bracket spelled)
bracketed_token xs at bracket bracketed.Doubled token = (record { at = at; len = 2; kind = kinds.Char bracket }, refl, refl, token, refl)
bracketed_token xs at bracket (bracketed.Tag len) token =
    let last : at + (len + 2) - 1 ≡ at + 1 + len = omega arith in
    (record { at = at; len = len + 2; kind = kinds.Tag }, refl, refl, token, ap Tag (ap (slice_range xs (at + 1)) last))

-- the longest front of octets that are no brackets, by what stops it
plain_octet : (octet : ℕ) → IsPlain octet → is_plain octet ≡ true
plain_octet octet (open', close) = ap (λ b. cond (b || (octet == 93)) false true) (ne_eqb octet 91 open') ∙ ap (λ b. cond b false true) (ne_eqb octet 93 close)

stops : (octet : ℕ) → (IsPlain octet → ⊥) → is_plain octet ≡ false
stops octet bracket = elim (cases_eq octet 91) [
  | inl e ↦ rw e refl
  | inr open' ↦ elim (cases_eq octet 93) [
    | inl e ↦ rw e refl
    | inr close ↦ absurd (bracket (open', close))
  ]
]

front_is : (front rest : List ℕ) → All IsPlain front → IsStopped rest → take_while is_plain (front ++ rest) ≡ front
front_is [] [] each stop = refl
front_is [] (octet ∷ rest) each stop = take_while-cons is_plain octet rest ∙ ap (λ b. cond b (octet ∷ take_while is_plain rest) []) (stops octet stop)
front_is (octet ∷ front) rest each stop =
    take_while-cons is_plain octet (front ++ rest)
    ∙ ap (λ b. cond b (octet ∷ take_while is_plain (front ++ rest)) []) (plain_octet octet (All-head IsPlain octet front each))
    ∙ ap (λ l. octet ∷ l) (front_is front rest (All-tail IsPlain octet front each) stop)

pub plain_is : (xs : List ℕ) (from end : ℕ) (ending : Option ℕ) → from ≤ end → All IsPlain (slice_range xs from end) → IsEndedBy xs end ending → take_while is_plain (drop from xs) ≡ slice_range xs from end
plain_is xs from end None h plain (is, kind) = ap (take_while is_plain) (cut xs from end h) ∙ front_is (slice_range xs from end) (drop end xs) plain (stopped xs end (at_end (sym is)))
plain_is xs from end (Some octet) h plain (is, inl e) = ap (take_while is_plain) (cut xs from end h) ∙ front_is (slice_range xs from end) (drop end xs) plain (stopped xs end (at_open (sym is ∙ ap Some e)))
plain_is xs from end (Some octet) h plain (is, inr e) = ap (take_while is_plain) (cut xs from end h) ∙ front_is (slice_range xs from end) (drop end xs) plain (stopped xs end (at_close (sym is ∙ ap Some e)))

pub bracket_few : (bracket : ℕ) (behind : List ℕ) → bracket_steps bracket behind ≤ length behind + 1
bracket_few bracket behind = by (bracket == 91)
  where
    by : (b : Bool) → cond b (length (take_while is_plain behind) + 1) 1 ≤ length behind + 1
    by true = omega (arith, length-take (prefix_len is_plain behind) behind)
    by false = omega arith
