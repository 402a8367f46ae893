-- Of octets with which no item begins, the open ones can be mended, and all others stay broken.
use Rattle.std.proofs.Common.{◌≡◌, ◌≢◌, ℕ, List, [], ◌∷◌, ◌++◌, refl, sym, ap, subst, ◌∙◌, append_assoc, append-nil, inl, inr, ◌⊎◌, arith}
use Rattle.std.specs.List.{All}
use Rattle.std.proofs.lemmas.Bool.{cases_eq}
use Rattle.std.proofs.lemmas.List.Elements.{All-nil, All-cons}
use Rattle.multi_token.specs.Broken.{IsOpen, StaysBroken, CanBeMended, OpenOrBroken, OpenIsMended}
use Rattle.multi_token.specs.Spelling.{Char, Tag, IsPlain, HasNoItem}
use Rattle.multi_token.proofs.SpellingLemmas.{IsStopped, doubled, single, spelled_char, one_plain_front}

-- nothing begins with a closing bracket before another octet
closed_none : (octet : ℕ) (rest : List ℕ) → octet ≢ 93 → HasNoItem (93 ∷ octet ∷ rest)
closed_none octet rest other (Char c) behind (is, e) =
    elim (spelled_char c behind) [
      | doubled b p ↦ let first : 93 ≡ c = cc in let second : octet ≡ c = cc in other (second ∙ sym first)
      | single n p ↦ n.1 cc
    ]
closed_none octet rest other (Tag body) behind (is, e) = let first : ◌≡◌ {A = ℕ} 93 91 = cc in absurd (omega arith)

-- nothing begins with an opening bracket, octets without brackets and a bracket that doesn't end them: an opening one after
-- some, or a closing one after none
opened_none : (body : List ℕ) (octet : ℕ) (rest : List ℕ) → All IsPlain body → (IsPlain octet → ⊥) → (octet ≡ 91 → body ≢ []) → (octet ≡ 93 → body ≡ [])
    → HasNoItem (91 ∷ (body ++ octet ∷ rest))
opened_none body octet rest plain stops some none (Char c) behind (is, e) =
    elim (spelled_char c behind) [
      | doubled b p ↦
          let first : 91 ≡ c = cc in
          let tails : body ++ octet ∷ rest ≡ [] ++ c ∷ behind = cc in
          let apart = one_plain_front body [] (octet ∷ rest) (c ∷ behind) plain (All-nil IsPlain) stops (λ m. m.0 (sym first)) tails in
          let second : octet ≡ c = let h = apart.1 in cc in
          some (second ∙ sym first) apart.0
      | single n p ↦ n.0 cc
    ]
opened_none body octet rest plain stops some none (Tag b) behind (is, e) =
    let tails : body ++ octet ∷ rest ≡ (b ++ 93 ∷ []) ++ behind = cc in
    let apart = one_plain_front body b (octet ∷ rest) (93 ∷ behind) plain is.1 stops (λ m. m.1 refl) (tails ∙ append_assoc b (93 ∷ []) behind) in
    let second : octet ≡ 93 = let h = apart.1 in cc in
    is.0 (sym apart.0 ∙ none second)

-- a list, parted where its longest front without brackets ends
record Parted (octets : List ℕ) : Type 0 where
  body : List ℕ
  behind : List ℕ
  plain : All IsPlain body
  stops : IsStopped behind
  is : octets ≡ body ++ behind

parted : (octets : List ℕ) → Parted octets
parted [] = record { body = []; behind = []; plain = All-nil IsPlain; stops = tt; is = refl }
parted (octet ∷ octets) =
    elim (cases_eq octet 91) [
      | inl e ↦ record { body = []; behind = octet ∷ octets; plain = All-nil IsPlain; stops = λ m. m.0 e; is = refl }
      | inr n ↦ elim (cases_eq octet 93) [
        | inl e ↦ record { body = []; behind = octet ∷ octets; plain = All-nil IsPlain; stops = λ m. m.1 e; is = refl }
        | inr m ↦
            let others = parted octets in
            record {
              body = octet ∷ others.body;
              behind = others.behind;
              plain = All-cons IsPlain octet others.body (n, m) others.plain;
              stops = others.stops;
              is = ap (λ l. octet ∷ l) others.is;
            }
      ]
    ]

no_head : (octet : ℕ) (octets : List ℕ) → octet ∷ octets ≢ []
no_head octet octets e = cc

-- after an opening bracket
opened : (octets body behind : List ℕ) → All IsPlain body → IsStopped behind → octets ≡ body ++ behind → HasNoItem (91 ∷ octets) → IsOpen (91 ∷ octets) ⊎ StaysBroken (91 ∷ octets)
opened octets body [] plain stops is none = inl (inr (body, plain, ap (λ l. 91 ∷ l) (is ∙ append-nil body)))
opened octets body (octet ∷ rest) plain stops is none =
    inr (λ more. subst (λ l. HasNoItem (91 ∷ l)) (sym (ap (λ l. l ++ more) is ∙ append_assoc body (octet ∷ rest) more))
    (opened_none body octet (rest ++ more) plain stops
    (λ e empty. none (Char 91) rest (tt, ap (λ l. 91 ∷ l) (is ∙ ap (λ b. b ++ octet ∷ rest) empty ∙ ap (λ n. n ∷ rest) e)))
    (λ e. bodiless body plain (is ∙ ap (λ n. body ++ n ∷ rest) e))))
  where
    bodiless : (b : List ℕ) → All IsPlain b → octets ≡ b ++ 93 ∷ rest → b ≡ []
    bodiless [] each e = refl
    bodiless (x ∷ b) each e = absurd (none (Tag (x ∷ b)) rest ((no_head x b, each), ap (λ l. 91 ∷ l) (e ∙ sym (append_assoc (x ∷ b) (93 ∷ []) rest))))

-- after a closing bracket
closed : (octets : List ℕ) → HasNoItem (93 ∷ octets) → IsOpen (93 ∷ octets) ⊎ StaysBroken (93 ∷ octets)
closed [] none = inl (inl refl)
closed (octet ∷ octets) none = inr (λ more. closed_none octet (octets ++ more) (λ e. none (Char 93) octets (tt, ap (λ n. 93 ∷ n ∷ octets) e)))

-- a character that is no bracket stands for itself
stands_alone : (octet : ℕ) (rest : List ℕ) → octet ≢ 91 → octet ≢ 93 → HasNoItem (octet ∷ rest) → ⊥
stands_alone octet rest n m none =
    elim (spelled_char octet rest) [
      | doubled b e ↦ elim b [ inl is ↦ n is | inr is ↦ m is ]
      | single p e ↦ none (Char octet) rest (tt, sym e)
    ]

pub open_or_broken : OpenOrBroken
open_or_broken [] some none = absurd (some refl)
open_or_broken (octet ∷ octets) some none =
    elim (cases_eq octet 91) [
      | inl e ↦
          let at = parted octets in
          subst (λ n. HasNoItem (n ∷ octets) → IsOpen (n ∷ octets) ⊎ StaysBroken (n ∷ octets)) (sym e) (opened octets at.body at.behind at.plain at.stops at.is) none
      | inr n ↦ elim (cases_eq octet 93) [
        | inl e ↦ subst (λ n. HasNoItem (n ∷ octets) → IsOpen (n ∷ octets) ⊎ StaysBroken (n ∷ octets)) (sym e) (closed octets) none
        | inr m ↦ absurd (stands_alone octet octets n m none)
      ]
    ]

-- a tag that has no end yet gets one, and a lone bracket is doubled
mended : (octets body : List ℕ) → All IsPlain body → octets ≡ 91 ∷ body → CanBeMended octets
mended octets [] plain e = (91 ∷ [], Char 91, (tt, ap (λ l. l ++ 91 ∷ []) e))
mended octets (x ∷ body) plain e =
    (93 ∷ [], Tag (x ∷ body), ((no_head x body, plain), ap (λ l. l ++ 93 ∷ []) e ∙ sym (append-nil (91 ∷ ((x ∷ body) ++ 93 ∷ [])))))

pub open_is_mended : OpenIsMended
open_is_mended octets (inl e) = (93 ∷ [], Char 93, (tt, ap (λ l. l ++ 93 ∷ []) e))
open_is_mended octets (inr (body, plain, e)) = mended octets body plain e
