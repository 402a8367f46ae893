-- What the front of a tag says of its body: the body and its last bracket, or 26 octets of a longer body, which spells no tag.
use Rattle.std.proofs.Common.{◌≡◌, ℕ, ◌+◌, ◌-◌, ◌≤◌, List, [], ◌∷◌, ◌++◌, length, take, drop, Result, Ok, Err, refl, sym, ap, subst, ◌∙◌, arith, length-append}
use Rattle.std.specs.Prelude.{◌↔◌, min, IfOk}
use Rattle.std.specs.Char.{to_ascii_lowercase}
use Rattle.std.specs.Str.{str_to_ascii_lowercase}
use Rattle.std.specs.List.{All}
use Rattle.std.proofs.lemmas.List.{length-map, map-append, take-append-drop, take-map}
use Rattle.std.proofs.lemmas.List.Elements.{All-head, All-tail}
use Rattle.std.proofs.Math.Seq.{take-append-add}
use Rattle.multi_token.specs.declared.token.Token.{Token}
use Rattle.multi_token.specs.Spelling.{IsPlain, IsItem}
use Rattle.multi_token.specs.Spelling as spelling
use Rattle.multi_token.specs.Tokens.{IsTagOf, item_of, body_of}
use Rattle.multi_token.proofs.PlaceLemmas.{after_opening, length-tag}
use Rattle.multi_tag.specs.declared.tag.Tag.{Tag}
use Rattle.multi_tag.specs.declared.tag.TagFault.{TagFault}
use Rattle.multi_tag.specs.declared.tag.TagFault.TheVariants.{Unsupported, Value}
use Rattle.multi_tag.specs.Body.{table, Spells, SpellsSmall, HasName, HasNameAtFront}
use Rattle.multi_tag.specs.Read.{SpellsNoTag, IsReadOf}
use Rattle.multi_tag.specs.Closed.{IsClosedTag, HasNoClosedTag}
use Rattle.multi_token.proofs.SpellingLemmas.{one_plain_front}
use Rattle.multi_tag.proofs.AheadLemmas.{front_length, front_whole, whole_front}
use Rattle.multi_tag.proofs.ClosedTagLemmas.{begins_small}
use Rattle.multi_tag.proofs.TagOfLemmas.{one_tag}
use Rattle.multi_tag.proofs.ShortLemmas.{short_body, short_names}

-- the body of a tag has no brackets
plain_body : (octets : List ℕ) (token : Token) → IsTagOf octets token → All IsPlain (body_of octets token)
plain_body octets token tag =
    let same : item_of octets token ≡ spelling.Tag (body_of octets token) = rw tag.kind refl in
    (subst IsItem same tag.is.begins.0).1

-- the facts of the contract of what reads a tag
pub record IsAnswer (body : List ℕ) (result : Result Tag TagFault) : Type 0 where
  pub spelled : IfOk result (Spells body)
  pub read : IsReadOf body result
  pub unsupported : (result ≡ Err Unsupported) ↔ (¬ (HasName body))
  pub value : (result ≡ Err Value) ↔ (HasName body × SpellsNoTag body)

-- a bracket that stands after octets stands after those of them that have none
front_has : (plain rest body behind : List ℕ) → All IsPlain plain → body ++ 93 ∷ behind ≡ plain ++ rest → (more : List ℕ) × (body ≡ plain ++ more)
front_has [] rest body behind each e = (body, refl)
front_has (c ∷ plain) rest [] behind each e =
    let here : c ≡ 93 = cc in
    absurd ((All-head IsPlain c plain each).1 here)
front_has (c ∷ plain) rest (x ∷ body) behind each e =
    let here : x ≡ c = cc in
    let tail : body ++ 93 ∷ behind ≡ plain ++ rest = cc in
    let (more, is) = front_has plain rest body behind (All-tail IsPlain c plain each) tail in
    (more, cc)

-- a name stands in the first three octets, or in all where there are fewer
name_in_front : (k : ℕ) (body more : List ℕ) → min 3 (length body) ≤ k → HasName body → HasName (take k (body ++ more))
unfolding HasName HasNameAtFront
name_in_front k body more room (name, rest, is) =
    let size = length (table name).name in
    let few : size ≤ k = omega (arith, (short_names name).few, ap length is, length-append (table name).name rest, length-map body to_ascii_lowercase) in
    let most : k ≡ size + (k - size) = omega arith in
    let all = rest ++ str_to_ascii_lowercase more in
    let whole : take (size + (k - size)) (str_to_ascii_lowercase (body ++ more)) ≡ (table name).name ++ take (k - size) all =
    rw (begins_small body more (table name).name rest is) (take-append-add (table name).name all (k - size)) in
    (name, take (k - size) all, sym (take-map to_ascii_lowercase k (body ++ more)) ∙ (ap (λ n. take n (str_to_ascii_lowercase (body ++ more))) most ∙ whole))

-- and what begins with it before a bracket is begun by it
name_back : (k : ℕ) (body behind : List ℕ) → HasName (take k (body ++ 93 ∷ behind)) → HasName body
unfolding HasName HasNameAtFront
name_back k body behind (name, rest, begins) =
    let octets = body ++ 93 ∷ behind in
    let all = begins_small (take k octets) (drop k octets) (table name).name rest begins in
    let small = sym (map-append to_ascii_lowercase body (93 ∷ behind)) ∙ (ap str_to_ascii_lowercase (sym (take-append-drop k octets)) ∙ all) in
    let (more, same) = front_has (table name).name (rest ++ str_to_ascii_lowercase (drop k octets)) (str_to_ascii_lowercase body) (str_to_ascii_lowercase behind) (short_names name).plain small in
    (name, more, same)

-- a fault that is no other where something lacks, and only where it does, says just that
fault_says : {A : Type 0} (fault : TagFault) → (fault ≡ Unsupported → ¬ A) → (fault ≡ Value → A) → ((fault ≡ Unsupported) ↔ (¬ A)) × ((fault ≡ Value) ↔ A)
fault_says Unsupported lacks has = ((lacks, λ _. refl), (λ e. absurd cc, λ there. absurd (lacks refl there)))
fault_says Value lacks has = ((λ e. absurd cc, λ no. absurd (no (has refl))), (has, λ _. refl))

module _ (octets front : List ℕ) (token : Token) (n : ℕ) (tag : IsTagOf octets token) (is : front ≡ take n (drop (token.at + 1) octets)) where
  -- the fault by a front of three octets or more, or of all
  pub fault_told : min 3 (token.len - 2) ≤ n → (fault : TagFault) → (fault ≡ Unsupported → ¬ (HasName front)) → (fault ≡ Value → HasName front)
      → ((fault ≡ Unsupported) ↔ (¬ (HasName (body_of octets token)))) × ((fault ≡ Value) ↔ HasName (body_of octets token))
  fault_told room fault lacks has =
      let body = body_of octets token in
      let behind = drop (token.at + token.len) octets in
      let size = length-tag octets token tag in
      let begins = is ∙ ap (take n) (after_opening octets token tag) in
      fault_says fault (λ e there. lacks e (subst HasName (sym begins) (name_in_front n body (93 ∷ behind) (omega arith) there))) (λ e. name_back n body behind (subst HasName begins (has e)))

  -- so many octets were read
  pub front_lent : n ≤ token.len - 1 → length front ≡ n
  front_lent room = omega (arith, front_length n (token.at + 1) octets front is, length-tag octets token tag, tag.is.within)

  -- the body and its last bracket, or 26 octets of a longer body, which spells no tag
  module _ (few : n ≡ min (token.len - 1) 26) where
    pub token_read : (read : Tag) (len : ℕ) → IsClosedTag front read len → IsAnswer (body_of octets token) (Ok read)
    unfolding Spells SpellsSmall HasName HasNameAtFront
    token_read read len (other, behind, begins, spells, _) =
        let body = body_of octets token in
        let whole = sym (front_whole n (drop (token.at + 1) octets) other behind (sym is ∙ begins)) ∙ after_opening octets token tag in
        let same = one_plain_front other body (93 ∷ _) (93 ∷ _) (short_body other read spells).plain (plain_body octets token tag) (λ p. p.1 refl) (λ p. p.1 refl) whole in
        let spelled : Spells body read = subst (λ b. Spells b read) same.0 spells in
        record {
          spelled = spelled;
          read = λ tag spells. ap Ok (one_tag body read tag spelled spells);
          unsupported = (λ same. absurd cc, λ none. absurd (none (spelled.0, spelled.1, spelled.2)));
          value = (λ same. absurd cc, λ has. absurd (has.1 read spelled));
        }

    pub token_fault : (fault : TagFault) → HasNoClosedTag front → (fault ≡ Unsupported → ¬ (HasName front)) → (fault ≡ Value → HasName front) → IsAnswer (body_of octets token) (Err fault)
    token_fault fault none lacks has =
        let body = body_of octets token in
        let size = length-tag octets token tag in
        let says = fault_told (omega arith) fault lacks has in
        let no : SpellsNoTag body = λ read spells.
        let short = (short_body body read spells).few in
        none body _ read (is ∙ whole_front n (drop (token.at + 1) octets) body _ (after_opening octets token tag) (omega arith)) spells in
        record {
          spelled = tt;
          read = λ read spells. absurd (no read spells);
          unsupported = (λ same. says.0.0 cc, λ lacks. ap Err (says.0.1 lacks));
          value = (λ same. (says.1.0 cc, no), λ both. ap Err (says.1.1 both.0));
        }

    -- a tag that was read took a step for each octet after its first
    pub token_steps : (read : Tag) → Spells (body_of octets token) read → length front ≡ token.len - 1
    token_steps read spells = omega (arith, front_lent (omega arith), length-tag octets token tag, (short_body (body_of octets token) read spells).few)
