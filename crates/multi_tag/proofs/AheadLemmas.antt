-- Tags that stand in octets, by what was read of those after their opening bracket.
use Rattle.std.proofs.Common.{◌≡◌, ℕ, suc, ◌+◌, ◌-◌, ◌^◌, ◌<◌, ◌≤◌, List, [], ◌∷◌, ◌++◌, Some, length, take, drop, refl, sym, ap, subst, ◌∙◌, arith, append_assoc, length-append, length-take, length-drop}
use Rattle.std.specs.Prelude.{min, slice_get, slice_range}
use Rattle.std.specs.List.{All}
use Rattle.std.specs.Char.{to_ascii_lowercase}
use Rattle.std.proofs.lemmas.List.{length-map, take-append-drop, drop-drop}
use Rattle.std.proofs.Math.Seq.{take-append-add, take-append_seam, drop-append_seam}
use Rattle.multi_token.specs.declared.token.Token.{Token}
use Rattle.multi_token.specs.declared.token.Kind.TheVariants as kinds
use Rattle.multi_token.specs.Spelling.{IsPlain}
use Rattle.multi_token.specs.Tokens.{IsTokenOf, body_of}
use Rattle.multi_token.proofs.PlaceLemmas.{after_opening, read_drop, tag_token}
use Rattle.multi_tag.specs.declared.name.Name.{Name}
use Rattle.multi_tag.specs.declared.name.Name.TheVariants as names
use Rattle.multi_tag.specs.declared.tag.Tag.{Tag}
use Rattle.multi_tag.specs.declared.tag.Tag.TheVariants.{HexChar}
use Rattle.multi_tag.specs.Body.{table, Spells, SpellsSmall}
use Rattle.multi_tag.specs.Closed.{IsClosedTag, HasNoClosedTag, IsTagAt, HasNoTagAt}
use Rattle.multi_tag.specs.TagOf.{read_rest}
use Rattle.multi_tag.proofs.TagRowLemmas.{rest_read}
use Rattle.multi_tag.proofs.ShortLemmas.{short_body, short_names}

-- each name has two octets or more, and so has each body
pub body_long : (body : List ℕ) (tag : Tag) → Spells body tag → 2 ≤ length body
unfolding Spells SpellsSmall
body_long body tag (name, rest, is, f) = omega (arith, ap length is, length-append (table name).name rest, (short_names name).some, length-map body to_ascii_lowercase)

-- where nothing stands after a name, no number of a character is read
no_hex : (name : Name) (number : ℕ) → read_rest name [] ≡ Some (HexChar number) → ⊥
no_hex names.NewPage number e = cc
no_hex _ number e = cc

-- so a body that spells one has three octets or more
pub hex_long : (body : List ℕ) (number : ℕ) → Spells body (HexChar number) → 3 ≤ length body
unfolding Spells SpellsSmall
hex_long body number (name, [], is, f) = absurd (no_hex name number ((rest_read name).whole [] (HexChar number) f))
hex_long body number (name, digit ∷ rest, is, f) =
    omega (arith, ap length is, length-append (table name).name (digit ∷ rest), (short_names name).some, length-map body to_ascii_lowercase)

-- so many octets are read ahead
pub front_length : (n from : ℕ) (octets front : List ℕ) → front ≡ take n (drop from octets) → length front ≡ min n (length octets - from)
front_length n from octets front is = rw (is, length-take, length-drop) refl

-- what is closed in a front of octets is closed in them, and back if it isn't longer
pub front_whole : (n : ℕ) (octets body more : List ℕ) → take n octets ≡ body ++ 93 ∷ more → octets ≡ body ++ 93 ∷ (more ++ drop n octets)
front_whole n octets body more is = sym (take-append-drop n octets) ∙ (ap (λ ys. ys ++ drop n octets) is ∙ append_assoc body (93 ∷ more) (drop n octets))

pub whole_front : (n : ℕ) (octets body behind : List ℕ) → octets ≡ body ++ 93 ∷ behind → length body < n → take n octets ≡ body ++ 93 ∷ take (n - length body - 1) behind
whole_front n octets body behind is room =
    let most : n ≡ length body + suc (n - length body - 1) = omega arith in
    ap (λ k. take k octets) most ∙ rw is (take-append-add body (93 ∷ behind) (suc (n - length body - 1)))

module _ (xs : List ℕ) (at : ℕ) where
  -- what was read is a tag there
  pub tag_there : (tag : Tag) (len : ℕ) → length xs < 2 ^ 63 → slice_get xs at ≡ Some 91 → IsClosedTag (take 26 (drop (at + 1) xs)) tag len → IsTagAt xs at tag (len + 1)
  tag_there tag len room opens (body, more, closed, spells, size) =
      let end = at + 1 + length body in
      let behind = more ++ drop 26 (drop (at + 1) xs) in
      let is = front_whole 26 (drop (at + 1) xs) body more closed in
      let some = body_long body tag spells in
      let width : end - (at + 1) ≡ length body = omega arith in
      let within : slice_range xs (at + 1) end ≡ body = ap (λ n. take n (drop (at + 1) xs)) width ∙ (ap (take (length body)) is ∙ take-append_seam body (93 ∷ behind)) in
      let last : drop end xs ≡ 93 ∷ behind = sym (drop-drop (length body) (at + 1) xs) ∙ (ap (drop (length body)) is ∙ drop-append_seam body (93 ∷ behind)) in
      let plain : All IsPlain (slice_range xs (at + 1) end) = subst (All IsPlain) (sym within) (short_body body tag spells).plain in
      let token = tag_token xs at end room opens (omega arith) plain (read_drop xs end 93 behind last) in
      let same : end + 1 - at ≡ len + 1 = omega arith in
      let ends : at + (len + 1) - 1 ≡ end = omega arith in (
        record { is = subst (λ n. IsTokenOf xs (record { at = at; len = n; kind = kinds.Tag })) same token; kind = refl },
        subst (λ b. Spells b tag) (sym (ap (slice_range xs (at + 1)) ends ∙ within)) spells,
      )

  -- and where none was read, none is there: none has more octets than were read
  pub no_tag_there : HasNoClosedTag (take 26 (drop (at + 1) xs)) → HasNoTagAt xs at
  no_tag_there none tag len (is, spells) =
      let t : Token = record { at = at; len = len; kind = kinds.Tag } in
      let body = body_of xs t in
      let behind = drop (at + len) xs in
      let few = (short_body body tag spells).few in
      none body (take (26 - length body - 1) behind) tag (whole_front 26 (drop (at + 1) xs) body behind (after_opening xs t is) (omega arith)) spells
