-- Octets after an opening bracket: what was read of them is a tag that is closed there, or shows that there is none.
use Rattle.std.proofs.Common.{◌≡◌, ℕ, ◌+◌, ◌-◌, ◌≤◌, List, [], ◌∷◌, ◌++◌, length, refl, sym, ap, ◌∙◌, arith, append_assoc}
use Rattle.std.specs.Char.{to_ascii_lowercase}
use Rattle.std.specs.Str.{str_to_ascii_lowercase}
use Rattle.std.proofs.lemmas.List.{length-map, map-append, append_cancel_left}
use Rattle.multi_tag.specs.declared.name.Name.{Name}
use Rattle.multi_tag.specs.declared.tag.Tag.{Tag}
use Rattle.multi_tag.specs.Body.{table, Spells, SpellsSmall, HasNameAtFront}
use Rattle.multi_tag.specs.Closed.{IsClosedTag, HasNoClosedTag}
use Rattle.multi_tag.specs.Part.{IsPartBefore, HasNoPartBefore}
use Rattle.multi_tag.proofs.CutLemmas.{mark_alone}
use Rattle.multi_tag.proofs.NameLemmas.{one_name}

-- octets whose small letters are parted by a bracket are parted by it
record Parted (octets small rest : List ℕ) : Type 0 where
  pub front : List ℕ
  pub behind : List ℕ
  pub whole : octets ≡ front ++ 93 ∷ behind
  pub before : str_to_ascii_lowercase front ≡ small
  pub size : length octets ≡ length front + 1 + length rest

parted : (octets small rest : List ℕ) → str_to_ascii_lowercase octets ≡ small ++ 93 ∷ rest → Parted octets small rest
parted [] [] rest e = absurd cc
parted [] (s ∷ small) rest e = absurd cc
parted (x ∷ xs) [] rest e =
    let here : x ≡ 93 = mark_alone 93 x (omega arith) cc in
    record { front = []; behind = xs; whole = ap (λ c. c ∷ xs) here; before = refl; size = omega (arith, ap length e, length-map xs to_ascii_lowercase) }
parted (x ∷ xs) (s ∷ small) rest e =
    let tail : str_to_ascii_lowercase xs ≡ small ++ 93 ∷ rest = cc in
    let p = parted xs small rest tail in
    let before = p.before in
    record { front = x ∷ p.front; behind = p.behind; whole = ap (λ ys. x ∷ ys) p.whole; before = cc; size = omega (arith, p.size) }

-- what begins the small letters of a body begins those of octets with the body at their front
pub begins_small : (body behind name rest : List ℕ) → str_to_ascii_lowercase body ≡ name ++ rest → str_to_ascii_lowercase (body ++ behind) ≡ name ++ (rest ++ str_to_ascii_lowercase behind)
begins_small body behind name rest e =
    map-append to_ascii_lowercase body behind ∙ (ap (λ ys. ys ++ str_to_ascii_lowercase behind) e ∙ append_assoc name rest (str_to_ascii_lowercase behind))

module _ (octets rest : List ℕ) (name : Name) (begins : str_to_ascii_lowercase octets ≡ (table name).name ++ str_to_ascii_lowercase rest) where
  -- a rest before a bracket closes a tag there, and what is after it is no longer than the octets
  pub closed_tag : (tag : Tag) (behind : List ℕ) → IsPartBefore 93 (table name).rest (str_to_ascii_lowercase rest) tag (str_to_ascii_lowercase behind)
      → (length behind ≤ length octets) × IsClosedTag octets tag (length octets - length behind)
  unfolding Spells SpellsSmall
  closed_tag tag behind (front, is, f) =
      let whole = begins ∙ (ap (λ ys. (table name).name ++ ys) is ∙ sym (append_assoc (table name).name front (93 ∷ str_to_ascii_lowercase behind))) in
      let p = parted octets ((table name).name ++ front) (str_to_ascii_lowercase behind) whole in
      let size = length-map behind to_ascii_lowercase in
      (omega (arith, p.size, size), (p.front, p.behind, p.whole, (name, front, p.before, f), omega (arith, p.size, size)))

  pub no_closed_rest : HasNoPartBefore 93 (table name).rest (str_to_ascii_lowercase rest) → HasNoClosedTag octets
  unfolding Spells SpellsSmall
  no_closed_rest none body behind tag is (other, more, e, f) =
      let small = ap str_to_ascii_lowercase is ∙ begins_small body (93 ∷ behind) (table other).name more e in
      let same : name ≡ other = one_name name other (str_to_ascii_lowercase rest) (more ++ 93 ∷ str_to_ascii_lowercase behind) (sym begins ∙ small) in
      let again : (table name).name ++ str_to_ascii_lowercase rest ≡ (table name).name ++ (more ++ 93 ∷ str_to_ascii_lowercase behind) = sym begins ∙ rw same small in
      none more (str_to_ascii_lowercase behind) tag (append_cancel_left (table name).name (str_to_ascii_lowercase rest) (more ++ 93 ∷ str_to_ascii_lowercase behind) again) (rw same f)

pub no_closed_name : (octets : List ℕ) → ¬ (HasNameAtFront (str_to_ascii_lowercase octets)) → HasNoClosedTag octets
unfolding Spells SpellsSmall HasNameAtFront
no_closed_name octets none body behind tag is (other, more, e, f) =
    none (other, more ++ 93 ∷ str_to_ascii_lowercase behind, ap str_to_ascii_lowercase is ∙ begins_small body (93 ∷ behind) (table other).name more e)
