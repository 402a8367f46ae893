-- The names of the table: one at most begins the octets.
use Rattle.std.proofs.Common.{◌≡◌, ◌≢◌, ℕ, ◌<◌, ◌≤◌, ◌-◌, false, List, [], ◌∷◌, ◌++◌, length, take, drop, get_or, Some, None, refl, sym, ap, ◌∙◌, arith}
use Rattle.std.specs.Prelude.{nat_eq}
use Rattle.std.specs.List.{starts_with}
use Rattle.std.specs.Char.{to_ascii_lowercase}
use Rattle.std.specs.Str.{str_to_ascii_lowercase}
use Rattle.std.proofs.lemmas.List.{take_rest}
use Rattle.std.proofs.lemmas.Bool.Decides.{nat_tests}
use Rattle.std.proofs.lemmas.Option.{none-some, same_Some}
use Rattle.multi_tag.specs.declared.name.Name.{Name}
use Rattle.multi_tag.specs.declared.name.Name.TheVariants.{NewPage}
use Rattle.multi_tag.specs.Body.{table, HasNameAtFront}
use Rattle.multi_tag.specs.TagOf.{name_at_front}

-- the listed name that begins the octets
pub named : (name : Name) (rest : List ℕ) → name_at_front ((table name).name ++ rest) ≡ Some name
named NewPage rest = refl
named _ rest = refl

-- where no name is found, none begins the octets
pub no_name : (octets : List ℕ) → name_at_front octets ≡ None → HasNameAtFront octets → ⊥
unfolding HasNameAtFront
no_name octets e (name, rest, is) = none-some name (sym e ∙ (ap name_at_front is ∙ named name rest))

-- a body of one octet, or of two that are no name's with what stands after them
pub no_short_name : (body : List ℕ) → length body < 2 → HasNameAtFront (str_to_ascii_lowercase body) → ⊥
no_short_name [] short = no_name [] refl
no_short_name (first ∷ []) short = no_name (to_ascii_lowercase first ∷ []) (grind (arith, nat_tests))
no_short_name (first ∷ second ∷ rest) short = absurd (omega arith)

pub no_name_of : (body : List ℕ) → 2 ≤ length body → name_at_front (to_ascii_lowercase (get_or body 0 0) ∷ to_ascii_lowercase (get_or body 1 0) ∷ str_to_ascii_lowercase (take (length body - 2) (drop 2 body))) ≡ None → HasNameAtFront (str_to_ascii_lowercase body) → ⊥
no_name_of [] some none = absurd (omega arith)
no_name_of (_ ∷ []) some none = absurd (omega arith)
no_name_of (a ∷ b ∷ rest) some none = no_name (str_to_ascii_lowercase (a ∷ b ∷ rest)) (rw (take_rest (a ∷ b ∷ rest) 2) at none)

-- one name begins the octets
pub one_name : (a b : Name) (x y : List ℕ) → (table a).name ++ x ≡ (table b).name ++ y → a ≡ b
one_name a b x y e = same_Some a b (sym (named a x) ∙ (ap name_at_front e ∙ named b y))

-- octets begin with no letter, in either case, that isn't their first
pub other_third : (letter : ℕ) (octets : List ℕ) → to_ascii_lowercase (get_or octets 0 0) ≢ letter → starts_with nat_eq (str_to_ascii_lowercase octets) (letter ∷ []) ≡ false
other_third letter [] other = refl
other_third letter (third ∷ rest) other = grind (arith, nat_tests)
