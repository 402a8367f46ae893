-- The table as a function gives what the table spells.
use Rattle.std.proofs.Common.{◌≡◌, ℕ, ◌++◌, List, Option, Some, None, Result, Ok, Err, length, drop, refl, sym, ap, ◌∙◌}
use Rattle.std.specs.Prelude.{◌↔◌, IfOk, ok_or}
use Rattle.std.specs.Str.{str_to_ascii_lowercase}
use Rattle.std.proofs.lemmas.Option.{none-some}
use Rattle.multi_tag.specs.declared.name.Name.{Name}
use Rattle.multi_tag.specs.declared.tag.Tag.{Tag}
use Rattle.multi_tag.specs.declared.tag.TagFault.{TagFault}
use Rattle.multi_tag.specs.declared.tag.TagFault.TheVariants.{Unsupported, Value}
use Rattle.multi_tag.specs.Body.{table, Spells, SpellsSmall, HasName, HasNameAtFront}
use Rattle.multi_tag.specs.Read.{SpellsNoTag, OneTagAtMost}
use Rattle.multi_tag.specs.TagOf.{read_rest, listed, name_at_front, tag_behind, tag_of, TagOfIsTheTable}
use Rattle.std.proofs.Math.Seq.{drop-append_seam}
use Rattle.multi_tag.proofs.TagRowLemmas.{rest_read, begun, found}
use Rattle.multi_tag.proofs.NameLemmas.{named}

-- a tag is given where a name and a rest spell it
module _ (octets : List ℕ) where
  tag_small : (tag : Tag) → SpellsSmall octets tag → tag_behind (name_at_front octets) octets ≡ Ok tag
  unfolding SpellsSmall
  tag_small tag (name, rest, is, f) =
      rw (is, named name rest, drop-append_seam (table name).name rest, (rest_read name).whole rest tag f) refl

  -- and only there; octets are unsupported just where no listed name begins them
  small_told : (r : Option Name) → name_at_front octets ≡ r → ((tag : Tag) → tag_behind r octets ≡ Ok tag → SpellsSmall octets tag) × ((tag_behind r octets ≡ Err Unsupported) ↔ (¬ (HasNameAtFront octets)))
  unfolding SpellsSmall HasNameAtFront
  small_told None e = (λ tag m. absurd cc, (λ m (name, rest, is). none-some name (sym e ∙ (ap name_at_front is ∙ named name rest)), λ none. refl))
  small_told (Some name) e = by_cases (read_rest name rest) refl
    where
      rest : List ℕ
      rest = drop (length (table name).name) octets

      is : octets ≡ (table name).name ++ rest
      is = begun octets (table name).name (found octets listed name e)

      by_cases : (s : Option Tag) → read_rest name rest ≡ s → ((tag : Tag) → ok_or s Value ≡ Ok tag → SpellsSmall octets tag) × ((ok_or s Value ≡ Err Unsupported) ↔ (¬ (HasNameAtFront octets)))
      by_cases None k = (λ tag m. absurd cc, (λ m. absurd cc, λ none. absurd (none (name, rest, is))))
      by_cases (Some other) k = (λ tag m. (name, rest, is, (rest_read name).sound rest tag cc), (λ m. absurd cc, λ none. absurd (none (name, rest, is))))

-- a body spells one tag
pub one_tag : OneTagAtMost
unfolding Spells
one_tag body a b f g = let same = sym (tag_small (str_to_ascii_lowercase body) a f) ∙ tag_small (str_to_ascii_lowercase body) b g in cc

-- the law
pub tag_of_is_the_table : TagOfIsTheTable
unfolding Spells HasName tag_of
tag_of_is_the_table body =
    let octets = str_to_ascii_lowercase body in
    let (small, unsupported) = small_told octets (name_at_front octets) refl in
    (λ tag. (tag_small octets tag, small tag), unsupported)

-- what follows for a body that spells a tag, for one of no listed name, and for the others
pub tag_of-spelled : (body : List ℕ) (tag : Tag) → Spells body tag → tag_of body ≡ Ok tag
tag_of-spelled body tag = ((tag_of_is_the_table body).0 tag).0

pub tag_of-unsupported : (body : List ℕ) → ¬ (HasName body) → tag_of body ≡ Err Unsupported
tag_of-unsupported body = (tag_of_is_the_table body).1.1

pub tag_of-value : (body : List ℕ) → HasName body → ((tag : Tag) → ¬ (Spells body tag)) → tag_of body ≡ Err Value
tag_of-value body has none = by_cases (tag_of body) refl
  where
    by_cases : (r : Result Tag TagFault) → tag_of body ≡ r → r ≡ Err Value
    by_cases (Ok tag) e = absurd (none tag (((tag_of_is_the_table body).0 tag).1 e))
    by_cases (Err Unsupported) e = absurd ((tag_of_is_the_table body).1.0 e has)
    by_cases (Err Value) e = refl

-- what was read of a body is what it spells
pub tag_of-read : (body : List ℕ) (result : Result Tag TagFault) → IfOk result (Spells body) → ((result ≡ Err Unsupported) ↔ (¬ (HasName body)))
    → ((result ≡ Err Value) ↔ (HasName body × SpellsNoTag body)) → tag_of body ≡ result
tag_of-read body (Ok tag) spelled unsupported value = tag_of-spelled body tag spelled
tag_of-read body (Err Unsupported) spelled unsupported value = tag_of-unsupported body (unsupported.0 refl)
tag_of-read body (Err Value) spelled unsupported value = let (has, none) = value.0 refl in tag_of-value body has none
