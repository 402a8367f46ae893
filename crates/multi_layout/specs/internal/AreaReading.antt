-- The first reading of an area, for the table of its lines (own).
use Rattle.std.specs.Prelude.{◌≡◌, ℕ, ◌-◌, ◌*◌, ◌<◌, Bool, List, [], ◌∷◌, ◌++◌, map, Option, None, Some}
use Rattle.std.specs.List.{All}
use Rattle.multi_token.specs.Spelling.{Item}
use Rattle.sign_font.specs.Sign.{SignData}
use Rattle.multi_meaning.specs.Address.{Spot}
use Rattle.multi_meaning.specs.Meaning.{meaning}
use Rattle.multi_meaning.specs.internal.Present.{IsNarrowArea, IsPlacing}
use Rattle.multi_meaning.specs.Verdict.{offences}
use Rattle.multi_judge.specs.declared.area.Area.{Area}
use Rattle.multi_judge.specs.declared.pass.Pass.{Pass}
use Rattle.multi_judge.specs.declared.item.KnownItem.{KnownItem}
use Rattle.multi_judge.specs.declared.item.NextItem.{NextItem}
use Rattle.multi_judge.specs.declared.table.LineTable.{LineTable}
use Rattle.multi_judge.specs.internal.KnownItem.{meant_by}
use Rattle.multi_judge.specs.internal.Passed.{laid_area}
use Rattle.multi_layout.specs.internal.AreaDrawing.{HasKnown, HasRoom}
use Rattle.multi_judge.specs.internal.PassState.{IsPassOf}
use Rattle.multi_judge.specs.internal.Sums.{area_sum}

-- this is kept of the items of an accepted string, and the table has the lines of their area, as it is laid out, that are known
-- when items go on in this group (own)
pub record IsReadOf (words : Bool) (sign : SignData) (items : List Item) (present : ℕ) (kept : Pass) (lines : LineTable) : Type 0 where
  pub none : offences sign items ≡ []
  pub of : IsPassOf words sign kept (map meaning items)
  pub known : HasKnown present (laid_area words sign (map meaning items)) lines

-- the sums are those of placing items that fit, and the table has their lines that are known when items go on in this group (own)
pub record KnowsArea (present : ℕ) (area : Area) (lines : LineTable) : Type 0 where
  pub spots : List Spot
  pub placing : All IsPlacing spots
  pub sum : area ≡ area_sum spots
  pub known : HasKnown present spots lines
  pub room : HasRoom spots
  pub narrow : IsNarrowArea spots

-- where the old table had the lines that are known in the present group, the new one has those that are known in this group (own)
abbrev pub KnowsOn : Area → ℕ → LineTable → LineTable → Type 0
KnowsOn area present old new =
    (spots : List Spot) → All IsPlacing spots → IsNarrowArea spots → area ≡ area_sum spots → HasKnown area.present spots old
    → HasKnown present spots new

-- so the new one has in any group after the present one, which ends (own)
abbrev pub EndsGroup : Area → LineTable → LineTable → Type 0
EndsGroup area old new = (present : ℕ) → area.present < present → KnowsOn area present old new

-- this is read of one more item, and none offends with it (own)
pub record IsNextRead (sign : SignData) (items : List Item) (item : Item) (read : KnownItem) : Type 0 where
  pub meant : meaning item ≡ meant_by read
  pub none : offences sign (items ++ item ∷ []) ≡ []

-- with one more item, of which this is read, these become of what is kept when items go on in this group (own)
abbrev pub ReadsOn : Bool → SignData → ℕ → KnownItem → Pass → LineTable → Pass → LineTable → Type 0
ReadsOn words sign present item kept lines kept' lines' =
    (before : List Item) (next : Item) → IsReadOf words sign before present kept lines → IsNextRead sign before next item
    → IsReadOf words sign (before ++ next ∷ []) kept'.state.area.present kept' lines'

-- the steps that an item took at most, if it was read, after its first octet (own)
abbrev pub next_steps : Option NextItem → ℕ
next_steps None = 0
next_steps (Some next) = 9 * next.len - 9
