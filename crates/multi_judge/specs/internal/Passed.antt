-- What one more item of an accepted string makes of what is kept (own).
use Rattle.std.specs.Prelude.{◌≡◌, ℕ, ◌≤◌, Bool, true, false, if◌then◌else◌, List, [], ◌∷◌, ◌++◌, Option, Some, None, Result, Ok, Err}
use Rattle.multi_tag.specs.Just.{page_number}
use Rattle.sign_font.specs.Sign.{SignData}
use Rattle.sign_font.specs.Text.{width_in}
use Rattle.multi_meaning.specs.Address.{Spot, in_group}
use Rattle.multi_meaning.specs.Laid.{laid_items}
use Rattle.multi_meaning.specs.declared.fault.SyntaxError.{SyntaxError}
use Rattle.multi_meaning.specs.Codes.{code_of}
use Rattle.multi_meaning.specs.Meaning.{Meaning, Shows, begins_area}
use Rattle.multi_meaning.specs.internal.Bounds.{has_place}
use Rattle.multi_meaning.specs.internal.Present.{present_area}
use Rattle.multi_meaning.specs.Offence.{offence}
use Rattle.multi_judge.specs.declared.pass.Pass.{Pass}
use Rattle.multi_judge.specs.declared.line.Line.{Line}
use Rattle.multi_judge.specs.declared.state.State.{State}
use Rattle.multi_judge.specs.internal.FillSums.{EndsLine}
use Rattle.multi_judge.specs.internal.PassState.{IsPassOf, fill_of}
use Rattle.multi_judge.specs.internal.Run.{is_within}

-- the placing items of the present area after these items, as they are laid out among them (own)
abbrev pub laid_area : Bool → SignData → List Meaning → List Spot
laid_area words sign items = present_area sign (laid_items (fill_of words) sign items items)

-- the page justification of the group to which the next item belongs, if it has a place, or else that of the present group (own)
abbrev pub next_group : State → Meaning → ℕ
next_group state item = if has_place item then page_number state.attributes.page_just else state.area.present

-- one more item of the group with this page justification is passed that doesn't offend: this is then what is kept of the items with it,
-- its group is the present one, the other groups stay as they are laid out, and its own has the lines that it had, or one more (own)
pub record IsItemPassed (words : Bool) (sign : SignData) (items : List Meaning) (item : Meaning) (page : ℕ) (old new : Pass)
    (ended : Option Line) : Type 0 where
  pub of : IsPassOf words sign new (items ++ item ∷ [])
  pub present : new.state.area.present ≡ page
  pub order : old.state.area.present ≤ page
  pub others : (just : ℕ) → (just ≡ page → ⊥)
      → in_group just (laid_area words sign (items ++ item ∷ [])) ≡ in_group just (laid_area words sign items)
  pub own : EndsLine (in_group page (laid_area words sign items)) (in_group page (laid_area words sign (items ++ item ∷ []))) ended

-- one more item is judged. Either it doesn't offend: the pass is then that of the items with it, and the item ended this line of its group,
-- if one; an item without a place ends none. Or it offends by this error (own)
abbrev pub IsItemJudged : Bool → SignData → List Meaning → Meaning → Pass → Result (Option Line) SyntaxError → Pass → Type 0
IsItemJudged words sign items item old (Ok ended) new =
    (offence sign.line_fill sign items item ≡ None) × IsPassOf words sign new (items ++ item ∷ []) × (has_place item ≡ false → ended ≡ None)
    × (begins_area item ≡ false → IsItemPassed words sign items item (next_group old.state item) old new ended)
IsItemJudged words sign items item old (Err error) new = offence sign.line_fill sign items item ≡ Some (code_of error)

-- whatever the items before are, if the old pass is theirs, the item is judged after them, and the new pass is the one then (own)
abbrev pub JudgesItem : Bool → SignData → Pass → Meaning → Result (Option Line) SyntaxError → Pass → Type 0
JudgesItem words sign old item result new =
    (items : List Meaning) → IsPassOf words sign old items → IsItemJudged words sign items item old result new

-- the same of a character whose cell has this width in pixels (own)
abbrev pub JudgesCell : Bool → Pass → ℕ → ℕ → Result (Option Line) SyntaxError → Pass → Type 0
JudgesCell words old number width result new =
    (sign : SignData) → width_in sign old.state.attributes.font.number number ≡ Some width
    → JudgesItem words sign old (Shows number) result new

-- one more character is put, or it offends by this error. If it is put and stays within the limits, it doesn't offend and is passed; else
-- it offends by its size (own)
abbrev pub IsCellPut : Bool → SignData → List Meaning → ℕ → Pass → Result (Option Line) SyntaxError → Pass → Type 0
IsCellPut words sign items number old (Ok ended) new =
    (offence sign.line_fill sign items (Shows number) ≡ (if is_within new.state then None else Some 5))
    × (is_within new.state ≡ true → IsItemPassed words sign items (Shows number) (page_number old.state.attributes.page_just) old new ended)
IsCellPut words sign items number old (Err error) new = offence sign.line_fill sign items (Shows number) ≡ Some (code_of error)

-- so it is of one whose cell has this width in pixels, whatever the items before are, if the old pass is theirs (own)
abbrev pub PutsCell : Bool → Pass → ℕ → ℕ → Result (Option Line) SyntaxError → Pass → Type 0
PutsCell words old number width result new =
    (sign : SignData) → width_in sign old.state.attributes.font.number number ≡ Some width
    → (items : List Meaning) → IsPassOf words sign old items → IsCellPut words sign items number old result new
