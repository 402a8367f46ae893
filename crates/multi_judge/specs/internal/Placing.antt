-- Where a character stands, by what is kept of its area (own).
use Rattle.std.specs.Prelude.{◌≡◌, ℕ, ◌≤◌, Bool, true, false, List, [], ◌∷◌, ◌++◌}
use Rattle.std.specs.List.{list_any}
use Rattle.multi_tag.specs.Just.{page_number}
use Rattle.multi_meaning.specs.declared.place.Place.{Place}
use Rattle.multi_meaning.specs.Address.{Spot, area_of, group_of, in_group, is_break, is_glyph, line_before, lines_of}
use Rattle.multi_meaning.specs.Line.{glyph_width}
use Rattle.multi_meaning.specs.Offence.{clashes}
use Rattle.multi_meaning.specs.Place.{place_of}
use Rattle.multi_meaning.specs.Words.{largest}
use Rattle.multi_meaning.specs.internal.Present.{IsPlacing}
use Rattle.multi_judge.specs.declared.area.Area.{Area}
use Rattle.multi_judge.specs.declared.attributes.Attributes.{Attributes}
use Rattle.multi_judge.specs.declared.table.CountedLine.{CountedLine}
use Rattle.multi_judge.specs.internal.State.{attributes_of}
use Rattle.multi_judge.specs.internal.Sums.{area_sum}
use Rattle.multi_judge.specs.internal.Table.{table_of}

-- a character stands at this place whose cell has this width, where these are in force, kept of its area as far as the character, and the
-- counted lines of its group (own)
abbrev pub PlacesCharacter : Attributes → Area → List CountedLine → ℕ → Place → Type 0
PlacesCharacter attributes area lines width place =
    (before all rest : List Spot) (spot : Spot) → is_glyph spot ≡ true → attributes ≡ attributes_of spot.at → glyph_width spot ≡ width
    → area ≡ area_sum (area_of spot before ++ spot ∷ []) → lines ≡ table_of (lines_of (group_of spot all))
    → group_of spot all ≡ group_of spot before ++ spot ∷ rest
    → list_any (clashes spot) (line_before before spot) ≡ false
    → largest (λ t. page_number t.at.page_just) (area_of spot before) ≤ page_number attributes.page_just
    → place ≡ place_of before all spot

-- the answer is whether the next of a group ends its line, where these are in force, kept of the area so far, and the counted lines of the
-- group (own)
abbrev pub TellsEnd : Attributes → Area → List CountedLine → Bool → Type 0
TellsEnd attributes area lines ends =
    (front back spots : List Spot) (next : Spot) → area ≡ area_sum spots → area.present ≤ page_number attributes.page_just
    → in_group (page_number attributes.page_just) spots ≡ front → lines ≡ table_of (lines_of (front ++ next ∷ back)) → IsPlacing next
    → (is_glyph next ≡ true → (next.at.line_just ≡ attributes.line_just) × (1 ≤ glyph_width next)) → ends ≡ is_break next
