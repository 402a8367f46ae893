-- A place between two items of an accepted string.
use Rattle.std.specs.Prelude.{◌≡◌, ℕ, List, [], ◌∷◌, ◌++◌, map, length, Option, Some, None}
use Rattle.multi_token.specs.Spelling.{Item, spelling, spell}
use Rattle.sign_font.specs.Sign.{SignData}
use Rattle.multi_meaning.specs.Laid.{laid_item, laid_out}
use Rattle.multi_meaning.specs.Meaning.{Meaning, meaning}
use Rattle.multi_meaning.specs.Words.{each_after}
use Rattle.multi_meaning.specs.internal.Fine.{IsAccepted, IsOrderly, unsized_offence}
use Rattle.multi_layout.specs.declared.cursor.Cursor.{Cursor}
use Rattle.multi_judge.specs.declared.item.NextItem.{NextItem}
use Rattle.multi_judge.specs.internal.KnownItem.{meant_by}
use Rattle.multi_judge.specs.declared.state.State.{State}
use Rattle.multi_judge.specs.internal.State.{IsStateOf}

-- the offset is between these items of an accepted string (own)
pub record IsPlaced (sign : SignData) (octets : List ℕ) (before behind : List Item) (at : ℕ) : Type 0 where
  pub accepted : IsAccepted sign octets (before ++ behind)
  pub place : at ≡ length (spell before)

-- an item of a string, with what it is laid out as (own)
pub record LaidItem : Type 0 where
  pub item : Item
  pub as_laid : Meaning

-- what a piece means (own)
abbrev pub meant : LaidItem → Meaning
meant piece = piece.as_laid

-- the items of some pieces (own)
abbrev pub items_of : List LaidItem → List Item
items_of pieces = map (λ piece. piece.item) pieces

-- the octets of some pieces (own)
abbrev pub spell_of : List LaidItem → List ℕ
spell_of pieces = spell (items_of pieces)

-- the items of a string, as they are laid out (own)
abbrev pub laid_meanings : SignData → List Item → List Meaning
laid_meanings sign items = laid_out sign (map meaning items)

-- the pieces of a string with these items (own)
abbrev pub pieces_of : SignData → List Item → List LaidItem
pieces_of sign items =
    let all = map meaning items in
    each_after (λ before item. record { item = item; as_laid = laid_item sign.line_fill sign all (map meaning before) (meaning item) })
    items

-- the cursor stands between these pieces of an accepted string (own)
pub record IsBetween (sign : SignData) (octets : List ℕ) (before behind : List LaidItem) (cursor : Cursor) : Type 0 where
  pub placed : IsPlaced sign octets (items_of before) (items_of behind) cursor.at
  pub laid : map meant (before ++ behind) ≡ laid_meanings sign (items_of (before ++ behind))
  pub orderly : IsOrderly sign (map meant (before ++ behind))
  pub state_is : IsStateOf sign (map meant before) cursor.state

-- the offset is between two items of a string that a sign accepts (own)
abbrev pub IsWithin : List ℕ → ℕ → Type 0
IsWithin octets at = (sign : SignData) × (before : List Item) × (behind : List Item) × IsPlaced sign octets before behind at

-- this is read of an item (own)
pub record IsItemRead (item : Item) (next : NextItem) : Type 0 where
  pub meant : meaning item ≡ meant_by next.item
  pub len : next.len ≡ length (spelling item)

-- this is a piece, by what it is laid out as (own)
pub record IsRead (piece : LaidItem) (next : NextItem) : Type 0 where
  pub meant : meant piece ≡ meant_by next.item
  pub len : next.len ≡ length (spelling piece.item)

-- this is read of the first of these items, or there is none (own)
abbrev pub IsFirst : List Item → Option NextItem → Type 0
IsFirst behind None = behind ≡ []
IsFirst behind (Some next) = (item : Item) × (rest : List Item) × (behind ≡ item ∷ rest) × IsItemRead item next

-- this is the first of these pieces, or there is none (own)
abbrev pub IsPieceFirst : List LaidItem → Option NextItem → Type 0
IsPieceFirst behind None = behind ≡ []
IsPieceFirst behind (Some next) = (piece : LaidItem) × (rest : List LaidItem) × (behind ≡ piece ∷ rest) × IsRead piece next

-- with a tag that doesn't offend by more than its size, the state becomes that with the tag (own)
abbrev pub PassesTag : SignData → Meaning → State → State → Type 0
PassesTag sign tag old new =
    (items : List Meaning) → IsStateOf sign items old → unsized_offence sign items tag ≡ None → IsStateOf sign (items ++ tag ∷ []) new
