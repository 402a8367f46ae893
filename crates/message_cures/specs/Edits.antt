-- Where a proposal differs from a message.
use Rattle.std.specs.Prelude.{◌≡◌, ℕ, ◌-◌, ◌≤◌, List, [], ◌∷◌, ◌++◌, drop, length, take}
use Rattle.message_cures.specs.declared.difference.Edit.{Edit}

-- a text with edits from an offset on: what stands before an edit stays, what it replaces goes, and its octets come in that place (own)
abbrev pub applied : ℕ → List Edit → List ℕ → List ℕ
applied from [] text = drop from text
applied from (edit ∷ edits) text = take (edit.from - from) (drop from text) ++ edit.octets.items ++ applied edit.to edits text

-- edits from an offset on stand one after the other within a text of this length (own)
abbrev pub AreInOrder : ℕ → List Edit → ℕ → Type 0
AreInOrder from [] size = from ≤ size
AreInOrder from (edit ∷ edits) size = (from ≤ edit.from) × (edit.from ≤ edit.to) × AreInOrder edit.to edits size

-- edits of a text, in their order, make another one of it (own)
abbrev pub IsEdited : List ℕ → List Edit → List ℕ → Type 0
IsEdited text edits other = AreInOrder 0 edits (length text) × (applied 0 edits text ≡ other)
