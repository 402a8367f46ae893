-- What is kept of slots beside them, so that none has to be looked for or counted.
use Rattle.std.specs.Prelude.{◌≡◌, ◌≤◌, ℕ, List, not}
use Rattle.std.specs.List.{All, count_by, position_or_len}
use Rattle.message_store.specs.declared.slot.Slot.{Slot}
use Rattle.message_store.specs.Ranged.{AreRanged}
use Rattle.message_store.specs.Slot.{is_not_used, is_validating}

-- a slot's numbers are within their ranges (own)
abbrev pub IsRanged : Slot → Type 0
IsRanged slot = AreRanged slot.priority slot.beacon slot.pixel

-- no slot before `from` waits to be judged, and these are the numbers of those that wait and of those that are used; each is
-- within its ranges (own)
pub record AreCounted (slots : List Slot) (from waiting used : ℕ) : Type 0 where
  pub first : from ≤ position_or_len (λ slot. is_validating slot.status) slots
  pub waits : waiting ≡ count_by (λ slot. is_validating slot.status) slots
  pub counts : used ≡ count_by (λ slot. not (is_not_used slot.status)) slots
  pub ranged : All IsRanged slots
