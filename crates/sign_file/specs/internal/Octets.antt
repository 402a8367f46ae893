-- What the look at nesting says of one octet.
use Rattle.std.specs.Prelude.{ℕ, ◌≤◌, Bool, false, List, Option, None, Some}
use Rattle.sign_file.specs.declared.nesting.Nested.{Nested}
use Rattle.sign_file.specs.Nesting.{fits}

-- No more is nested than may be (own).
pub record IsWithin (nested : Nested) : Type 0 where
  pub brackets : nested.brackets ≤ 16
  pub dots : nested.dots ≤ 3

-- Whether these octets nest no deeper than they may, after what is nested, if that is no more than may be (own).
abbrev pub fits_after : Option Nested → List ℕ → Bool
fits_after None octets = false
fits_after (Some nested) octets = fits nested.brackets nested.dots octets
