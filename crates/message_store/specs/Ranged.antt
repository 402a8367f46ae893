-- The ranges of the numbers of a message.
use Rattle.std.specs.Prelude.{◌≤◌, ℕ}

-- a priority from 1, and beacon and pixel service 0 or 1 (NTCIP 1203 v03, object dmsMessageTable)
pub record AreRanged (priority beacon pixel : ℕ) : Type 0 where
  pub from_one : 1 ≤ priority
  pub beacon_flag : beacon ≤ 1
  pub pixel_flag : pixel ≤ 1
