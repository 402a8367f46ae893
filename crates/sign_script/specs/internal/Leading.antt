-- The digits at the front of a text.
use Rattle.std.specs.Prelude.{◌≡◌, ℕ, ◌<◌, ◌≤◌, true, false, List, length, take, slice_index_or}
use Rattle.std.specs.List.{list_all}
use Rattle.std.specs.Str.Parse.{digits_value}
use Rattle.octet_text.specs.Digits.{is_digit}

-- a number that digits at the front of a text write, and how many these are; fewer than 10 are all of them (own)
pub record IsLeading (text : List ℕ) (number count : ℕ) : Type 0 where
  pub within : count ≤ length text
  pub few : count ≤ 10
  pub digits : list_all is_digit (take count text) ≡ true
  pub value : number ≡ digits_value 10 (take count text)
  pub all : count < 10 → count < length text → is_digit (slice_index_or text count 0) ≡ false
