-- Answers that wait to be written.
use Rattle.std.specs.Prelude.{ℕ, List}

-- The answers to whole lines, and what there is of the answer to the line after them (own).
pub record ReadyData : Type 0 where
  pub whole : List ℕ
  pub begun : List ℕ
