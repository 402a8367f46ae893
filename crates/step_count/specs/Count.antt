-- Counts of steps.
use Rattle.std.specs.Prelude.{ℕ, ◌+◌, ◌-◌, ◌^◌, min}

-- the count k steps later; it stays at the largest number of 64 bits (own)
abbrev pub raised : ℕ → ℕ → ℕ
raised steps k = steps + min k (2 ^ 64 - 1 - steps)
