-- Counts after some steps and more.
use Rattle.std.proofs.Common.{◌≡◌, ℕ, ◌+◌, ◌-◌, ◌^◌, refl, arith}
use Rattle.step_count.specs.Count.{raised}

-- steps after steps
pub raised-raised : (steps a b : ℕ) → raised (raised steps a) b ≡ raised steps (a + b)
raised-raised steps a b = omega arith

-- no steps change nothing
pub raised-zero : (steps : ℕ) → raised steps 0 ≡ steps
raised-zero steps = omega arith

steps_add_up : raised 5 14 ≡ 19
steps_add_up = refl

a_count_stays_at_the_largest_number : raised (2 ^ 64 - 2) 14 ≡ 2 ^ 64 - 1
a_count_stays_at_the_largest_number = refl
