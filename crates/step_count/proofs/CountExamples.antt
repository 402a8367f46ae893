-- Counts, computed up to the largest number.
use Rattle.std.proofs.Common.{◌≡◌, ◌-◌, ◌^◌, refl}
use Rattle.step_count.specs.Count.{raised}

a_count_rises_by_the_steps : raised 5 3 ≡ 8
a_count_rises_by_the_steps = refl

a_count_comes_to_the_largest_number : raised (2 ^ 64 - 3) 2 ≡ 2 ^ 64 - 1
a_count_comes_to_the_largest_number = refl

a_count_stays_at_the_largest_number : raised (2 ^ 64 - 3) 5 ≡ 2 ^ 64 - 1
a_count_stays_at_the_largest_number = refl

one_step_does_not_pass_the_largest_number : raised (2 ^ 64 - 1) 1 ≡ 2 ^ 64 - 1
one_step_does_not_pass_the_largest_number = refl
