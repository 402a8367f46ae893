-- Counted octets, computed.
use Rattle.std.proofs.Common.{◌≡◌, codes, refl, lit≤}
use Rattle.multi_token.specs.Counted.{Counted, charged, RisesBetween}

three_steps : Counted
three_steps = record { octets = codes "A"; steps = 3 }

steps_are_added : charged three_steps 2 ≡ record { octets = codes "A"; steps = 5 }
unfolding three_steps
steps_are_added = refl

a_count_rises_by_the_least_and_the_most : RisesBetween three_steps (charged three_steps 2) 2 2
unfolding three_steps
a_count_rises_by_the_least_and_the_most = (2, lit≤ tt, lit≤ tt, refl)

a_count_rises_between_the_least_and_the_most : RisesBetween three_steps (charged three_steps 2) 1 3
unfolding three_steps
a_count_rises_between_the_least_and_the_most = (2, lit≤ tt, lit≤ tt, refl)
