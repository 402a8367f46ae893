-- Steps of a counted source.
use Rattle.std.proofs.Common.{◌≡◌, ℕ, ◌+◌, ◌≤◌, ap, ◌∙◌, arith}
use Rattle.step_count.proofs.CountLemmas.{raised-raised, raised-zero}
use Rattle.multi_token.specs.Counted.{Counted, charged, RisesBetween}

-- steps after steps
pub charged-charged : (s : Counted) (a b : ℕ) → charged (charged s a) b ≡ charged s (a + b)
charged-charged s a b = ap (λ n. record { octets = s.octets; steps = n }) (raised-raised s.steps a b)

-- no steps change nothing
pub charged-zero : (s : Counted) → charged s 0 ≡ s
charged-zero s = ap (λ n. record { octets = s.octets; steps = n }) (raised-zero s.steps)

-- one step, and then those of what was called
pub rises_after_one : (a b d : Counted) (high : ℕ) → b ≡ charged a 1 → RisesBetween b d 0 high → RisesBetween a d 1 (high + 1)
rises_after_one a b d high e r =
    (1 + r.0, omega arith, omega (arith, r.2), r.3 ∙ (ap (λ s. charged s r.0) e ∙ charged-charged a 1 r.0))

-- the steps of one call, and then those of another
pub rises_then : (a b d : Counted) (low high low' high' : ℕ) → RisesBetween a b low high → RisesBetween b d low' high' → RisesBetween a d (low + low') (high + high')
rises_then a b d low high low' high' r s =
    (r.0 + s.0, omega (arith, r.1, s.1), omega (arith, r.2, s.2), s.3 ∙ (ap (λ c. charged c s.0) r.3 ∙ charged-charged a r.0 s.0))

-- at most so many steps are at most more
pub rises_more : (a b : Counted) (low high high' : ℕ) → high ≤ high' → RisesBetween a b low high → RisesBetween a b low high'
rises_more a b low high high' more (k, l, h, is) = (k, l, omega (arith, h, more), is)
