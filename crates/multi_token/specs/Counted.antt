-- Octets with a count of the steps over them.
use Rattle.std.specs.Prelude.{ℕ, ◌≤◌, ◌≡◌, List}
use Rattle.step_count.specs.Count.{raised}

-- a source: its octets, and the number of steps that were taken over them (own)
pub record Counted : Type 0 where
  pub octets : List ℕ
  pub steps : ℕ

-- the source k steps later (own)
abbrev pub charged : Counted → ℕ → Counted
charged source k = record { octets = source.octets; steps = raised source.steps k }

-- the new source is the old one, at least low and at most high steps later (own)
abbrev pub RisesBetween : Counted → Counted → ℕ → ℕ → Type 0
RisesBetween old new low high = (k : ℕ) × (low ≤ k) × (k ≤ high) × (new ≡ charged old k)
