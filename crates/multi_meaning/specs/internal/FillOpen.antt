-- Where lines are filled, the open line fits.
use Rattle.std.specs.Prelude.{◌≡◌, ℕ, true, List, Option, Some, None}
use Rattle.std.specs.List.{after_last}
use Rattle.multi_meaning.specs.Address.{Spot, is_break, in_group}
use Rattle.multi_meaning.specs.Fit.{line_fits}
use Rattle.multi_meaning.specs.Filling.{filled}

-- where a group's lines are filled to a width, its open line fits (own)
abbrev pub OpenFits : Option ℕ → List Spot → Type 0
OpenFits None group = Unit {0}
OpenFits (Some width) group = line_fits width (after_last is_break (filled (Some width) group)) ≡ true

-- the open line of each group of an area fits (own)
abbrev pub AllOpenFit : Option ℕ → List Spot → Type 0
AllOpenFit fill area = (just : ℕ) → OpenFits fill (in_group just area)
