-- What fits where lines are not filled.
use Rattle.std.specs.Prelude.{◌≡◌, ℕ, ◌-◌, ◌*◌, ◌/◌, Bool, true, ◌==◌, List, if◌then◌else◌}
use Rattle.multi_meaning.specs.Address.{Spot, area_of, in_group, line_before, lines_of}
use Rattle.multi_meaning.specs.Line.{height_of}
use Rattle.multi_meaning.specs.Fit.{fit, line_fits}

-- an area fits a height: its top, middle and bottom groups stand apart (NTCIP 1203 v03, MULTI tag 'jp')
abbrev pub area_fits : ℕ → List Spot → Bool
area_fits height area =
    fit (height_of (lines_of (in_group 2 area))) (height_of (lines_of (in_group 3 area))) (height_of (lines_of (in_group 4 area))) height

-- the most that a part may have within a length into which those before it fit: in the middle 3, at the end 4, else at the start or
-- alone (own)
abbrev pub room_for : ℕ → ℕ → ℕ → ℕ → ℕ
room_for just start middle length =
    if just == 3 then length - 2 * start
    else (if just == 4 then (if middle == 0 then length - start else (length - middle) - (length - middle) / 2) else length)

-- without a spot the line that it joins and its area fit (own)
abbrev pub FitsWithout : List Spot → Spot → Type 0
FitsWithout before spot =
    (line_fits spot.at.rectangle.width (line_before before spot) ≡ true) × (area_fits spot.at.rectangle.height (area_of spot before) ≡ true)
