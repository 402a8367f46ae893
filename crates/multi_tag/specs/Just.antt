-- Justifications and their numbers.
use Rattle.std.specs.Prelude.{ℕ, ◌==◌, if◌then◌else◌}
use Rattle.multi_tag.specs.declared.just.LineJust.{LineJust}
use Rattle.multi_tag.specs.declared.just.LineJust.TheVariants.{Left, Centre, Right, Full}
use Rattle.multi_tag.specs.declared.just.PageJust.{PageJust}
use Rattle.multi_tag.specs.declared.just.PageJust.TheVariants.{Top, Middle, Bottom}

-- the number that stands for a line justification (NTCIP 1203 v03, MULTI tag 'jl')
abbrev pub line_number : LineJust → ℕ
line_number Left = 2
line_number Centre = 3
line_number Right = 4
line_number Full = 5

-- the number that stands for a page justification (NTCIP 1203 v03, MULTI tag 'jp')
abbrev pub page_number : PageJust → ℕ
page_number Top = 2
page_number Middle = 3
page_number Bottom = 4

-- the line justification that a number from 2 to 5 stands for (NTCIP 1203 v03, MULTI tag 'jl')
abbrev pub line_just_of : ℕ → LineJust
line_just_of number = if number == 2 then Left else if number == 3 then Centre else if number == 4 then Right else Full

-- the page justification that a number from 2 to 4 stands for (NTCIP 1203 v03, MULTI tag 'jp')
abbrev pub page_just_of : ℕ → PageJust
page_just_of number = if number == 2 then Top else if number == 3 then Middle else Bottom
