-- What drawing keeps of the counted lines of an area, so that each character's place is known when it is met.
use Rattle.std.specs.Prelude.{◌≡◌, ℕ, ◌+◌, ◌-◌, ◌<◌, ◌≤◌, ◌==◌, List, [], ◌∷◌, ◌++◌, length, slice_range, if◌then◌else◌}
use Rattle.multi_tag.specs.Just.{line_number}
use Rattle.multi_meaning.specs.Address.{Spot, segment}
use Rattle.multi_meaning.specs.Line.{height_of, width_of, glyph_width}
use Rattle.multi_meaning.specs.Place.{start, spread}
use Rattle.multi_meaning.specs.Words.{each_after}
use Rattle.multi_judge.specs.declared.table.CountedLine.{CountedLine}

-- what is kept of a line whose group has this height down to the line's bottom: that height, the widths of the line's
-- segments, and how many characters are full (own)
abbrev pub line_entry : List Spot → ℕ → CountedLine
line_entry line bottom = record {
  left = width_of (segment 2 line);
  centre = width_of (segment 3 line);
  right = width_of (segment 4 line);
  full = width_of (segment 5 line);
  characters = length (segment 5 line);
  bottom = bottom;
}

-- what is kept of a counted line after others of its group (own)
abbrev pub counted_line : List (List Spot) → List Spot → CountedLine
counted_line before line = line_entry line (height_of (before ++ line ∷ []))

-- what is kept of the counted lines of a group (own)
abbrev pub table_of : List (List Spot) → List CountedLine
table_of lines = each_after counted_line lines

-- the width of the segment with a line justification: left 2, centre 3, right 4, full 5 (own)
abbrev pub width_in : ℕ → CountedLine → ℕ
width_in just line = if just == 2 then line.left else (if just == 3 then line.centre else (if just == 4 then line.right else line.full))

-- the counted lines of an area: those of the top group, of the middle one and of the bottom one (own)
pub record TableLines : Type 0 where
  pub top : List CountedLine
  pub middle : List CountedLine
  pub bottom : List CountedLine

-- one list of lines, split where those of the middle group begin, and those of the bottom one (own)
abbrev pub split_lines : List CountedLine → ℕ → ℕ → TableLines
split_lines lines middle bottom = record {
  top = slice_range lines 0 middle;
  middle = slice_range lines middle bottom;
  bottom = slice_range lines bottom (length lines);
}

-- the groups of the list are in order (own)
abbrev pub IsOrdered : List CountedLine → ℕ → ℕ → Type 0
IsOrdered lines middle bottom = (middle ≤ bottom) × (bottom ≤ length lines)

-- the counted lines of the group with a page justification: top 2, middle 3, bottom 4 (own)
abbrev pub group_lines : ℕ → TableLines → List CountedLine
group_lines just table = if just == 2 then table.top else (if just == 3 then table.middle else table.bottom)

-- no group has a line (own)
abbrev pub HasNoLine : TableLines → Type 0
HasNoLine table = (just : ℕ) → group_lines just table ≡ []

-- no group after the one with this page justification has a line (own)
abbrev pub HasNoLineBehind : ℕ → TableLines → Type 0
HasNoLineBehind page_just table = (just : ℕ) → page_just < just → just ≤ 4 → group_lines just table ≡ []

-- how many lines a table has (own)
abbrev pub line_count : TableLines → ℕ
line_count table = length table.top + length table.middle + length table.bottom

-- the column of a character after those of its line, by what is kept of the line (own)
abbrev pub column_in : CountedLine → List Spot → Spot → ℕ
column_in line before spot =
    let just = line_number spot.at.line_just in
    let within = spot.at.rectangle in
    let part_before = segment just before in
    within.left + start just within.width (width_in just line)
    + (width_of (part_before ++ spot ∷ []) - glyph_width spot)
    + (if just == 5 then spread (length part_before) line.characters (within.width - width_in just line) else 0)
