-- The running sums of an area: what is kept of its items, in place of the items.
use Rattle.std.specs.Prelude.{◌≡◌, ℕ, ◌-◌, ◌^◌, ◌%◌, true, min, nat_lt, List, length, Option, None, if◌then◌else◌}
use Rattle.std.specs.List.{filter_map, last_or, list_any, after_last}
use Rattle.std.specs.Option.{option_map}
use Rattle.multi_tag.specs.Just.{line_number, page_number}
use Rattle.sign_font.specs.declared.font.FontInfo.{FontInfo}
use Rattle.sign_font.specs.Sign.{info_of}
use Rattle.multi_meaning.specs.Address.{Spot, Break, is_glyph, is_break, segment, in_group, lines_of}
use Rattle.multi_meaning.specs.Line.{line_height, line_spacing, given_gap, glyph_width, width_of, height_of}
use Rattle.multi_meaning.specs.Words.{largest}
use Rattle.multi_meaning.specs.internal.Present.{ended_lines}
use Rattle.multi_tag.specs.declared.just.LineJust.{LineJust}
use Rattle.multi_judge.specs.declared.line.Segment.{Segment}
use Rattle.multi_judge.specs.declared.line.Line.{Line}
use Rattle.multi_judge.specs.declared.area.Ended.{Ended}
use Rattle.multi_judge.specs.declared.area.Group.{Group}
use Rattle.multi_judge.specs.declared.area.Area.{Area}

-- what is kept of a width or a height: the largest number of 32 bits in place of a larger one (own)
abbrev pub held : ℕ → ℕ
held n = min n (2 ^ 32 - 1)

-- what is kept of a count: its last 64 bits. It is looked up, and never compared with a limit (own)
abbrev pub counted : ℕ → ℕ
counted n = n % 2 ^ 64

-- the width of a line's characters with one line justification, how many they are, and the spacing of the last one's font (own)
abbrev pub segment_sum : ℕ → List Spot → Segment
segment_sum just line = record {
  width = held (width_of (segment just line));
  count = counted (length (segment just line));
  last = option_map (λ t. t.at.font.char_spacing) (last_or None (segment just line));
}

-- the width of a line's characters with a line justification before that of the present segment (own)
abbrev pub width_before : ℕ → ℕ → List Spot → ℕ
width_before present just line = if nat_lt just present then held (width_of (segment just line)) else 0

-- the sums of a line of characters whose present segment has this line justification: the widths of the segments before it,
-- that segment, whether a character isn't full, the line's height and spacing, and whether there is a character (own)
abbrev pub line_sum_in : ℕ → List Spot → Line
line_sum_in present line = record {
  present = present;
  left = width_before present 2 line;
  centre = width_before present 3 line;
  right = width_before present 4 line;
  part = segment_sum present line;
  has_parts = list_any (λ t. nat_lt (line_number t.at.line_just) 5) line;
  height = line_height line;
  spacing = line_spacing line;
  any = list_any is_glyph line;
}

-- the sums of a line of characters, whose present segment is that with the largest line justification (own)
abbrev pub line_sum : List Spot → Line
line_sum line = line_sum_in (largest (λ t. line_number t.at.line_just) line) line

-- the gap that a line's `nl` gave, and the line's spacing (own)
abbrev pub ended_sum : List Spot → Ended
ended_sum line = record { gap = last_or None (filter_map given_gap line); spacing = line_spacing line }

-- the sums of a group: how many lines are ended, their height with the gaps between them, the last of them, and the present line (own)
abbrev pub group_sum : List Spot → Group
group_sum group = record {
  ended = counted (length (ended_lines group));
  closed = held (height_of (ended_lines group));
  last = option_map ended_sum (last_or None (ended_lines group));
  line = line_sum (after_last is_break group);
}

-- the height of the group with a page justification before that of the present one (own)
abbrev pub height_before : ℕ → ℕ → List Spot → ℕ
height_before present just area = if nat_lt just present then held (height_of (lines_of (in_group just area))) else 0

-- the sums of an area whose present group has this page justification: the heights of the groups before it, and that group (own)
abbrev pub area_sum_in : ℕ → List Spot → Area
area_sum_in present area = record {
  present = present;
  top = height_before present 2 area;
  middle = height_before present 3 area;
  group = group_sum (in_group present area);
}

-- the sums of an area, whose present group is that with the largest page justification of its items (own)
abbrev pub area_sum : List Spot → Area
area_sum area = area_sum_in (largest (λ t. page_number t.at.page_just) area) area

-- a character, as its line sees it: what is in force for it, and the columns of its cell (own)
pub record Character : Type 0 where
  pub just : LineJust
  pub spacing : Option ℕ
  pub width : ℕ
  pub font : FontInfo

-- these are the numbers of a character that its line is judged by (own)
pub record IsCharacter (s : Spot) (character : Character) : Type 0 where
  pub glyph : is_glyph s ≡ true
  pub just : character.just ≡ s.at.line_just
  pub spacing : character.spacing ≡ s.at.spacing
  pub width : character.width ≡ glyph_width s
  pub font : character.font ≡ info_of s.at.font

-- this is the end of a line, with the gap that it gives and the numbers of the font in force (NTCIP 1203 v03, MULTI tag 'nl')
pub record IsBreak (s : Spot) (gap : Option ℕ) (info : FontInfo) : Type 0 where
  pub put : s.put ≡ Break gap
  pub font : info ≡ info_of s.at.font
