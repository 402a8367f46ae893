-- A run: characters after one with the same attributes, which only lengthen their segment.
use Rattle.std.specs.Prelude.{◌≡◌, ℕ, ◌+◌, ◌-◌, ◌≤◌, Bool, true, false, ◌&&◌, ◌==◌, nat_le, nat_lt, List, Some, length, slice_range, if◌then◌else◌}
use Rattle.std.specs.List.{All}
use Rattle.std.specs.Option.{option_map_or, unwrap_or}
use Rattle.multi_token.specs.Spelling.{IsPlain}
use Rattle.multi_tag.specs.declared.just.LineJust.{LineJust}
use Rattle.multi_tag.specs.Just.{line_number, page_number}
use Rattle.sign_font.specs.declared.font.FontInfo.{FontInfo}
use Rattle.sign_font.specs.Sign.{FontData, SignData}
use Rattle.sign_font.specs.Text.{AreWidthsOf, HasWidth, width_in}
use Rattle.multi_meaning.specs.Fit.{fit}
use Rattle.multi_meaning.specs.Line.{average}
use Rattle.multi_judge.specs.declared.area.Area.{Area}
use Rattle.multi_judge.specs.declared.area.Group.{Group}
use Rattle.multi_judge.specs.declared.line.Line.{Line}
use Rattle.multi_judge.specs.declared.state.State.{State}
use Rattle.multi_judge.specs.internal.State.{IsLimited}
use Rattle.multi_judge.specs.internal.Sums.{counted, held}

-- the width of the characters with a line justification, by what is kept of the line: left 2, centre 3, right 4, full 5 (own)
abbrev pub kept_width : ℕ → Line → ℕ
kept_width just line =
    if just
    == line.present then line.part.width else
    (if just == 2 then line.left else (if just == 3 then line.centre else (if just == 4 then line.right else 0)))

-- a line fits a width, by what is kept of it (own)
abbrev pub kept_fits : ℕ → Line → Bool
kept_fits width line = fit (kept_width 2 line) (kept_width 3 line) (kept_width 4 line) width && nat_le (kept_width 5 line) width

-- the pixels between the last ended line of a group and its present one, by what is kept of them (own)
abbrev pub kept_gap : Group → ℕ
kept_gap group = option_map_or (λ ended. unwrap_or ended.gap (average ended.spacing group.line.spacing)) group.last 0

-- the height of a group, by what is kept of it (own)
abbrev pub kept_height : Group → ℕ
kept_height group =
    if group.line.any
    then held (group.closed + (kept_gap group + group.line.height))
    else group.closed

-- by what is kept, the present segment and the present group have at most what they may have (own)
abbrev pub is_within : State → Bool
is_within state = nat_le state.area.group.line.part.width state.limits.width && nat_le (kept_height state.area.group) state.limits.height

-- a line whose present segment has this width and number of characters (own)
abbrev pub lengthened_line : ℕ → ℕ → Line → Line
lengthened_line width count line = record line { part = record line.part { width = width; count = count } }

-- by what is kept of a line, its segments before the present one fit a width (own)
abbrev pub FitsBefore : ℕ → Line → Type 0
FitsBefore width line = kept_fits width (lengthened_line 0 0 line) ≡ true

-- by what is kept of a line, a character with a line justification may stand on it (own)
abbrev pub IsOpen : LineJust → Line → Type 0
IsOpen just line = (line.present ≤ line_number just) × (line_number just ≡ 5 → line.has_parts ≡ false)

-- the last character of a line has this line justification and font (own)
pub record IsBehindOne (just : LineJust) (font : FontInfo) (line : Line) : Type 0 where
  pub segment : line.present ≡ line_number just
  pub parts : line.has_parts ≡ nat_lt (line_number just) 5
  pub any : line.any ≡ true
  pub height : font.height ≤ line.height
  pub spacing : font.line_spacing ≤ line.spacing
  pub last : line.part.last ≡ Some font.char_spacing

-- a group whose present segment has this width and number of characters (own)
abbrev pub lengthened_group : ℕ → ℕ → Group → Group
lengthened_group width count group = record group { line = lengthened_line width count group.line }

-- an area whose present segment has this width and number of characters (own)
abbrev pub lengthened_area : ℕ → ℕ → Area → Area
lengthened_area width count area = record area { group = lengthened_group width count area.group }

-- a state whose present segment has this width and number of characters (own)
abbrev pub lengthened : ℕ → ℕ → State → State
lengthened width count state = record state { area = lengthened_area width count state.area }

-- the line in force (own)
abbrev pub line_in_force : State → Line
line_in_force state = state.area.group.line

-- a state whose present segment has so many more pixels and characters (own)
abbrev pub lengthened_by : ℕ → ℕ → State → State
lengthened_by pixels count state =
    lengthened (held ((line_in_force state).part.width + pixels)) (counted ((line_in_force state).part.count + count)) state

-- the last character was put into the present area with the attributes in force (own)
pub record IsBehindCharacter (state : State) : Type 0 where
  pub group : state.area.present ≡ page_number state.attributes.page_just
  pub line : IsBehindOne state.attributes.line_just state.attributes.font (line_in_force state)

-- the gap in force before one more character, in pixels (own)
abbrev pub gap_here : State → ℕ
gap_here state = unwrap_or state.attributes.spacing state.attributes.font.char_spacing

-- a character here has the attributes of the one before it, so that it only lengthens their segment: by its width and this gap; the limits
-- are known, and the present group is within its own (own)
pub record IsRun (state : State) (gap : ℕ) : Type 0 where
  pub behind : IsBehindCharacter state
  pub gap_is : gap ≡ gap_here state
  pub narrow : gap ≤ 255
  pub limited : IsLimited state
  pub height : nat_le (kept_height state.area.group) state.limits.height ≡ true

-- what is so for each sign in whose font with this number the octets have the widths that they have in this font (own)
abbrev pub InEachSign : FontData → ℕ → (SignData → Type 0) → Type 0
InEachSign cells font claim = (sign : SignData) → AreWidthsOf sign font cells → claim sign

-- the octets between two offsets are characters that lengthen the segment of the one before them, by these pixels: where what is there is
-- within its limits, it still is with them, and the new state is the old one with them (own)
pub record IsRunPassed (sign : SignData) (octets : List ℕ) (at : ℕ) (pixels : ℕ) (state : State) (at' : ℕ) (state' : State) : Type 0 where
  pub gap : ℕ
  pub forward : at ≤ at'
  pub within : at' ≤ length octets
  pub plain : All IsPlain (slice_range octets at at')
  pub width : HasWidth (width_in sign state.attributes.font.number) gap (slice_range octets at at') pixels
  pub gap_is : gap ≡ gap_here state
  pub narrow : gap ≤ 255
  pub run : is_within state ≡ true → IsRun state gap × ((line_in_force state).part.width + pixels ≤ state.limits.width)
  pub is : state' ≡ lengthened_by pixels (at' - at) state
