-- A run where lines are filled: characters after one with the same attributes, as long as they stay on its line (own).
use Rattle.std.specs.Prelude.{◌≡◌, ℕ, ◌+◌, ◌-◌, true, ◌==◌, nat_lt, [], Option, Some, None, if◌then◌else◌}
use Rattle.multi_token.specs.declared.source.Space.{Space}
use Rattle.std.specs.Option.{IfSome, option_map}
use Rattle.multi_tag.specs.Just.{line_number}
use Rattle.multi_tag.specs.declared.just.LineJust.{LineJust}
use Rattle.sign_font.specs.declared.font.FontInfo.{FontInfo}
use Rattle.multi_judge.specs.declared.attributes.Attributes.{Attributes}
use Rattle.multi_judge.specs.declared.fill.Split.{Split}
use Rattle.multi_judge.specs.declared.pass.Pass.{Pass}
use Rattle.multi_judge.specs.internal.FillSums.{Order, order_of}
use Rattle.multi_judge.specs.declared.line.Line.{Line}
use Rattle.multi_judge.specs.internal.Sums.{counted, held, line_sum}
use Rattle.multi_judge.specs.internal.Run.{IsBehindCharacter, IsBehindOne, IsOpen, lengthened_line, line_in_force, lengthened_by}

-- the order is that of characters of which the last has this line justification (own)
abbrev pub IsOrderOf : ℕ → Order → Type 0
IsOrderOf just order = (order.largest ≡ just) × (order.has_parts ≡ nat_lt just 5)

-- a character with a line justification may stand on the line, and after its last space (own)
abbrev pub IsOpenAround : LineJust → Line → Option Split → Type 0
IsOpenAround just line split = (line.any ≡ true → IsOpen just line) × IfSome split (λ s. s.behind.any ≡ true → IsOpen just s.behind)

-- the characters after the last space of the line, if there are some, end with one of these attributes (own)
abbrev pub GoesOnBehind : LineJust → FontInfo → Option Split → Type 0
GoesOnBehind just font split = IfSome split (λ s. s.behind.any ≡ true → IsBehindOne just font s.behind)

-- the last character was put into the present area with the attributes in force, and so a character here only lengthens what is kept (own)
pub record IsFilledRun (kept : Pass) : Type 0 where
  pub behind : IsBehindCharacter kept.state
  pub order : IsOrderOf (line_number kept.state.attributes.line_just) (order_of kept.order)
  pub split : GoesOnBehind kept.state.attributes.line_just kept.state.attributes.font kept.split

-- a line whose present segment has so many more pixels and characters (own)
abbrev pub longer_line : ℕ → ℕ → Line → Line
longer_line pixels count line = lengthened_line (held (line.part.width + pixels)) (counted (line.part.count + count)) line

-- a line of no character, begun with so many characters with these attributes, of so many pixels (own)
abbrev pub even_line : Attributes → ℕ → ℕ → Line → Line
even_line here pixels count line = record line {
  present = line_number here.line_just;
  part = record { width = held pixels; count = counted count; last = Some here.font.char_spacing };
  has_parts = nat_lt (line_number here.line_just) 5;
  height = here.font.height;
  spacing = here.font.line_spacing;
  any = true;
}

-- a line with so many more characters with these attributes, of so many pixels with this gap before each: on a line of no character
-- the first one has none (own)
abbrev pub with_run : Attributes → ℕ → ℕ → ℕ → Line → Line
with_run here gap pixels count line =
    if line.any then longer_line pixels count line else (if count == 0 then line else even_line here (pixels - gap) count line)

-- the parts of a line around its last space, with so many more characters after it (own)
abbrev pub with_run_behind : Attributes → ℕ → ℕ → ℕ → Split → Split
with_run_behind here gap pixels count split = record split { behind = with_run here gap pixels count split.behind }

-- what is kept with so many more characters of a run, of so many pixels with this gap before each; none is a space (own)
abbrev pub with_word : ℕ → ℕ → ℕ → Pass → Pass
with_word gap pixels count kept = record {
  state = lengthened_by pixels count kept.state;
  split = option_map (with_run_behind kept.state.attributes gap pixels count) kept.split;
  order = kept.order;
}

-- the parts of a line around its last space, with a run after it of so many pixels and characters with this gap before each, of which this
-- is the last space (own)
abbrev pub split_by : Attributes → ℕ → ℕ → ℕ → Option Space → Line → Option Split → Option Split
split_by here gap pixels count None line split = option_map (with_run_behind here gap pixels count) split
split_by here gap pixels count (Some space) line split = Some (record {
  before = longer_line space.before space.at line;
  font = here.font;
  behind = with_run here gap (pixels - space.through) (count - (space.at + 1)) (line_sum []);
})

-- what is kept with such a run (own)
abbrev pub with_text : ℕ → ℕ → ℕ → Option Space → Pass → Pass
with_text gap pixels count space kept = record {
  state = lengthened_by pixels count kept.state;
  split = split_by kept.state.attributes gap pixels count space (line_in_force kept.state) kept.split;
  order = kept.order;
}
