-- Which spaces of a string take room at the ends of its lines.
use Rattle.std.specs.Prelude.{ℕ, Bool, true, false, not, ◌&&◌, ◌||◌, ◌==◌, nat_lt, List, [], ◌∷◌, ◌++◌, length, Option, None, Some, if◌then◌else◌}
use Rattle.std.specs.List.{after_last, filter, filter_map, last_or, list_any}
use Rattle.std.specs.Option.{unwrap_or}
use Rattle.sign_font.specs.declared.parts.Defaults.{Defaults}
use Rattle.multi_tag.specs.Just.{line_number}
use Rattle.multi_tag.specs.declared.tag.Tag.{Tag}
use Rattle.multi_tag.specs.declared.tag.Tag.TheVariants.{HexChar, LineJust, NewLine, NewPage, Rect}
use Rattle.multi_meaning.specs.Words.{some_after}
use Rattle.message_words.specs.OnItems.{is_letter}
use Rattle.message_words.specs.declared.lines.LineText.{LineText}
use Rattle.message_words.specs.declared.said.Said.{Said}

-- an item ends a line (NTCIP 1203 v03, MULTI tags 'nl', 'np' and 'tr')
abbrev pub ends_line : Option Tag → Bool
ends_line (Some NewPage) = true
ends_line (Some (NewLine gap)) = true
ends_line (Some (Rect x y w h)) = true
ends_line _ = false

-- an item shows a character (NTCIP 1203 v03, MULTI)
abbrev pub is_character : Option Tag → Bool
is_character (Some (HexChar number)) = true
is_character _ = false

-- the number of the justification that an item sets, if it sets one (NTCIP 1203 v03, MULTI tag 'jl')
abbrev pub just_set : Defaults → Option Tag → Option ℕ
just_set defaults (Some (LineJust None)) = Some defaults.line
just_set defaults (Some (LineJust (Some just))) = Some (line_number just)
just_set defaults _ = None

-- the one in force after some items (NTCIP 1203 v03, MULTI tag 'jl')
abbrev pub just_after : Defaults → List Said → ℕ
just_after defaults before = unwrap_or (last_or None (filter_map (λ (s : Said). just_set defaults s.tag) before)) defaults.line

-- the characters of the line on which some items end (own)
abbrev pub line_after : List Said → List Said
line_after before = filter (λ (s : Said). is_character s.tag) (after_last (λ (s : Said). ends_line s.tag) before)

-- where the first of some characters stands (own)
abbrev pub first_place : List Said → Option ℕ
first_place [] = None
first_place (s ∷ more) = Some s.at

-- a line has a character that is no space (own)
abbrev pub has_letters : List Said → Bool
has_letters line = list_any (λ (s : Said). is_letter s.tag) line

-- the space with which a line begins, if it does (own)
abbrev pub lead_of : List Said → Option ℕ
lead_of [] = None
lead_of (s ∷ more) = if is_letter s.tag then None else Some s.at

-- the first of the spaces with which a line ends, if it has other characters (own)
abbrev pub trail_of : List Said → Option ℕ
trail_of line = if has_letters line then first_place (after_last (λ (s : Said). is_letter s.tag) line) else None

-- the line on which some items end (own)
abbrev pub text_after : Defaults → List Said → LineText
text_after defaults before = record {
  lead = lead_of (line_after before);
  trail = trail_of (line_after before);
  is_empty = length (line_after before) == 0;
  has_letters = has_letters (line_after before);
  just = just_after defaults before;
}

-- a line with one more character, which is a letter or a space (own)
abbrev pub with_character : LineText → Bool → ℕ → LineText
with_character line letter at = record {
  lead = if line.is_empty && not letter then Some at else line.lead;
  trail = if letter || not line.has_letters then None else Some (unwrap_or line.trail at);
  is_empty = false;
  has_letters = line.has_letters || letter;
  just = line.just;
}

-- the lines that an item ends (own)
abbrev pub ended_texts : Defaults → List Said → List LineText
ended_texts defaults said = some_after (λ before (s : Said). if ends_line s.tag then Some (text_after defaults before) else None) said

-- the lines of a string (own)
abbrev pub line_texts : Defaults → List Said → List LineText
line_texts defaults said = ended_texts defaults said ++ text_after defaults said ∷ []

-- a space that moves a line: the one with which it begins, if it has letters and doesn't end on the right (4); or the first of those with
-- which it ends, if it doesn't begin on the left (2) (own)
abbrev pub moved_by : Bool → LineText → Option ℕ
moved_by false line = if line.has_letters && not (line.just == 4) then line.lead else None
moved_by true line = if nat_lt 2 line.just then line.trail else None

-- where spaces at the beginnings of lines move them, or those at their ends (own)
abbrev pub moving_spaces : Bool → Defaults → List Said → List ℕ
moving_spaces at_end defaults said = filter_map (moved_by at_end) (line_texts defaults said)
