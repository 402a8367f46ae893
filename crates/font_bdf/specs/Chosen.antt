-- What a setting asks for: which characters, and how wide their cells are.
use Rattle.std.specs.Prelude.{ℕ, ◌&&◌, nat_le, Bool, List, if◌then◌else◌, Option, None, Some, ℤ, pos, ◌-ℤ◌}
use Rattle.std.specs.List.{list_any}
use Rattle.font_bdf.specs.declared.setting.CharacterRange.{CharacterRange}
use Rattle.font_bdf.specs.declared.setting.FontSetting.{FontSetting}
use Rattle.font_bdf.specs.Lines.{◌>>=◌}
use Rattle.font_bdf.specs.Numbers.{within}

-- whether a range has a number (own)
abbrev pub has : CharacterRange → ℕ → Bool
has range number = nat_le range.first number && nat_le number range.last

-- whether one of these ranges has a number (own)
abbrev pub is_chosen : List CharacterRange → ℕ → Bool
is_chosen ranges number = list_any (λ range. has range number) ranges

-- the number of a character, from 1 to 65,535, where it is taken (own)
unfoldable pub chosen : FontSetting → ℤ → Option ℕ
chosen setting number = within 1 65535 number >>= λ count. if is_chosen setting.characters.now count then Some count else None

-- the columns by which each cell is narrower than its character's advance, 0 where none are told (own)
abbrev pub spacing_of : FontSetting → ℕ
spacing_of setting = of setting.char_spacing
  where
    of : Option ℕ → ℕ
    of None = 0
    of (Some columns) = columns

-- the columns between two characters that are written: those that are asked for, or else those by which each cell is narrower
-- (NTCIP 1203 v03, object fontCharSpacing)
abbrev pub spacing_written : FontSetting → ℕ
spacing_written setting = of setting.written_spacing
  where
    of : Option ℕ → ℕ
    of None = spacing_of setting
    of (Some columns) = columns

-- the columns of the cell of a character: its advance less those by which it is narrower (BDF, DWIDTH)
abbrev pub width_of : FontSetting → ℤ → ℤ
width_of setting advance = advance -ℤ pos (spacing_of setting)
