-- Text where lines are filled: characters that stay on the line of the one before them (own).
use Rattle.std.specs.Prelude.{◌≡◌, ℕ, ◌+◌, ◌-◌, ◌<◌, ◌≤◌, List, length, take, drop, slice_get, Option, Some, None}
use Rattle.std.specs.List.{All}
use Rattle.multi_token.specs.Run.{IsNoSpace}
use Rattle.multi_token.specs.declared.source.Space.{Space}
use Rattle.sign_font.specs.Sound.{IsWithin}
use Rattle.sign_font.specs.Text.{HasWidth}

-- the last space of a text of so many pixels by these widths with this gap before each, with what stands before it and after it (own)
pub record HasLastSpace (width_of : ℕ → Option ℕ) (gap : ℕ) (text : List ℕ) (pixels : ℕ) (space : Space) : Type 0 where
  pub inside : space.at < length text
  pub here : slice_get text space.at ≡ Some 32
  pub none : All IsNoSpace (drop (space.at + 1) text)
  pub width : ℕ
  pub cell : Some width ≡ width_of 32
  pub narrow : IsWithin 1 64 width
  pub before : HasWidth width_of gap (take space.at text) space.before
  pub through : space.through ≡ space.before + (gap + width)
  pub behind : HasWidth width_of gap (drop (space.at + 1) text) (pixels - space.through)
  pub fits : space.through ≤ pixels

-- the last space of a text, or none where it has none (own)
abbrev pub IsLastSpaceOf : (ℕ → Option ℕ) → ℕ → List ℕ → ℕ → Option Space → Type 0
IsLastSpaceOf width_of gap text pixels None = All IsNoSpace text
IsLastSpaceOf width_of gap text pixels (Some space) = HasLastSpace width_of gap text pixels space
