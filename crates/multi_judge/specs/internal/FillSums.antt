-- What is kept of an open line where lines are filled: the sums around its last space.
use Rattle.std.specs.Prelude.{◌≡◌, ◌&&◌, ℕ, ◌^◌, ◌<◌, Bool, true, false, nat_lt, List, [], ◌∷◌, ◌++◌, Option, None, Some}
use Rattle.std.specs.List.{All, after_last, list_any}
use Rattle.std.specs.Option.{option_map}
use Rattle.multi_tag.specs.Just.{line_number}
use Rattle.sign_font.specs.Sign.{info_of}
use Rattle.multi_meaning.specs.Address.{Spot, is_break}
use Rattle.multi_meaning.specs.Filling.{CutAt, cut_at_last, filled, is_space}
use Rattle.multi_meaning.specs.Fit.{line_fits}
use Rattle.multi_meaning.specs.Offence.{clashes}
use Rattle.multi_meaning.specs.Words.{largest}
use Rattle.multi_meaning.specs.internal.Present.{IsPlacing, ended_lines}
use Rattle.multi_judge.specs.declared.area.Group.{Group}
use Rattle.multi_judge.specs.declared.fill.Split.{Split}
use Rattle.multi_judge.specs.declared.line.Line.{Line}
use Rattle.multi_judge.specs.internal.Run.{FitsBefore}
use Rattle.multi_judge.specs.internal.Sums.{Character, IsCharacter, group_sum, line_sum}

-- the sums around a space of a line: of the characters before it, its font, and of those after it (own)
abbrev pub parts_sum : CutAt Spot → Split
parts_sum cut = record { before = line_sum cut.before; font = info_of cut.item.at.font; behind = line_sum cut.behind }

-- the sums around a line's last space, if it has one (own)
abbrev pub split_sum : List Spot → Option Split
split_sum line = option_map parts_sum (cut_at_last is_space line)

-- what the order of line justifications is judged by: the largest of the characters, and whether a character isn't full (own)
pub record Order : Type 0 where
  pub largest : ℕ
  pub has_parts : Bool

-- that of characters without a conflict, of which this is the largest: where it isn't full, none is; 0 where there is none (own)
abbrev pub order_of : ℕ → Order
order_of just = record { largest = just; has_parts = nat_lt 0 just && nat_lt just 5 }

-- that of these characters (own)
abbrev pub order_sum : List Spot → Order
order_sum line = record {
  largest = largest (λ t. line_number t.at.line_just) line;
  has_parts = list_any (λ t. nat_lt (line_number t.at.line_just) 5) line;
}

-- a group has the ended lines that it had, or one more, whose characters begin the line that was the present one, and have these sums (own)
abbrev pub EndsLine : List Spot → List Spot → Option Line → Type 0
EndsLine old new None = ended_lines new ≡ ended_lines old
EndsLine old new (Some line) =
    (characters : List Spot) × (end : Spot) × (line ≡ line_sum characters)
    × ((behind : List Spot) × (after_last is_break old ≡ characters ++ behind))
    × (is_break end ≡ true) × (ended_lines new ≡ ended_lines old ++ (characters ++ end ∷ []) ∷ [])

-- a character joins a group whose lines are filled to this width of 16 bits, where these are the sums of the group and of its open line's
-- parts before it: if the open line fits and the character clashes with none of it, then group and split are those with it, the
-- line is ended that is, and the segments before the present one fit (own)
abbrev pub FillsGroup : ℕ → Group → Option Split → Character → Bool → Group → Option Split → Option Line → Type 0
FillsGroup width old split character space new split' ended =
    (group : List Spot) (s : Spot) → width < 2 ^ 16 → All IsPlacing group → IsCharacter s character → is_space s ≡ space
    → line_fits width (after_last is_break (filled (Some width) group)) ≡ true
    → list_any (clashes s) (after_last is_break (filled (Some width) group)) ≡ false
    → old ≡ group_sum (filled (Some width) group) → split ≡ split_sum (after_last is_break (filled (Some width) group))
    → (new ≡ group_sum (filled (Some width) (group ++ s ∷ [])))
    × (split' ≡ split_sum (after_last is_break (filled (Some width) (group ++ s ∷ []))))
    × EndsLine (filled (Some width) group) (filled (Some width) (group ++ s ∷ [])) ended × FitsBefore width new.line
