-- Lines filled by words: characters that are too wide for a line are broken at spaces (NTCIP 1203 v03, MULTI; how is own).
use Rattle.std.specs.Prelude.{ℕ, zero, suc, ◌+◌, Bool, false, ◌==◌, List, [], ◌∷◌, ◌++◌, length, take, drop, Option, Some, None, if◌then◌else◌}
use Rattle.std.specs.List.{filter, flat_map, last_or}
use Rattle.std.specs.Option.{unwrap_or, option_map, option_map_or}
use Rattle.multi_meaning.specs.Address.{Spot, Put, Glyph, Break, is_glyph, is_break}
use Rattle.multi_meaning.specs.Fit.{line_fits}
use Rattle.multi_meaning.specs.Words.{each_after, cut_behind}

-- WORDS ON LISTS

-- the prefixes of a list, the shortest first (own)
abbrev pub prefixes : {X : Type 0} → List X → List (List X)
prefixes xs = [] ∷ each_after (λ before x. before ++ x ∷ []) xs

-- the longest prefix of a list that passes p; none of it where no prefix does (own)
abbrev pub longest_prefix : {X : Type 0} → (List X → Bool) → List X → List X
longest_prefix p xs = unwrap_or (last_or None (filter p (prefixes xs))) []

-- a list that is cut at one of its items (own)
pub record CutAt (X : Type 0) : Type 0 where
  pub before : List X
  pub item : X
  pub behind : List X

-- a list, cut at its last item that passes p (own)
abbrev pub cut_at_last : {X : Type 0} → (X → Bool) → List X → Option (CutAt X)
cut_at_last p [] = None
cut_at_last p (x ∷ xs) =
    option_map_or (λ c. Some (record c { before = x ∷ c.before })) (cut_at_last p xs)
    (if p x then Some (record { before = []; item = x; behind = xs }) else None)

-- a cut list with more items after it (own)
abbrev pub longer : {X : Type 0} → List X → CutAt X → CutAt X
longer more c = record c { behind = c.behind ++ more }

-- FILLING

-- a space: the character 32 (own)
abbrev pub is_space : Spot → Bool
is_space spot = of spot.put
  where
    of : Put → Bool
    of (Glyph cell) = cell.number == 32
    of _ = false

-- a space that is dropped ends its line as an `nl` without a number does, and covers nothing (own)
abbrev pub dropped : Spot → Spot
dropped space = record space { put = Break None }

-- where characters that don't fit one line are broken: at the last space among the longest prefix that fits and the
-- character after it; so where that character is a space it is this one, and else the last space that fits (own)
abbrev pub soft_break : ℕ → List Spot → Option (CutAt Spot)
soft_break width characters =
    let most = length (longest_prefix (line_fits width) characters) + 1 in
    if line_fits width characters then None
    else option_map (longer (drop most characters)) (cut_at_last is_space (take most characters))

-- the characters with a line broken off, where they are broken, and the rest filled in the same way (own)
abbrev pub broken_off : (List Spot → List Spot) → List Spot → Option (CutAt Spot) → List Spot
broken_off fill characters None = characters
broken_off fill characters (Some c) = c.before ++ dropped c.item ∷ fill c.behind

-- characters between hard breaks with at most n lines broken off (own)
abbrev pub fill : ℕ → ℕ → List Spot → List Spot
fill zero width characters = characters
fill (suc n) width characters = broken_off (fill n width) characters (soft_break width characters)

-- a line that an `nl` ends or that is its group's last, filled; the `nl` stays after its characters (own)
abbrev pub filled_line : ℕ → List Spot → List Spot
filled_line width line = fill (length (filter is_glyph line)) width (filter is_glyph line) ++ filter is_break line

-- a group with each line filled to a width, if lines are filled; where characters are too wide and have no space to be broken
-- at they stay on one line, which doesn't fit (own)
abbrev pub filled : Option ℕ → List Spot → List Spot
filled None group = group
filled (Some width) group = flat_map (filled_line width) (cut_behind is_break group)
