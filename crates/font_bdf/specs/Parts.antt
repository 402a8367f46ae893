-- Lines and parts of lines, wherever they stand in memory.
use Rattle.std.specs.Prelude.{ℕ, ◌+◌, length, List, [], map, Option, None, Some}
use Rattle.std.specs.Borrow.{Bor}
use Rattle.std.specs.List.{slice_split}
use Rattle.font_bdf.specs.Lines.{is_blank, words}

-- lines, wherever they stand in memory (own)
abbrev pub texts : List (Bor (List ℕ)) → List (List ℕ)
texts lines = map (λ line. line.now) lines

-- parts of lines, wherever they stand in memory (own)
abbrev pub blocks_of : List (Bor (List (Bor (List ℕ)))) → List (List (List ℕ))
blocks_of blocks = map (λ block. texts block.now) blocks

-- the parts between blanks of what is left of a line, none where nothing is left (own)
abbrev pub parts_of : Option (List ℕ) → List (List ℕ)
parts_of None = []
parts_of (Some text) = slice_split is_blank text

-- the words of what is left of a line (own)
abbrev pub words_of : Option (List ℕ) → List (List ℕ)
words_of None = []
words_of (Some text) = words text

-- more than the octets of what is left of a line, 0 where nothing is left (own)
abbrev pub length_of : Option (List ℕ) → ℕ
length_of None = 0
length_of (Some text) = length text + 1
