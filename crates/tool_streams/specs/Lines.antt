-- The lines of an input.
use Rattle.std.specs.Prelude.{ℕ, Bool, ◌≢◌, ◌==◌, List, [], ◌∷◌, ◌++◌, All, if◌then◌else◌, Option, None, Some, codes}
use Rattle.std.specs.List.{flat_map}
use Rattle.std.specs.Str.{bytes_eq}
use Rattle.std.specs.Io.BufRead.{strip_last}

-- The most octets of an input that are taken as lines (own).
abbrev pub input_limit : ℕ
input_limit = 16777216

-- An input is cut at its line feeds into the octets before each, and those after the last (own).
pub record Cut : Type 0 where
  pub whole : List (List ℕ)
  pub rest : List ℕ

-- An octet other than a line feed belongs to the first line of what follows it (own).
abbrev pub onto_first : ℕ → List (List ℕ) → List ℕ → Cut
onto_first c [] rest = record { whole = []; rest = c ∷ rest }
onto_first c (line ∷ lines) rest = record { whole = (c ∷ line) ∷ lines; rest = rest }

-- A line feed, octet 10, ends a line and belongs to none (own).
unfoldable pub cut : List ℕ → Cut
cut [] = record { whole = []; rest = [] }
cut (c ∷ cs) =
    if c == 10 then record { whole = [] ∷ (cut cs).whole; rest = (cut cs).rest }
    else onto_first c (cut cs).whole (cut cs).rest

-- Octets are part of one line if none of them is a line feed (own).
abbrev pub IsOneLine : List ℕ → Type 0
IsOneLine octets = All (λ c. c ≢ 10) octets

-- The text of a line is the line without the one carriage return, octet 13, at its end (own).
abbrev pub text_of : List ℕ → List ℕ
text_of line = strip_last 13 line

-- The octets of whole lines, each with its line feed (own).
abbrev pub octets_of : List (List ℕ) → List ℕ
octets_of lines = flat_map (λ line. line ++ 10 ∷ []) lines

-- The mark, which ends a sign file, is a line with the text `%%` and no more (own).
abbrev pub is_mark : List ℕ → Bool
is_mark line = bytes_eq (text_of line) (codes "%%")

-- Lines are parted at the first mark into those before it, which are a sign file's, and those after it, if there is
-- a mark (own).
pub record Parted : Type 0 where
  pub file : List (List ℕ)
  pub behind : Option (List (List ℕ))

-- The first mark parts the lines, and is on neither side (own).
unfoldable pub parted : List (List ℕ) → Parted
parted [] = record { file = []; behind = None }
parted (line ∷ lines) =
    if is_mark line then record { file = []; behind = Some lines }
    else record { file = line ∷ (parted lines).file; behind = (parted lines).behind }
