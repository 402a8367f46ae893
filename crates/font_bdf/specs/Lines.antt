-- The lines of a font in BDF, and their words.
use Rattle.std.specs.Prelude.{ℕ, ◌+◌, ◌||◌, ◌==◌, not, Bool, List, [], drop, length, slice_index_or, take, Option, None, Some}
use Rattle.std.specs.List.{filter, position, slice_split}
use Rattle.std.specs.Option.{option_map}
use Rattle.std.specs.Str.{bytes_eq}

-- what comes next is read from what was read, where something was (own)
infixl 10 ◌>>=◌
abbrev pub ◌>>=◌ : {A B : Type 0} → Option A → (A → Option B) → Option B
None >>= next = None
(Some x) >>= next = next x

-- a line feed, octet 10, ends each line (BDF)
unfoldable pub lines : List ℕ → List (List ℕ)
lines octets = slice_split (λ octet. octet == 10) octets

-- a space, a tab and a carriage return, octets 32, 9 and 13, stand between words (BDF)
abbrev pub is_blank : ℕ → Bool
is_blank octet = octet == 32 || (octet == 9 || octet == 13)

-- the words of a line are what stands between its blanks (BDF)
unfoldable pub words : List ℕ → List (List ℕ)
words line = filter (λ word. not (length word == 0)) (slice_split is_blank line)

-- the word at a place among the words of a line, counted from 0, empty where there is none (own)
abbrev pub word_at : ℕ → List ℕ → List ℕ
word_at place line = slice_index_or (words line) place []

-- whether a line begins with a word (BDF)
unfoldable pub begins : List ℕ → List ℕ → Bool
begins word line = bytes_eq (word_at 0 line) word

-- the lines before the first one that begins with a word, where there is one (own)
unfoldable pub before : List ℕ → List (List ℕ) → Option (List (List ℕ))
before word lines = option_map (λ place. take place lines) (position (begins word) lines)

-- the lines after the first one that begins with a word, where there is one (own)
unfoldable pub after : List ℕ → List (List ℕ) → Option (List (List ℕ))
after word lines = option_map (λ place. drop (place + 1) lines) (position (begins word) lines)
