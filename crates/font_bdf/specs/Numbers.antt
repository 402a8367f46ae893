-- The numbers that the words of a line write.
use Rattle.std.specs.Prelude.{ℕ, ◌&&◌, ◌==◌, nat_le, List, [], ◌∷◌, length, if◌then◌else◌, Option, None, Some, ℤ, pos, negsuc, neg_ℤ}
use Rattle.std.specs.List.{find, list_all}
use Rattle.std.specs.Option.{option_map}
use Rattle.std.specs.Str.Parse.{digits_value}
use Rattle.font_bdf.specs.declared.numbers.PixelBox.{PixelBox}
use Rattle.octet_text.specs.Digits.{is_digit}
use Rattle.font_bdf.specs.Lines.{◌>>=◌, begins, word_at}

-- the number that 1 to 9 decimal digits write (own)
abbrev pub natural_of : List ℕ → Option ℕ
natural_of digits =
    if nat_le 1 (length digits) && nat_le (length digits) 9 && list_all is_digit digits then Some (digits_value 10 digits) else None

-- the number that a word writes: digits, and `-`, octet 45, before them if it is below 0 (own)
unfoldable pub number_of : List ℕ → Option ℤ
number_of [] = None
number_of (c ∷ cs) = if c == 45 then option_map (λ size. neg_ℤ (pos size)) (natural_of cs) else option_map pos (natural_of (c ∷ cs))

-- a number as a count, where it is from a lowest to a highest (own)
abbrev pub within : ℕ → ℕ → ℤ → Option ℕ
within low high (pos count) = if nat_le low count && nat_le count high then Some count else None
within low high (negsuc below) = None

-- the number that the word of a line at a place writes (own)
abbrev pub number_at : ℕ → List ℕ → Option ℤ
number_at place line = number_of (word_at place line)

-- the box of four numbers after the first word: columns, rows, and how far it is to the right of the origin and above the base
-- line (BDF, FONTBOUNDINGBOX and BBX)
unfoldable pub box_of : List ℕ → Option PixelBox
box_of line = do
  width ← number_at 1 line
  height ← number_at 2 line
  x ← number_at 3 line
  y ← number_at 4 line
  Some (record { width = width; height = height; x = x; y = y })

-- the number on the first of these lines that begins with a word (BDF, ENCODING and DWIDTH)
unfoldable pub number_in : List ℕ → List (List ℕ) → Option ℤ
number_in word lines = find (begins word) lines >>= number_at 1

-- the box on the first of these lines that begins with a word (BDF, FONTBOUNDINGBOX and BBX)
unfoldable pub box_in : List ℕ → List (List ℕ) → Option PixelBox
box_in word lines = find (begins word) lines >>= box_of
