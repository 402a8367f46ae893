-- Words that are appended.
use Rattle.std.specs.Prelude.{◌≡◌, ◌≢◌, ℕ, Bool, true, false, ◌==◌, ◌&&◌, nat_le, List, [], ◌∷◌, ◌++◌, All}

-- some octets are appended of which this holds (own)
abbrev pub GrowsBy : (List ℕ → Type 0) → List ℕ → List ℕ → Type 0
GrowsBy Holds old new = (told : List ℕ) × (new ≡ old ++ told) × Holds told

-- octets are part of one line if none of them is a line feed, octet 10 (own)
abbrev pub IsOneLine : List ℕ → Type 0
IsOneLine words = All (λ c. c ≢ 10) words

-- octets begin as the line of a verdict does: with "line", a space and a digit (own)
abbrev pub is_head : List ℕ → Bool
is_head (l ∷ i ∷ n ∷ e ∷ space ∷ digit ∷ rest) =
    (l == 108) && ((i == 105) && ((n == 110) && ((e == 101) && ((space == 32) && (nat_le 48 digit && nat_le digit 57)))))
is_head _ = false

-- words are one line, which begins as that of a verdict does only if these octets do (own)
abbrev pub IsLineOf : List ℕ → List ℕ → Type 0
IsLineOf octets words = IsOneLine words × (is_head words ≡ true → is_head octets ≡ true)

-- such a line is appended, with its line feed (own)
abbrev pub GrowsByLineOf : List ℕ → List ℕ → List ℕ → Type 0
GrowsByLineOf octets old new = (line : List ℕ) × IsLineOf octets line × (new ≡ old ++ (line ++ 10 ∷ []))

-- octets of a line are appended (own)
abbrev pub GrowsInLine : List ℕ → List ℕ → Type 0
GrowsInLine old new = (line : List ℕ) × IsOneLine line × (new ≡ old ++ line)

-- a line is appended, with its line feed (own)
abbrev pub GrowsByLine : List ℕ → List ℕ → Type 0
GrowsByLine old new = (line : List ℕ) × IsOneLine line × (new ≡ old ++ (line ++ 10 ∷ []))
