-- The codes of warnings.
use Rattle.std.specs.Prelude.{ℕ, ◌-◌, Bool, true, false, List, [], ◌∷◌, Option, None, Some, codes, slice_get}
use Rattle.message_words.specs.declared.code.WarningCode.{WarningCode}
use Rattle.message_words.specs.declared.code.WarningCode.TheVariants.{AllFlashes, AnyVersion, CoveredText, DarkPage, EndlessFlash, FastFlash, IdleOff, LongDark, LongText, ManyPages, NoColours, OpenFlash, OverText, RapidFlash, SameColour, ShortPage, SpaceAtBegin, SpaceAtEnd, UnlitText}

-- the number of a code, which counts from 1 (own)
abbrev pub code_number : WarningCode → ℕ
code_number LongText = 1
code_number IdleOff = 2
code_number ShortPage = 3
code_number LongDark = 4
code_number SpaceAtEnd = 5
code_number SpaceAtBegin = 6
code_number NoColours = 7
code_number FastFlash = 8
code_number RapidFlash = 9
code_number EndlessFlash = 10
code_number OpenFlash = 11
code_number AllFlashes = 12
code_number ManyPages = 13
code_number AnyVersion = 14
code_number DarkPage = 15
code_number UnlitText = 16
code_number CoveredText = 17
code_number SameColour = 18
code_number OverText = 19

-- a code as people and programs read it (own)
abbrev pub code_text : WarningCode → List ℕ
code_text LongText = codes "W01"
code_text IdleOff = codes "W02"
code_text ShortPage = codes "W03"
code_text LongDark = codes "W04"
code_text SpaceAtEnd = codes "W05"
code_text SpaceAtBegin = codes "W06"
code_text NoColours = codes "W07"
code_text FastFlash = codes "W08"
code_text RapidFlash = codes "W09"
code_text EndlessFlash = codes "W10"
code_text OpenFlash = codes "W11"
code_text AllFlashes = codes "W12"
code_text ManyPages = codes "W13"
code_text AnyVersion = codes "W14"
code_text DarkPage = codes "W15"
code_text UnlitText = codes "W16"
code_text CoveredText = codes "W17"
code_text SameColour = codes "W18"
code_text OverText = codes "W19"

-- a code is among those that are told, which are listed by their numbers (own)
abbrev pub is_told : List Bool → WarningCode → Bool
is_told told code = of (slice_get told (code_number code - 1))
  where
    of : Option Bool → Bool
    of None = false
    of (Some is) = is

-- definitions decide where warnings of this code stand; the others are found by drawing pages (own)
abbrev pub is_decided : WarningCode → Bool
is_decided DarkPage = false
is_decided UnlitText = false
is_decided CoveredText = false
is_decided SameColour = false
is_decided OverText = false
is_decided _ = true

-- the codes of which definitions decide, in the order in which they are told (own)
abbrev pub decided_codes : List WarningCode
decided_codes =
    LongText ∷ IdleOff ∷ ShortPage ∷ LongDark ∷ SpaceAtEnd ∷ SpaceAtBegin ∷ NoColours ∷ FastFlash ∷ RapidFlash ∷ EndlessFlash ∷ OpenFlash
    ∷ AllFlashes ∷ ManyPages ∷ AnyVersion ∷ []
