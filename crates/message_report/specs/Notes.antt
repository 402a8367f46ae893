-- What is told beside the verdict and the pictures, line by line: each line has a head of its own, or begins as a verdict does only if the
-- message does.
use Rattle.std.specs.Prelude.{◌≡◌, ℕ, ◌&&◌, ◌==◌, Bool, true, false, nat_lt, List, [], ◌∷◌, ◌++◌, codes, decimal, replicate, if◌then◌else◌}
use Rattle.sign_font.specs.Sign.{SignData}
use Rattle.multi_meaning.specs.Meaning.{meanings}
use Rattle.multi_meaning.specs.Times.{cycle, page_times}
use Rattle.message_words.specs.Codes.{code_text}
use Rattle.message_words.specs.declared.warnings.Warning.{Warning}
use Rattle.message_report.specs.Words.{IsOneLine}
use Rattle.message_report.specs.declared.picture.Picture.{Picture}
use Rattle.message_report.specs.declared.picture.Picture.TheVariants.{Blocks, Marks}

-- what the marks of pictures mean, on a classic sign or on a monochrome one, as a line; colours have no marks (own)
abbrev pub marks_text : Picture → Bool → List ℕ
marks_text Marks true =
    codes "colours: 1 red, 2 yellow, 3 green, 4 cyan, 5 blue, 6 magenta, 7 white, 8 orange, 9 amber, . black\n"
marks_text Marks false = codes "pixels: 1 lit, . dark\n"
marks_text Blocks classic = []

-- a string of several pages shows page 1 all the time if all times are 0 (NTCIP 1203 v03, MULTI tag 'pt'; that it is page 1 is own)
abbrev pub is_still : SignData → List ℕ → ℕ → Bool
is_still sign octets pages = nat_lt 1 pages && (cycle (page_times sign (meanings octets)) == 0)

-- a line that says so (own)
abbrev pub still_text : Bool → List ℕ
still_text still = if still then codes "all times are 0, so page 1 is shown all the time\n" else []

-- a line that says that text flashes, and at which phase it is drawn (own)
abbrev pub flash_text : ℕ → List ℕ
flash_text phase =
    codes "text flashes, and is drawn as it is " ++ decimal phase ++ codes " tenths of a second after its page began\n"

-- such a line if text flashes (own)
abbrev pub flashing_text : Bool → ℕ → List ℕ
flashing_text flashes phase = if flashes then flash_text phase else []

-- the lines after the pages: what their marks mean, and what pictures don't show (own)
abbrev pub legend_text : Picture → Bool → Bool → Bool → ℕ → List ℕ
legend_text picture classic still flashes phase = marks_text picture classic ++ still_text still ++ flashing_text flashes phase

-- the line of a warning: the octet where it stands, counted from 0, words, and its code (own)
unfoldable pub warned_text : ℕ → List ℕ → List ℕ → List ℕ
warned_text at code words = codes "warning at octet " ++ decimal at ++ codes ": " ++ words ++ codes " (" ++ code ++ codes ")\n"

-- a text is the lines of these warnings, in their order (own)
abbrev pub AreWarned : List Warning → List ℕ → Type 0
AreWarned [] text = text ≡ []
AreWarned (warning ∷ warnings) text = (words rest : List ℕ) × IsOneLine words × AreWarned warnings rest
    × (text ≡ warned_text warning.at (code_text warning.code) words ++ rest)

-- the octet with which what is shown of a refused message begins, as a line, unless it is the first one (own)
unfoldable pub from_text : ℕ → List ℕ
from_text first = if nat_lt 0 first then codes "from octet " ++ decimal first ++ codes ":\n" else []

-- a caret after some spaces, as a line (own)
unfoldable pub caret_text : ℕ → List ℕ
caret_text before = replicate before 32 ++ codes "^\n"
