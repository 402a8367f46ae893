-- The colours of all pixels, written at the front of octets.
use Rattle.std.specs.Prelude.{◌≡◌, ◌≤◌, ◌<◌, ℕ, ◌+◌, ◌*◌, Bool, true, false, List, ◌++◌, drop, length, Option, Some, None}
use Rattle.sign_font.specs.Sign.{SignData}
use Rattle.multi_meaning.specs.declared.times.Shown.{Shown}
use Rattle.multi_layout.specs.Limits.{check_limit, drawing_limit}
use Rattle.page_picture.specs.Shown.{colours}

-- the colours of what is shown of a text stand at the front of octets, and those after them are as before; or there are fewer octets
-- than pixels, and nothing is written (own)
abbrev pub WritesColours : SignData → List ℕ → Shown → List ℕ → List ℕ → Bool → Type 0
WritesColours sign text seen old new true =
    (sign.width * sign.height ≤ length old) × (new ≡ colours sign text seen ++ drop (sign.width * sign.height) old)
WritesColours sign text seen old new false = (length old < sign.width * sign.height) × (new ≡ old)

-- the same, and the answer is what is shown; or nothing is written, and the answer is `None` (own)
abbrev pub TellsColours : SignData → List ℕ → Shown → List ℕ → List ℕ → Option Shown → Type 0
TellsColours sign text seen old new (Some told) = WritesColours sign text seen old new true × (told ≡ seen)
TellsColours sign text seen old new None = WritesColours sign text seen old new false

-- the most steps of drawing a page in all colours (own)
abbrev pub all_drawing_limit : SignData → ℕ → ℕ
all_drawing_limit sign n = 9 * drawing_limit sign n

-- the most steps of judging a text, finding its page at a clock and drawing it in all colours (own)
abbrev pub colours_limit : SignData → ℕ → ℕ
colours_limit sign n = 2 * check_limit n + all_drawing_limit sign n

-- the most steps of judging a text and drawing a page of it in all colours (own)
abbrev pub page_colours_limit : SignData → ℕ → ℕ
page_colours_limit sign n = check_limit n + all_drawing_limit sign n
