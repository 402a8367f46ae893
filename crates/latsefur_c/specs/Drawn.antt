-- What is shown of a text, and the pictures that a host gets.
use Rattle.std.specs.Prelude.{◌≡◌, ◌⊎◌, ℕ, ◌*◌, ◌^◌, ◌<◌, ◌≤◌, Bool, false, List, ◌++◌, drop, length, Some}
use Rattle.page_plane.specs.Octets.{bit_place, is_bit_set, row_octets}
use Rattle.sign_font.specs.Sign.{SignData}
use Rattle.multi_meaning.specs.declared.times.Shown.{Shown}
use Rattle.multi_meaning.specs.declared.times.Shown.TheVariants.{Off, Page}
use Rattle.multi_meaning.specs.Meaning.{meanings}
use Rattle.multi_meaning.specs.Picture.{pixel_at}
use Rattle.multi_meaning.specs.Times.{shown}
use Rattle.multi_meaning.specs.Verdict.{Accepted, IsVerdict, Refused, pages_of}
use Rattle.page_picture.specs.Shown.{colours}
use Rattle.latsefur_c.specs.declared.seen.When.{When}
use Rattle.latsefur_c.specs.declared.seen.When.TheVariants as when
use Rattle.latsefur_c.specs.declared.shown.LatsefurShown.{LatsefurShown}
use Rattle.latsefur_c.specs.Judged.{IsShort}
use Rattle.latsefur_c.specs.Outcome.{HasNoSign, sign_of_file}

-- a text is accepted (own)
abbrev pub IsAccepted : SignData → List ℕ → Type 0
IsAccepted sign text = IsShort text × ((pages : ℕ) × IsVerdict sign text (Accepted pages))

-- a text isn't accepted: it is refused (1), or too long to be judged (7) (own)
abbrev pub IsNotAccepted : SignData → List ℕ → ℕ → Type 0
IsNotAccepted sign text outcome =
    ((outcome ≡ 1) × IsShort text × ((code : ℕ) × (at : ℕ) × IsVerdict sign text (Refused code at)))
    ⊎ ((outcome ≡ 7) × (2 ^ 32 ≤ length text))

-- what is seen of a text: what it shows at a clock, or the page that is asked for, at its phase (own)
abbrev pub seen : SignData → List ℕ → When → Shown
seen sign text (when.Clock clock) = shown sign text clock
seen sign text (when.Page page phase) = Page page phase

-- the text has the page that is asked for; at a clock it always has one (own)
abbrev pub HasPage : List ℕ → When → Type 0
HasPage text (when.Clock clock) = Unit {0}
HasPage text (when.Page page phase) = page < pages_of (meanings text)

-- the text has fewer pages (own)
abbrev pub LacksPage : List ℕ → When → Type 0
LacksPage text (when.Clock clock) = ⊥
LacksPage text (when.Page page phase) = pages_of (meanings text) ≤ page

-- why nothing can be shown of a text: there is no sign, or the text isn't accepted, or it is and has no such page (6) (own)
abbrev pub IsUnseen : List ℕ → List ℕ → When → ℕ → Type 0
IsUnseen file text time outcome =
    HasNoSign file outcome
    ⊎ ((sign : SignData) × (sign_of_file file ≡ Some sign)
    × (IsNotAccepted sign text outcome ⊎ ((outcome ≡ 6) × IsAccepted sign text × LacksPage text time)))

-- a sign accepts a text, which has the page that is asked for (own)
abbrev pub IsSeen : SignData → List ℕ → When → Type 0
IsSeen sign text time = IsAccepted sign text × HasPage text time

-- octets hold a plane of this size: (width + 7) / 8 for a row, from the top, its leftmost pixel in
-- the highest bit of the first, and spare bits 0 (own)
pub record HoldsPlane (width height : ℕ) (lit : ℕ → ℕ → Bool) (octets : List ℕ) : Type 0 where
  pub count : length octets ≡ row_octets width * height
  pub pixels : (x y : ℕ) → x < width → y < height → is_bit_set octets (bit_place width x y) ≡ lit x y
  pub spare : (x y : ℕ) → width ≤ x → x < 8 * row_octets width → y < height → is_bit_set octets (bit_place width x y) ≡ false

-- octets hold the plane of a colour of what is seen (own)
abbrev pub IsPlane : List ℕ → When → ℕ → SignData → List ℕ → Type 0
IsPlane text time colour sign octets = HoldsPlane sign.width sign.height (pixel_at sign (meanings text) (seen sign text time) colour) octets

-- octets are the colours of what is seen (own)
abbrev pub AreColours : List ℕ → When → SignData → List ℕ → Type 0
AreColours text time sign octets = octets ≡ colours sign text (seen sign text time)

-- a picture stands at the front of a buffer, and what is after it is as it was; or nothing is written, because
-- there is nothing to see, or there was no memory (2), or the buffer is smaller than the picture (5) (own)
abbrev pub Draws : List ℕ → List ℕ → When → (SignData → List ℕ → Type 0) → List ℕ → List ℕ → ℕ → Type 0
Draws file text time Is old new outcome =
    (IsUnseen file text time outcome × (new ≡ old))
    ⊎ ((outcome ≡ 2) × (new ≡ old))
    ⊎ ((sign : SignData) × (picture : List ℕ) × (sign_of_file file ≡ Some sign) × IsSeen sign text time × Is sign picture
    × (((outcome ≡ 5) × (length old < length picture) × (new ≡ old)) ⊎ ((outcome ≡ 0) × (new ≡ picture ++ drop (length picture) old))))

-- what is shown, in numbers; in an off time all are 0 (own)
abbrev pub IsShownAs : Shown → LatsefurShown → Type 0
IsShownAs (Page page phase) told = (told.is_on ≡ 1) × (told.page ≡ page) × (told.phase ≡ phase)
IsShownAs Off told = (told.is_on ≡ 0) × (told.page ≡ 0) × (told.phase ≡ 0)

-- what a text shows at a clock is told; or there is nothing to see, and what was told stays as it was (own)
abbrev pub TellsShown : List ℕ → List ℕ → ℕ → LatsefurShown → LatsefurShown → ℕ → Type 0
TellsShown file text clock old new outcome =
    (IsUnseen file text (when.Clock clock) outcome × (new ≡ old))
    ⊎ ((outcome ≡ 0) × ((sign : SignData) × (sign_of_file file ≡ Some sign) × IsAccepted sign text × IsShownAs (shown sign text clock) new))
