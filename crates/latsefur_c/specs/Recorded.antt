-- What a sign says to a text in a record, and what it shows in a film, as a host gets them.
use Rattle.std.specs.Prelude.{◌≡◌, ◌⊎◌, ◌<◌, ℕ, Bool, true, false, not, ◌==◌, if◌then◌else◌, List, [], ◌∷◌, Option, Some, None, length}
use Rattle.sign_font.specs.Sign.{SignData}
use Rattle.message_picture.specs.Drawn.{IsDrawn}
use Rattle.message_picture.specs.Drawn as drawn
use Rattle.message_picture.specs.declared.draw.DrawFault.{DrawFault}
use Rattle.message_picture.specs.declared.draw.DrawFault.TheVariants.{Memory, NoPage, TooLarge, TooLong}
use Rattle.message_picture.specs.declared.view.View.TheVariants as view
use Rattle.message_report.specs.Explanation as report
use Rattle.message_report.specs.declared.format.Format.TheVariants.{Json}
use Rattle.message_report.specs.declared.format.Telling.{Telling}
use Rattle.message_report.specs.declared.format.Told.{Told}
use Rattle.latsefur_c.specs.Drawn.{IsAccepted, IsNotAccepted}
use Rattle.latsefur_c.specs.Outcome.{HasNoSign, sign_of_file}
use Rattle.latsefur_c.specs.Told.{in_front}

-- the number of octets is told, and they stand at the front of a buffer; or the buffer is too small (5), and stays (own)
abbrev pub CountsFront : List ℕ → List ℕ → List ℕ → ℕ → ℕ → Type 0
CountsFront octets was now count outcome =
    (count ≡ length octets)
    × (((outcome ≡ 5) × (length was < length octets) × (now ≡ was)) ⊎ ((outcome ≡ 0) × (now ≡ in_front octets was)))

-- the warnings that are usually told, by the numbers of their codes: all but the fourteenth (own)
abbrev pub usual_warnings : List Bool
usual_warnings =
    true ∷ true ∷ true ∷ true ∷ true ∷ true ∷ true ∷ true ∷ true ∷ true ∷ true ∷ true ∷ true ∷ false ∷ true ∷ true ∷ true ∷ true ∷ true ∷ []

-- a record in JSON, with the pictures of pages as they begin or without, and with those warnings (own)
abbrev pub record_telling : Bool → Telling
record_telling pictures =
    record { format = Json; phase = 0; refused_only = false; pictures = pictures; warnings = usual_warnings }

-- octets are the record of a text on the sign of a sign file, as that of the first line of a file, with what is proposed, and with the
-- warnings on it where the message table takes texts of so many octets (own)
abbrev pub IsExplained : List ℕ → List ℕ → Bool → List ℕ → Type 0
IsExplained file text pictures record_octets = (sign : SignData) × (most : ℕ) × (told : Told) × (sign_of_file file ≡ Some sign)
    × report.Explains (record_telling pictures) sign most [] 1 text told record_octets

-- the record is told; or there is no such sign, and nothing is told (own)
abbrev pub Explains : List ℕ → List ℕ → ℕ → List ℕ → List ℕ → ℕ → ℕ → ℕ → Type 0
Explains file text pictures was now before count outcome =
    (HasNoSign file outcome × (now ≡ was) × (count ≡ before))
    ⊎ ((told : List ℕ) × IsExplained file text (not (pictures == 0)) told × CountsFront told was now count outcome)

-- octets are the film of a text that the sign of a sign file accepts (own)
abbrev pub IsFilmed : List ℕ → List ℕ → ℕ → Option ℕ → List ℕ → Type 0
IsFilmed file text side seconds film =
    (sign : SignData) × (sign_of_file file ≡ Some sign) × IsAccepted sign text × IsDrawn side sign text (view.Film seconds) film

-- the number of why there is no film (own)
abbrev pub why_unfilmed : DrawFault → ℕ
why_unfilmed Memory = 2
why_unfilmed (NoPage pages) = 2
why_unfilmed (TooLarge tenths) = 14
why_unfilmed (TooLong tenths) = 15

-- there is no film of a text: there is no such sign, or it doesn't accept the text, or the film would be too large (14) or too long (15),
-- or memory was refused (2) (own)
abbrev pub IsUnfilmed : List ℕ → List ℕ → ℕ → Option ℕ → ℕ → Type 0
IsUnfilmed file text side seconds outcome =
    HasNoSign file outcome
    ⊎ ((sign : SignData) × (sign_of_file file ≡ Some sign)
    × (IsNotAccepted sign text outcome
    ⊎ (IsAccepted sign text
    × ((fault : DrawFault) × drawn.IsNoFilm side sign text seconds fault × (outcome ≡ why_unfilmed fault)))))

-- for how many seconds a film lasts; with 0 until the text begins anew (own)
abbrev pub seconds_of : ℕ → Option ℕ
seconds_of seconds = if seconds == 0 then None else Some seconds

-- the film is told; or the side of a pixel isn't 1 to 16, or the seconds are more than 600 (13), or there is no film, and nothing is told
-- (own)
abbrev pub Films : List ℕ → List ℕ → ℕ → ℕ → List ℕ → List ℕ → ℕ → ℕ → ℕ → Type 0
Films file text side seconds was now before count outcome =
    ((outcome ≡ 13) × ((side ≡ 0) ⊎ (16 < side) ⊎ (600 < seconds)) × (now ≡ was) × (count ≡ before))
    ⊎ (IsUnfilmed file text side (seconds_of seconds) outcome × (now ≡ was) × (count ≡ before))
    ⊎ ((film : List ℕ) × IsFilmed file text side (seconds_of seconds) film × CountsFront film was now count outcome)
