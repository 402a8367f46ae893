-- What is told of a message: the verdict on it and its place, and the pages as pictures, with lines of words for people between them.
use Rattle.std.specs.Prelude.{◌≡◌, ℕ, zero, suc, ◌+◌, ◌-◌, min, Bool, true, false, nat_lt, List, [], ◌∷◌, ◌++◌, drop, length, codes, None, if◌then◌else◌}
use Rattle.sign_font.specs.Sign.{SignData}
use Rattle.multi_meaning.specs.Verdict.{Verdict, Accepted, Refused, verdict}
use Rattle.message_cures.specs.Cures.{Mends}
use Rattle.message_cures.specs.declared.mending.Outcome.{Outcome}
use Rattle.message_words.specs.Codes.{code_text}
use Rattle.message_words.specs.Warned.{AreWarnings}
use Rattle.message_words.specs.declared.warnings.Warning.{Warning}
use Rattle.message_report.specs.Words.{IsLineOf, IsOneLine}
use Rattle.message_report.specs.declared.format.Format.{Format}
use Rattle.message_report.specs.declared.format.Format.TheVariants.{Ansi, Changed, Json, Lines, Mended, Text}
use Rattle.message_report.specs.declared.format.Telling.{Telling}
use Rattle.message_report.specs.declared.format.Told.{Told}
use Rattle.message_report.specs.declared.picture.Picture.{Picture}
use Rattle.message_report.specs.declared.picture.Picture.TheVariants.{Blocks, Marks}
use Rattle.message_report.specs.Blocks.{coloured_text}
use Rattle.message_report.specs.Records.{TellsRecord, TooLongRecord}
use Rattle.message_report.specs.Notes.{AreWarned, caret_text, from_text, is_still, legend_text}
use Rattle.message_report.specs.Pictures.{page_text}
use Rattle.message_report.specs.Phrases.{accepted_text, diff_text, error_text, head_text, kind_of, line_head, mended_text, place_text, proposal_line, refused_text, too_long_text}

-- WORDS AND PICTURES

-- the picture of a page of a string at a phase, by its number, in marks or in the sign's colours (own)
abbrev pub picture_text : Picture → SignData → List ℕ → ℕ → ℕ → List ℕ
picture_text Marks sign octets phase page = page_text sign octets page phase
picture_text Blocks sign octets phase page = coloured_text sign octets page phase

-- a text has the first pages of so many, each with its head, some words to the end of that line, and its picture (own)
abbrev pub HasPages : (ℕ → List ℕ) → ℕ → ℕ → List ℕ → Type 0
HasPages picture pages zero text = text ≡ []
HasPages picture pages (suc page) text = (front words : List ℕ) × HasPages picture pages page front × IsOneLine words
    × (text ≡ front ++ head_text page pages ++ words ++ 10 ∷ picture page)

-- a text tells of an accepted message: the number of its pages, a line of its octets, all pages, what their pictures mean and don't show,
-- warnings, and an empty line (own)
abbrev pub ShowsPages : Picture → SignData → List ℕ → ℕ → ℕ → ℕ → List Warning → List ℕ → Type 0
ShowsPages picture sign octets phase line pages warnings text = (front shown told : List ℕ) × (flashes : Bool) × IsLineOf octets front
    × HasPages (picture_text picture sign octets phase) pages pages shown × AreWarned warnings told
    × (text ≡ line_head line ++ accepted_text pages ++ front ++ 10 ∷ shown
    ++ legend_text picture sign.classic (is_still sign octets pages) flashes phase ++ told ++ 10 ∷ [])

-- or it says nothing of it if there are no warnings, or else the number of its pages, a line of its octets, warnings, and an empty line
-- (own)
abbrev pub PassesOver : List ℕ → ℕ → ℕ → List Warning → List ℕ → Type 0
PassesOver octets line pages [] text = text ≡ []
PassesOver octets line pages (warning ∷ warnings) text = (front told : List ℕ) × IsLineOf octets front × AreWarned (warning ∷ warnings) told
    × (text ≡ line_head line ++ accepted_text pages ++ front ++ 10 ∷ told ++ 10 ∷ [])

-- an accepted message is shown at a phase, or passed over if only refused ones are asked for (own)
abbrev pub TellsAccepted : Bool → Picture → SignData → List ℕ → ℕ → ℕ → ℕ → List Warning → List ℕ → Type 0
TellsAccepted true picture sign octets phase line pages warnings text = PassesOver octets line pages warnings text
TellsAccepted false picture sign octets phase line pages warnings text = ShowsPages picture sign octets phase line pages warnings text

-- a text tells of a refused message: its error with its place, a line of its octets from at most 60 before the place, a caret, a sentence,
-- what is proposed in its place, and an empty line (own)
abbrev pub TellsRefused : List ℕ → ℕ → ℕ → ℕ → Outcome → List ℕ → Type 0
TellsRefused octets line code at outcome text = (shown reason : List ℕ) × (before : ℕ) × IsLineOf (drop (at - 60) octets) shown
    × IsLineOf [] reason
    × (text ≡ line_head line ++ refused_text code at ++ from_text (at - 60) ++ shown ++ 10 ∷ caret_text before ++ reason
    ++ 10 ∷ proposal_line [] (codes "try: ") outcome ++ 10 ∷ [])

-- a text tells a verdict on a string in words and pictures (own)
abbrev pub TellsWords : Telling → Picture → SignData → List ℕ → ℕ → Verdict → Outcome → List Warning → List ℕ → Type 0
TellsWords telling picture sign octets line (Accepted pages) outcome warnings text =
    TellsAccepted telling.refused_only picture sign octets telling.phase line pages warnings text
TellsWords telling picture sign octets line (Refused code at) outcome warnings text = TellsRefused octets line code at outcome text

-- LINES FOR EDITORS

-- the line of a warning: its place, words, and its code (own)
unfoldable pub warning_text : List ℕ → ℕ → ℕ → List ℕ → List ℕ → List ℕ
warning_text name line at code words = place_text name line at ++ codes "warning: " ++ words ++ codes " (" ++ code ++ codes ")\n"

-- a text is the lines of these warnings, in their order; none stands after the 4,097th column (own)
abbrev pub IsWarnings : List ℕ → ℕ → List Warning → List ℕ → Type 0
IsWarnings name line [] text = text ≡ []
IsWarnings name line (warning ∷ warnings) text = (words rest : List ℕ) × IsOneLine words × IsWarnings name line warnings rest
    × (text ≡ warning_text name line (min warning.at 4096) (code_text warning.code) words ++ rest)

-- a text tells a verdict on a string to editors: of a refused one a line with its place, its error and some words, and a note of what is
-- proposed in its place, and of an accepted one warnings alone (own)
abbrev pub TellsLines : List ℕ → ℕ → Verdict → Outcome → List Warning → List ℕ → Type 0
TellsLines name line (Accepted pages) outcome warnings text = IsWarnings name line warnings text
TellsLines name line (Refused code at) outcome warnings text = (words : List ℕ) × IsOneLine words
    × (text ≡ place_text name line at ++ codes "error: " ++ error_text code ++ codes ": " ++ words ++ 10 ∷ proposal_line
    (place_text name line at ++ codes "note: ") (codes "try ") outcome)

-- EXPLANATIONS

-- a text tells a verdict, what is proposed, and warnings, in a format (own)
abbrev pub Tells : Telling → Format → SignData → List ℕ → List ℕ → ℕ → Verdict → Outcome → List Warning → List ℕ → Type 0
Tells telling Text sign name octets line v outcome warnings text = TellsWords telling Marks sign octets line v outcome warnings text
Tells telling Ansi sign name octets line v outcome warnings text = TellsWords telling Blocks sign octets line v outcome warnings text
Tells telling Lines sign name octets line v outcome warnings text = TellsLines name line v outcome warnings text
Tells telling Json sign name octets line v outcome warnings text = TellsRecord telling sign octets line v outcome warnings text
Tells telling Mended sign name octets line v outcome warnings text = text ≡ mended_text octets outcome ++ 10 ∷ []
Tells telling Changed sign name octets line v outcome warnings text = text ≡ diff_text name line octets outcome

-- a text tells in a format that a message has too many octets (own)
abbrev pub TellsTooLong : Format → List ℕ → List ℕ → ℕ → List ℕ → Type 0
TellsTooLong Text name octets line text = text ≡ line_head line ++ too_long_text ++ codes "\n"
TellsTooLong Ansi name octets line text = text ≡ line_head line ++ too_long_text ++ codes "\n"
TellsTooLong Lines name octets line text = text ≡ place_text name line 4096 ++ codes "error: " ++ too_long_text
TellsTooLong Json name octets line text = TooLongRecord line text
TellsTooLong Mended name octets line text = text ≡ octets ++ 10 ∷ []
TellsTooLong Changed name octets line text = text ≡ []

-- there are warnings only on a string that a sign accepts, and then these (own)
abbrev pub IsWarned : List Bool → SignData → ℕ → List ℕ → Verdict → List Warning → Type 0
IsWarned told sign most octets (Accepted pages) warnings = AreWarnings told sign most octets warnings
IsWarned told sign most octets (Refused code at) warnings = warnings ≡ []

-- a text tells the sign's verdict on a message, with what is proposed in its place and the warnings on it, as many as are told of (own)
abbrev pub TellsJudged : Telling → SignData → ℕ → List ℕ → ℕ → List ℕ → Told → List ℕ → Type 0
TellsJudged telling sign most name line octets told text = (outcome : Outcome) × (warnings : List Warning) × Mends sign octets outcome
    × (told.proposal ≡ kind_of outcome) × IsWarned telling.warnings sign most octets (verdict sign octets) warnings
    × (told.warnings ≡ length warnings) × Tells telling telling.format sign name octets line (verdict sign octets) outcome warnings text

-- a text explains the message of a line by the sign's verdict on it, if it has at most 4,096 octets, and this is told of it; the sign's
-- message table takes texts of so many octets (own)
abbrev pub Explains : Telling → SignData → ℕ → List ℕ → ℕ → List ℕ → Told → List ℕ → Type 0
Explains telling sign most name line octets told text = of (nat_lt 4096 (length octets))
  where
    of : Bool → Type 0
    of true = (told.proposal ≡ None) × (told.warnings ≡ 0) × TellsTooLong telling.format name octets line text
    of false = TellsJudged telling sign most name line octets told text
