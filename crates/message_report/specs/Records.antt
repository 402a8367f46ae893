-- What is told of a message as a record in JSON.
use Rattle.std.specs.Prelude.{◌≡◌, ℕ, ◌+◌, Bool, true, false, List, [], ◌∷◌, ◌++◌, codes, decimal, map, string_bytes, if◌then◌else◌}
use Rattle.serde_json.specs.Data.{Data, array, member, no_members, null, number, object, string}
use Rattle.serde_json.specs.View.{items_of}
use Rattle.serde_json.specs.Written.{compact_text}
use Rattle.sign_font.specs.Sign.{SignData}
use Rattle.multi_meaning.specs.Meaning.{meanings}
use Rattle.multi_meaning.specs.Times.{Times, page_times}
use Rattle.multi_meaning.specs.Verdict.{Verdict, Accepted, Refused}
use Rattle.message_cures.specs.declared.mending.Outcome.{Outcome}
use Rattle.message_words.specs.Codes.{code_text}
use Rattle.message_words.specs.declared.warnings.Warning.{Warning}
use Rattle.message_report.specs.declared.format.Telling.{Telling}
use Rattle.message_report.specs.Names.{name_of}
use Rattle.message_report.specs.Pictures.{page_text}
use Rattle.message_report.specs.Fixes.{AreFixes, count, octets_data, text_data}

-- the record of a refused message: its error, the octet where that stands, counted from 0, the words on it, and what is proposed (own)
unfoldable pub refused_record : ℕ → List ℕ → ℕ → ℕ → List ℕ → Data → Data
refused_record line octets code at reason fixes =
    object (member (codes "code") (count code)
    (member (codes "fixes") fixes
    (member (codes "line") (count line)
    (member (codes "message") (text_data octets)
    (member (codes "name") (string (name_of code))
    (member (codes "octet") (count at)
    (member (codes "octets") (octets_data octets)
    (member (codes "outcome") (string (codes "refused"))
    (member (codes "reason") (string reason) no_members)))))))))

-- the record of an accepted message: its pages, and the warnings on it (own)
unfoldable pub accepted_record : ℕ → List ℕ → Data → Data → Data
accepted_record line octets pages warnings =
    object (member (codes "line") (count line)
    (member (codes "message") (text_data octets)
    (member (codes "octets") (octets_data octets)
    (member (codes "outcome") (string (codes "accepted"))
    (member (codes "pages") pages
    (member (codes "warnings") warnings no_members))))))

-- the record of a message with too many octets, which isn't judged (own)
unfoldable pub too_long_record : ℕ → Data
too_long_record line =
    object (member (codes "line") (count line)
    (member (codes "outcome") (string (codes "too long"))
    (member (codes "reason") (string (codes "a message has at most 4096 octets")) no_members)))

-- the record of a page: its number, counted from 1, its times in tenths of a second, and its picture or nothing (own)
unfoldable pub page_record : ℕ → ℕ → ℕ → Data → Data
page_record page on off picture =
    object (member (codes "number") (count (page + 1))
    (member (codes "off") (count off)
    (member (codes "on") (count on)
    (member (codes "picture") picture no_members))))

-- the record of a warning: its code, its octet, counted from 0, and words (own)
unfoldable pub warning_record : List ℕ → ℕ → List ℕ → Data
warning_record code at words =
    object (member (codes "code") (string code)
    (member (codes "octet") (count at)
    (member (codes "text") (string words) no_members)))

-- a picture, if it is asked for (own)
abbrev pub picture_data : Bool → List ℕ → Data
picture_data asked text = if asked then string text else null

-- the record of a page of a string at a phase, by its number and its times (own)
abbrev pub page_data : Telling → SignData → List ℕ → ℕ → Times → Data
page_data telling sign octets page times =
    page_record page times.on times.off (picture_data telling.pictures (page_text sign octets page telling.phase))

-- the records of pages that follow one another, by the number of the first one and the times of each (own)
abbrev pub pages_from : Telling → SignData → List ℕ → ℕ → List Times → List Data
pages_from telling sign octets page [] = []
pages_from telling sign octets page (times ∷ later) =
    page_data telling sign octets page times ∷ pages_from telling sign octets (page + 1) later

-- the records of all pages of a string, each with its own times (NTCIP 1203 v03, MULTI tag 'pt')
abbrev pub all_pages : Telling → SignData → List ℕ → List Data
all_pages telling sign octets = pages_from telling sign octets 0 (page_times sign (meanings octets))

-- the record of a refused message as it is written, with its message, octets, name, words and proposals in JSON (own)
unfoldable pub refused_json : ℕ → List ℕ → List ℕ → List ℕ → ℕ → ℕ → List ℕ → List ℕ → List ℕ
refused_json line message octets name code at reason fixes =
    codes "{\"code\":" ++ (decimal code
    ++ (codes ",\"fixes\":" ++ (fixes
    ++ (codes ",\"line\":" ++ (decimal line
    ++ (codes ",\"message\":" ++ (message
    ++ (codes ",\"name\":" ++ (name
    ++ (codes ",\"octet\":" ++ (decimal at
    ++ (codes ",\"octets\":" ++ (octets
    ++ (codes ",\"outcome\":\"refused\",\"reason\":" ++ (reason ++ codes "}")))))))))))))))

-- and that of an accepted one, with its message, octets, pages and warnings in JSON (own)
unfoldable pub accepted_json : ℕ → List ℕ → List ℕ → List ℕ → List ℕ → List ℕ
accepted_json line message octets pages warnings =
    codes "{\"line\":" ++ (decimal line
    ++ (codes ",\"message\":" ++ (message
    ++ (codes ",\"octets\":" ++ (octets
    ++ (codes ",\"outcome\":\"accepted\",\"pages\":" ++ (pages
    ++ (codes ",\"warnings\":" ++ (warnings ++ codes "}")))))))))

-- a text is a record as a line (own)
abbrev pub IsRecord : Data → List ℕ → Type 0
IsRecord value text = text ≡ compact_text value ++ 10 ∷ []

-- the records of some warnings (own)
abbrev pub warning_records : List Warning → List Data
warning_records warnings = map (λ (w : Warning). warning_record (code_text w.code) w.at (string_bytes w.words)) warnings

-- a text is the record of an accepted message, with all its pages and these warnings (own)
abbrev pub TellsPages : Telling → SignData → List ℕ → ℕ → List Warning → List ℕ → Type 0
TellsPages telling sign octets line warnings text =
    IsRecord (accepted_record line octets (array (items_of (all_pages telling sign octets)))
    (array (items_of (warning_records warnings)))) text

-- nothing is said of an accepted message if only refused ones are asked for and there is no warning on it (own)
abbrev pub is_passed_over : Bool → List Warning → Bool
is_passed_over true [] = true
is_passed_over _ _ = false

-- a text tells a verdict as a record, with what is proposed or with the warnings, or nothing of an accepted message (own)
abbrev pub TellsRecord : Telling → SignData → List ℕ → ℕ → Verdict → Outcome → List Warning → List ℕ → Type 0
TellsRecord telling sign octets line (Accepted pages) outcome warnings text = of (is_passed_over telling.refused_only warnings)
  where
    of : Bool → Type 0
    of true = text ≡ []
    of false = TellsPages telling sign octets line warnings text
TellsRecord telling sign octets line (Refused code at) outcome warnings text = (fixes : List Data) × (reason : List ℕ)
    × AreFixes sign octets outcome fixes × IsRecord (refused_record line octets code at reason (array (items_of fixes))) text

-- a text is the record of a message with too many octets (own)
abbrev pub TooLongRecord : ℕ → List ℕ → Type 0
TooLongRecord line text = IsRecord (too_long_record line) text
