-- What is told of a sign file, as far as programs and editors read it.
use Rattle.std.specs.Prelude.{◌≡◌, ℕ, ◌==◌, Bool, true, false, List, [], ◌∷◌, ◌++◌, Option, None, Some, codes, decimal, string_bytes, if◌then◌else◌, is_some}
use Rattle.std.specs.Borrow.{Bor}
use Rattle.std.specs.Option.{option_map}
use Rattle.serde_json.specs.Data.{string}
use Rattle.serde_json.specs.Written.{compact_text}
use Rattle.sign_font.specs.Sign.{SignData}
use Rattle.sign_words.specs.declared.describe.Setup.{Setup}
use Rattle.sign_words.specs.declared.findings.Finding.{Finding}
use Rattle.sign_words.specs.declared.findings.Findings.{Findings}
use Rattle.sign_words.specs.declared.view.Rank.{Rank}
use Rattle.sign_words.specs.declared.view.Rank.TheVariants as rank
use Rattle.sign_words.specs.declared.view.SignView.{SignView}
use Rattle.sign_words.specs.declared.view.SignView.TheVariants as view
use Rattle.sign_words.specs.Names.{code_word, place_text}

-- what stands before the words for people (own)
abbrev pub word_of : Rank → List ℕ
word_of rank.Fault = []
word_of rank.Warning = codes "warning: "

-- what stands before the words in lines for editors (own)
abbrev pub mark_of : Rank → List ℕ
mark_of rank.Fault = codes "error"
mark_of rank.Warning = codes "warning"

-- what stands before the words on a finding for people: its line, counted from 1 (own)
abbrev pub line_head : Rank → Finding → List ℕ
line_head r finding = word_of r ++ codes "line " ++ decimal finding.line ++ codes ": "

-- for editors: the name of the file, the line and the octet in it, both counted from 1, and whether it is an error (own)
abbrev pub spot_head : List ℕ → Rank → Finding → List ℕ
spot_head name r finding =
    name ++ codes ":" ++ decimal finding.line ++ codes ":" ++ decimal finding.column ++ codes ": " ++ mark_of r ++ codes ": "

-- the one that is asked for (own)
abbrev pub head_of : SignView → Rank → Finding → List ℕ
head_of (view.Lines name) r finding = spot_head name.now r finding
head_of v r finding = line_head r finding

-- these findings are told in order, each by its head, words, and the end of a line (own)
abbrev pub AreTold : SignView → Rank → List Finding → List ℕ → Type 0
AreTold v r [] text = text ≡ []
AreTold v r (finding ∷ findings) text =
    (words : List ℕ) × (others : List ℕ) × (text ≡ (head_of v r finding ++ words ++ 10 ∷ []) ++ others) × AreTold v r findings others

-- how the words end that say that there are more (own)
abbrev pub more_of : Rank → List ℕ
more_of rank.Fault = codes " more faults\n"
more_of rank.Warning = codes " more warnings\n"

-- how many more there are than those that are told, for people (own)
abbrev pub more_told : SignView → Rank → ℕ → List ℕ
more_told (view.Lines name) r more = []
more_told v r more = if more == 0 then [] else word_of r ++ codes "and " ++ decimal more ++ more_of r

-- the words on what a sign file describes begin with the size of its sign in pixels (own)
abbrev pub size_told : SignData → List ℕ
size_told sign = codes "sign: " ++ decimal sign.width ++ codes " by " ++ decimal sign.height ++ codes " pixels "

-- what a sign file describes is told to people who ask for it, if the file is taken (own)
abbrev pub IsDescribed : SignView → Option SignData → List ℕ → Type 0
IsDescribed view.Description (Some sign) text = (more : List ℕ) × (text ≡ size_told sign ++ more)
IsDescribed (view.Font number) (Some sign) text = Unit {0}
IsDescribed v sign text = text ≡ []

-- A text on a sign file tells each fault, each permanent message that the sign refuses and each warning, and behind them what the file
-- describes, and nothing else (own).
pub record IsListed (v : SignView) (sign : Option SignData) (found : Findings) (text : List ℕ) : Type 0 where
  pub faults : List ℕ
  pub refusals : List ℕ
  pub warnings : List ℕ
  pub described : List ℕ
  pub faults_told : AreTold v rank.Fault found.faults.items faults
  pub refusals_told : AreTold v rank.Fault found.refusals.items refusals
  pub warnings_told : AreTold v rank.Warning found.warnings.items warnings
  pub describes : IsDescribed v sign described
  pub all : text ≡ (faults ++ more_told v rank.Fault found.more_faults) ++ refusals
      ++ (warnings ++ more_told v rank.Warning found.more_warnings) ++ described

-- ---- the document in JSON

-- a text as JSON writes it, by RFC 8259 (own)
unfoldable pub quoted : List ℕ → List ℕ
quoted text = compact_text (string text)

-- where a finding stands: its line, and the octet in it, both counted from 1 (own)
unfoldable pub position_told : Finding → List ℕ
position_told finding =
    codes "\n    {\n      \"line\": " ++ decimal finding.line ++ codes ",\n      \"column\": " ++ decimal finding.column

-- the name of its table (own)
unfoldable pub table_told : Finding → List ℕ
table_told finding = codes ",\n      \"table\": " ++ quoted (place_text finding.place)

-- its key, the word of its kind, and a sentence for people (own)
unfoldable pub key_told : Finding → List ℕ
key_told finding =
    codes ",\n      \"key\": " ++ quoted (string_bytes finding.key) ++ codes ",\n      \"code\": " ++ quoted (code_word finding.code)
    ++ codes ",\n      \"sentence\": " ++ quoted (string_bytes finding.sentence) ++ codes "\n    }"

-- the members of a finding (own)
unfoldable pub finding_told : Finding → List ℕ
finding_told finding = position_told finding ++ table_told finding ++ key_told finding

-- findings, each after a comma (own)
unfoldable pub others_told : List Finding → List ℕ
others_told [] = []
others_told (finding ∷ findings) = codes "," ++ finding_told finding ++ others_told findings

-- an array of findings (own)
unfoldable pub findings_told : List Finding → List ℕ
findings_told [] = codes "[]"
findings_told (finding ∷ findings) = codes "[" ++ finding_told finding ++ others_told findings ++ codes "\n  ]"

-- whether a sign file is taken (own)
unfoldable pub truth_of : Bool → List ℕ
truth_of true = codes "true"
truth_of false = codes "false"

-- the members of some findings: those that are told, and how many more there are (own)
unfoldable pub list_told : List ℕ → List Finding → ℕ → List ℕ
list_told name findings more =
    codes ",\n  \"" ++ name ++ codes "\": " ++ findings_told findings ++ codes ",\n  \"more_" ++ name ++ codes "\": " ++ decimal more

-- the document up to the facts of the sign: whether the file is taken, its faults and its warnings (own)
unfoldable pub found_told : Bool → Findings → List ℕ
found_told is_taken found =
    codes "{\n  \"taken\": " ++ truth_of is_taken ++ list_told (codes "faults") found.faults.items found.more_faults
    ++ list_told (codes "warnings") found.warnings.items found.more_warnings

-- the facts of the sign, or that there is none (own)
abbrev pub IsOfSign : Option SignData → List ℕ → Type 0
IsOfSign None text = text ≡ codes ",\n  \"sign\": null\n}\n"
IsOfSign (Some sign) text = (more : List ℕ) × (text ≡ codes ",\n  \"sign\": {\n    \"width\": " ++ decimal sign.width ++ more)

-- a document in JSON tells whether the file is taken, each fault and each warning, how many more there are, and the facts of the sign (own)
abbrev pub IsDocument : Option SignData → Findings → List ℕ → Type 0
IsDocument sign found text = (facts : List ℕ) × IsOfSign sign facts × (text ≡ found_told (is_some sign) found ++ facts)

-- the sign that a file sets up, if it is taken (own)
abbrev pub sign_of : Option (Bor Setup) → Option SignData
sign_of setup = option_map (λ s. s.now.sign) setup

-- what is told of a sign file in which this was found, and which sets up this sign if it is taken (own)
abbrev pub IsTold : SignView → Option SignData → Findings → List ℕ → Type 0
IsTold (view.Json font) sign found text = IsDocument sign found text
IsTold v sign found text = IsListed v sign found text
