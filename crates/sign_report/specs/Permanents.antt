-- Which permanent messages of a sign file its sign refuses.
use Rattle.std.specs.Prelude.{ℕ, ◌+◌, Bool, ◌&&◌, ◌==◌, if◌then◌else◌, List, [], ◌∷◌, ◌++◌, length, Option, None, Some}
use Rattle.sign_font.specs.Sign.{SignData}
use Rattle.multi_meaning.specs.Verdict.{Verdict, Accepted, Refused, verdict}
use Rattle.message_store.specs.Slot.{PermanentData}
use Rattle.sign_file.specs.SignFile.{FileData, file_of_octets}
use Rattle.sign_words.specs.declared.refusal.PermanentRefusal.{PermanentRefusal}
use Rattle.sign_report.specs.Setup.{is_taken}

-- what is told of the permanent message of a number by the verdict on its text (NTCIP 1203 v03, dmsMultiSyntaxError and
-- dmsMultiSyntaxErrorPosition)
abbrev pub refusal_of : ℕ → Verdict → Option PermanentRefusal
refusal_of number (Accepted pages) = None
refusal_of number (Refused code at) = Some (record { number = number; code = code; at = at })

-- one, or none (own)
abbrev pub as_list : {A : Type 0} → Option A → List A
as_list None = []
as_list (Some x) = x ∷ []

-- the refusals of permanent messages by a sign, by its verdict on the text of each, where the first has this number (own)
unfoldable pub refusals_from : SignData → ℕ → List PermanentData → List PermanentRefusal
refusals_from sign number [] = []
refusals_from sign number (message ∷ messages) =
    as_list (refusal_of number (verdict sign message.multi)) ++ refusals_from sign (number + 1) messages

-- the permanent messages of a file that its own sign refuses, numbered from 1 (NTCIP 1203 v03, object dmsMessageTable)
abbrev pub refusals_in : Option FileData → List PermanentRefusal
refusals_in None = []
refusals_in (Some file) = refusals_from file.sign 1 file.permanents

-- the permanent messages of a sign file that its own sign refuses; there are none if the file isn't taken (own)
abbrev pub refusals_of : List ℕ → List PermanentRefusal
refusals_of octets = if is_taken octets then refusals_in (file_of_octets octets) else []

-- whether octets are a sign file that the program takes, and whose sign accepts all its permanent messages (own)
abbrev pub is_sound : List ℕ → Bool
is_sound octets = is_taken octets && (length (refusals_of octets) == 0)
