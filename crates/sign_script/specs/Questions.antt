-- The table of the lines that are asked of a served sign: what each asks for, and how it is spelled.
use Rattle.std.specs.Prelude.{ℕ, List, [], ◌∷◌, codes, if◌then◌else◌, Option, None, Some}
use Rattle.std.specs.Option.{option_map}
use Rattle.std.specs.Str.{bytes_eq}
use Rattle.sign_script.specs.Asks.{ask_of, bare, lent}
use Rattle.sign_script.specs.Fields.{◌>>=◌, at_end, last_number, next_message, next_number, parted, text_of}
use Rattle.sign_script.specs.Spelling.{IsLine, IsSpelled, Number, Text, of_message}
use Rattle.sign_script.specs.declared.question.Query.{Query}
use Rattle.sign_script.specs.declared.question.Query.TheVariants as query
use Rattle.sign_script.specs.declared.question.Question.{Question}
use Rattle.sign_script.specs.declared.question.Question.TheVariants as question

-- the lines by which a thing is asked of a served sign: those of a script, and these (own)
abbrev pub IsAsked : Question → List ℕ → Type 0
IsAsked (question.Script ask) line = IsSpelled ask line
IsAsked question.Colours line = IsLine (codes "colours") [] line
IsAsked (question.Verdict text) line = IsLine (codes "verdict") (Text text.now ∷ []) line
IsAsked (question.Crc text) line = IsLine (codes "crc") (Text text.now ∷ []) line
IsAsked question.Next line = IsLine (codes "next") [] line
IsAsked (question.Code message duration priority) line =
    IsLine (codes "code") (of_message message (Number 65535 duration ∷ Number 255 priority ∷ [])) line
IsAsked question.Help line = IsLine (codes "help") [] line
IsAsked (question.VerdictHex digits) line = IsLine (codes "verdictx") (Text digits.now ∷ []) line
IsAsked (question.CrcHex digits) line = IsLine (codes "crcx") (Text digits.now ∷ []) line
IsAsked question.Save line = IsLine (codes "save") [] line
IsAsked (question.Restore digits) line = IsLine (codes "restore") (Text digits.now ∷ []) line

-- the word of a line that only a served sign answers (own)
abbrev pub query_word : Query → List ℕ
query_word query.Colours = codes "colours"
query_word query.Verdict = codes "verdict"
query_word query.Crc = codes "crc"
query_word query.Next = codes "next"
query_word query.Code = codes "code"
query_word query.Help = codes "help"
query_word query.VerdictHex = codes "verdictx"
query_word query.CrcHex = codes "crcx"
query_word query.Save = codes "save"
query_word query.Restore = codes "restore"

-- which of these a word is, if it is one (own)
unfoldable pub query_of : List ℕ → Option Query
query_of w =
    if bytes_eq w (codes "colours") then Some query.Colours
    else if bytes_eq w (codes "verdict") then Some query.Verdict
    else if bytes_eq w (codes "crc") then Some query.Crc
    else if bytes_eq w (codes "next") then Some query.Next
    else if bytes_eq w (codes "code") then Some query.Code
    else if bytes_eq w (codes "help") then Some query.Help
    else if bytes_eq w (codes "verdictx") then Some query.VerdictHex
    else if bytes_eq w (codes "crcx") then Some query.CrcHex
    else if bytes_eq w (codes "save") then Some query.Save
    else if bytes_eq w (codes "restore") then Some query.Restore
    else None

-- what is asked for, by its octets alone (own)
abbrev pub bare_question : Question → Question
bare_question (question.Script ask) = question.Script (bare ask)
bare_question (question.Verdict text) = question.Verdict (lent text.now)
bare_question (question.Crc text) = question.Crc (lent text.now)
bare_question (question.VerdictHex digits) = question.VerdictHex (lent digits.now)
bare_question (question.CrcHex digits) = question.CrcHex (lent digits.now)
bare_question (question.Restore digits) = question.Restore (lent digits.now)
bare_question q = q

-- what is asked for by such a word and what is left of its line (own)
abbrev pub more_with : Query → Option (List ℕ) → Option Question
more_with query.Colours rest = at_end question.Colours rest
more_with query.Verdict rest = Some (question.Verdict (lent (text_of rest)))
more_with query.Crc rest = Some (question.Crc (lent (text_of rest)))
more_with query.Next rest = at_end question.Next rest
more_with query.Code rest = do
  message ← next_message rest
  duration ← next_number 65535 message.1
  priority ← last_number 255 duration.1
  Some (question.Code message.0 duration.0 priority)
more_with query.Help rest = at_end question.Help rest
more_with query.VerdictHex rest = Some (question.VerdictHex (lent (text_of rest)))
more_with query.CrcHex rest = Some (question.CrcHex (lent (text_of rest)))
more_with query.Save rest = at_end question.Save rest
more_with query.Restore rest = Some (question.Restore (lent (text_of rest)))

-- what is asked for by a line that is none of a script (own)
unfoldable pub more_asked : List ℕ → Option Question
more_asked line = do
  q ← query_of (parted line).field
  more_with q (parted line).rest

-- what a script asks for comes first (own)
abbrev pub or_more : List ℕ → Option Question → Option Question
or_more line (Some q) = Some q
or_more line None = more_asked line

-- what a line asks of a served sign, if it asks for anything (own)
abbrev pub question_of : List ℕ → Option Question
question_of line = or_more line (option_map (λ ask. question.Script ask) (ask_of line))
