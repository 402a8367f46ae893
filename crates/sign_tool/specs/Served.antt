-- What a served sign answers.
use Rattle.std.specs.Prelude.{ℕ, List, [], ◌∷◌, length, nat_lt, if◌then◌else◌, codes, Option, None, Some, Result, Ok, Err}
use Rattle.std.specs.List.{flat_map}
use Rattle.sign_font.specs.Sign.{SignData}
use Rattle.saved_octets.specs.declared.fault.StateFault.{StateFault}
use Rattle.saved_octets.specs.Fault as saved
use Rattle.sign_control.specs.Change.{next_change}
use Rattle.sign_control.specs.Report.{row_shown}
use Rattle.sign_control.specs.Saved.{restored, saved_octets}
use Rattle.sign_control.specs.State.{StateData}
use Rattle.sign_script.specs.Fields.{octets_of}
use Rattle.sign_script.specs.declared.ask.Ask.{Ask}
use Rattle.sign_script.specs.declared.ask.Ask.TheVariants as ask
use Rattle.sign_script.specs.declared.question.Question.{Question}
use Rattle.sign_script.specs.declared.question.Question.TheVariants as question
use Rattle.sign_script.specs.Questions.{question_of}
use Rattle.sign_tool.specs.Replies.{fault_text}
use Rattle.sign_tool.specs.Reply.{too_long_text}
use Rattle.sign_tool.specs.Script.{Told, replies, told}
use Rattle.sign_tool.specs.ServedTexts.{code_reply, colours_text, crc_reply, help_text, octets_reply, tenths_text, verdict_reply}

-- A bad line changes nothing (own).
abbrev pub bad_line : StateData → Told
bad_line state = record { state = state; text = codes "bad line\n" }

-- The answer to octets in hexadecimal; other digits make a bad line (own).
abbrev pub answer_of : (List ℕ → List ℕ) → Option (List ℕ) → List ℕ
answer_of text None = codes "bad line\n"
answer_of text (Some octets) = text octets

-- The state that octets give is that of the sign from now on; or it stays as it is, and the number of the first reason against them is
-- told (own).
abbrev pub told_restored : StateData → Result StateData StateFault → Told
told_restored state (Ok new) = record { state = new; text = codes "done\n" }
told_restored state (Err fault) = record { state = state; text = fault_text (saved.fault_code fault) }

-- The same by the octets that digits write; other digits make a bad line (own).
abbrev pub told_restore : SignData → StateData → Option (List ℕ) → Told
told_restore sign state None = bad_line state
told_restore sign state (Some octets) = told_restored state (restored sign state.store octets)

-- What a script asks for is told as a script is, but that an empty line and a comment are answered too (own).
abbrev pub told_ask : SignData → StateData → Ask → Told
told_ask sign state ask.Nothing = record { state = state; text = codes "ok\n" }
told_ask sign state a = told sign state a

-- What is asked of a served sign makes this of its state. Only a command and a state that is restored change it (own).
abbrev pub told_question : SignData → StateData → Question → Told
told_question sign state (question.Script ask) = told_ask sign state ask
told_question sign state question.Colours = record { state = state; text = colours_text sign state }
told_question sign state (question.Verdict text) = record { state = state; text = verdict_reply sign state text.now }
told_question sign state (question.Crc text) = record { state = state; text = crc_reply text.now }
told_question sign state question.Next = record { state = state; text = tenths_text (next_change sign state 4294967295) }
told_question sign state (question.Code message duration priority) =
    record { state = state; text = code_reply message duration priority (row_shown state message) }
told_question sign state question.Help = record { state = state; text = help_text }
told_question sign state (question.VerdictHex digits) =
    record { state = state; text = answer_of (verdict_reply sign state) (octets_of digits.now) }
told_question sign state (question.CrcHex digits) = record { state = state; text = answer_of crc_reply (octets_of digits.now) }
told_question sign state question.Save = record { state = state; text = octets_reply (saved_octets state) }
told_question sign state (question.Restore digits) = told_restore sign state (octets_of digits.now)

-- A line that asks for nothing that there is changes nothing (own).
abbrev pub told_or_bad : SignData → StateData → Option Question → Told
told_or_bad sign state None = bad_line state
told_or_bad sign state (Some q) = told_question sign state q

-- A line with too many octets asks for nothing (own).
abbrev pub too_long : StateData → Told
too_long state = record { state = state; text = too_long_text }

-- What a line makes of a state, and its reply (own).
abbrev pub told_line : SignData → StateData → List ℕ → Told
told_line sign state line = if nat_lt 8300 (length line) then too_long state else told_or_bad sign state (question_of line)

-- The replies to lines, one for each, where each finds the state that the lines before it leave (own).
unfoldable pub served : SignData → StateData → List (List ℕ) → List (List ℕ)
served sign state [] = []
served sign state (line ∷ lines) = let t = told_line sign state line in t.text ∷ served sign t.state lines

-- The replies, one after the other (own).
abbrev pub joined : List (List ℕ) → List ℕ
joined replies = flat_map (λ reply. reply) replies
