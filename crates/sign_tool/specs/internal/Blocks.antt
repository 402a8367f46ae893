-- What is done with the octets of a block.
use Rattle.std.specs.Prelude.{◌≡◌, ◌⊎◌, ℕ, ◌+◌, ◌<◌, ◌≤◌, List, [], ◌∷◌, ◌++◌, length, take, drop, map, Option, Result, Ok, Err}
use Rattle.std.specs.Io.KnownBytes.{Appends}
use Rattle.std.specs.declared.alloc.AllocError.{AllocError}
use Rattle.sign_tool.specs.declared.answer.LineAnswer.TheVariants as line_answer
use Rattle.tool_streams.specs.declared.fault.ToolFault.{ToolFault}
use Rattle.tool_streams.specs.declared.fault.ToolFault.TheVariants as faults
use Rattle.sign_tool.specs.declared.first.FirstLine.{FirstLine}
use Rattle.sign_tool.specs.declared.first.Front.{Front}
use Rattle.sign_tool.specs.declared.first.FirstLine.TheVariants.{Answered, Open, TooLong, Bad}
use Rattle.tool_streams.specs.Lines.{IsOneLine, octets_of, text_of}
use Rattle.sign_tool.specs.Output.{after, answered}
use Rattle.sign_tool.specs.Runs.{AnswersLine}
use Rattle.tool_streams.specs.Blocks.{Begins}
use Rattle.tool_streams.specs.Streams.{WritesWhole}

-- The answers to all the lines that may come (own).
abbrev pub AllAnswers : Type 0
AllAnswers = List (List ℕ) → List (Option (List ℕ))

-- The first line is answered, or no answer is added: the line doesn't end here, is too long or is bad, or memory was refused (own).
abbrev pub AnswersFirst : AllAnswers → AllAnswers → List ℕ → List ℕ → List ℕ → Result FirstLine AllocError → Type 0
AnswersFirst before behind octets old new (Ok (Answered count)) = (line others : List ℕ) × Begins octets line others
    × (count ≡ length line + 1) × (length (text_of line) ≤ 8300) × AnswersLine before behind (text_of line) old new (Ok line_answer.Text)
AnswersFirst before behind octets old new (Ok Open) = IsOneLine octets × (new ≡ old) × (behind ≡ before)
AnswersFirst before behind octets old new (Ok TooLong) =
    (line others : List ℕ) × Begins octets line others × (new ≡ old) × (8300 < length (text_of line))
AnswersFirst before behind octets old new (Ok Bad) = (line others : List ℕ) × Begins octets line others
    × (length (text_of line) ≤ 8300) × AnswersLine before behind (text_of line) old new (Ok line_answer.BadLine)
AnswersFirst before behind octets old new (Err refused) = new ≡ old

-- Each of these is a line (own).
abbrev pub AreLines : List (List ℕ) → Type 0
AreLines [] = Unit {0}
AreLines (line ∷ lines) = IsOneLine line × AreLines lines

-- These lines were taken, and what was sent is the answers to them, whatever comes (own).
pub record Progress (first : ℕ) (answers behind : AllAnswers) (number : ℕ) (taken sent : List ℕ) (lines : List (List ℕ)) : Type 0 where
  pub taken_is : taken ≡ octets_of lines
  pub each : AreLines lines
  pub says : (more : List (List ℕ)) (at_end : ℕ → Option ToolFault)
      → answered first (lines ++ more) (answers (map text_of (lines ++ more))) at_end
      ≡ after sent (answered number more (behind (map text_of more)) at_end)

-- The first `count` lines, `at` of these octets, are answered, and their answers stand after those that were ready (own).
pub record AnswersLines (before behind : AllAnswers) (octets old new : List ℕ) (at count : ℕ) : Type 0 where
  pub within : at ≤ length octets
  pub few : count ≤ at
  pub sent : List ℕ
  pub added : new ≡ old ++ sent
  pub lines : List (List ℕ)
  pub progress : (first : ℕ) → Progress first before behind (first + count) (take at octets) sent lines

-- The answering stops after an answered line, or at one to which no answer is added (own).
abbrev pub StopsAt : ℕ → AllAnswers → AllAnswers → List ℕ → List ℕ → List ℕ → FirstLine → Type 0
StopsAt at before behind octets old new (Answered count) = (1 ≤ at) × (behind ≡ before) × (new ≡ old)
StopsAt at before behind octets old new first = AnswersFirst before behind octets old new (Ok first)

-- The first lines are answered up to where the answering stops, or to one for whose answer memory was refused (own).
abbrev pub AnswersWhole : AllAnswers → AllAnswers → List ℕ → List ℕ → List ℕ → Result Front AllocError → Type 0
AnswersWhole before behind octets old new (Ok front) = (between : AllAnswers) × (ready : List ℕ)
    × AnswersLines before between octets old ready front.at front.lines
    × StopsAt front.at between behind (drop front.at octets) ready new front.last
AnswersWhole before behind octets old new (Err refused) = (between : AllAnswers) × (at : ℕ) × (count : ℕ)
    × AnswersLines before between octets old new at count

-- The answering stops after an answered line where there are 98,304 octets of answers, and nowhere else (own).
abbrev pub StopsAtMany : FirstLine → List ℕ → Type 0
StopsAtMany (Answered count) ready = 98304 ≤ length ready
StopsAtMany first ready = length ready < 98304

-- After an answered line fewer than 98,304 octets of answers may be kept, and otherwise none is (own).
abbrev pub IsKeptAfter : FirstLine → List ℕ → Type 0
IsKeptAfter (Answered count) ready = length ready < 98304
IsKeptAfter first ready = ready ≡ []

-- A front of the answers that are ready is written, and the others are kept; a writer that fails has taken some (own).
abbrev pub WritesReady : Option (List ℕ) → Option (List ℕ) → FirstLine → List ℕ → List ℕ → Result (Unit {0}) ToolFault → Type 0
WritesReady old new first ready ready' (Ok done) =
    (sent : List ℕ) × Appends old new sent × (sent ++ ready' ≡ ready) × IsKeptAfter first ready'
WritesReady old new first ready ready' (Err e) =
    (e ≡ faults.Write) × (sent : List ℕ) × (unsent : List ℕ) × Appends old new sent × (sent ++ unsent ≡ ready)

-- All answers that are ready are written, and the end is that memory was refused; or the writer fails, and has taken some (own).
abbrev pub EndsRefused : Option (List ℕ) → Option (List ℕ) → List ℕ → ToolFault → Type 0
EndsRefused old new ready e = ((e ≡ faults.Memory) × Appends old new ready) ⊎ WritesWhole old new ready (Err e)
