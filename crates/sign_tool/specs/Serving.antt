-- What is written while a sign is served.
use Rattle.std.specs.Prelude.{◌≡◌, ◌⊎◌, ℕ, ◌+◌, ◌^◌, ◌<◌, ◌≤◌, Bool, true, false, List, [], ◌∷◌, ◌++◌, length, map, Option, None, Some, IfSome, Result, Ok, Err}
use Rattle.std.specs.Io.KnownBytes.{Appends, Consumes}
use Rattle.std.specs.declared.alloc.AllocError.{AllocError}
use Rattle.sign_font.specs.Sign.{SignData}
use Rattle.sign_control.specs.State.{StateData, started}
use Rattle.tool_streams.specs.declared.fault.ToolFault.{ToolFault}
use Rattle.tool_streams.specs.declared.fault.ToolFault.TheVariants.{InputTooLong, Memory, Read, Write}
use Rattle.tool_streams.specs.Lines.{IsOneLine, cut, text_of}
use Rattle.tool_streams.specs.Streams.{WritesWhole}
use Rattle.sign_tool.specs.declared.first.FirstLine.{FirstLine}
use Rattle.sign_tool.specs.declared.first.FirstLine.TheVariants.{Answered, Open}
use Rattle.sign_tool.specs.declared.setup.Setup.{Setup}
use Rattle.tool_streams.specs.Blocks.{Begins}
use Rattle.sign_tool.specs.Runs.{IsFront, IsOfLines}
use Rattle.sign_tool.specs.Script.{Told}
use Rattle.sign_tool.specs.Served.{joined, served, told_line, too_long}

-- A sign that is served, and the state of its controller (own).
pub record ServerData : Type 0 where
  pub sign : SignData
  pub state : StateData

-- A sign as it begins to be served (own).
abbrev pub at_start : Setup → ServerData
at_start setup = record { sign = setup.sign; state = started setup.sign.defaults setup.store }

-- What stands after the last line feed is a line too, if anything stands there (own).
abbrev pub last_line : List ℕ → List (List ℕ)
last_line [] = []
last_line (c ∷ cs) = (c ∷ cs) ∷ []

-- The replies to lines, whose texts have no carriage return at their ends (own).
abbrev pub replies_to : ServerData → List (List ℕ) → List ℕ
replies_to server lines = joined (served server.sign server.state (map text_of lines))

-- The replies to all lines of an input (own).
unfoldable pub replies_to_all : ServerData → List ℕ → List ℕ
replies_to_all server input = let parts = cut input in replies_to server (parts.whole ++ last_line parts.rest)

-- The replies to the whole lines of what was read (own).
unfoldable pub replies_so_far : ServerData → List ℕ → List ℕ
replies_so_far server octets = replies_to server (cut octets).whole

-- The reply to a line of which too many octets were passed over, or to one that is all there (own).
abbrev pub told_cut : ServerData → Bool → List ℕ → Told
told_cut server true line = too_long server.state
told_cut server false line = told_line server.sign server.state (text_of line)

-- What was sent is the replies to all lines of the input; after a failed read those to the whole lines that were taken, after a failed
-- write a front of the replies, and if memory was refused such a front that is the replies to some number of whole lines. Otherwise the
-- input has 2 ^ 63 octets or more, and it is a front too (own).
abbrev pub IsServed : ServerData → Option (List ℕ) → List ℕ → List ℕ → Option ToolFault → Type 0
IsServed server input taken sent None = IfSome input (λ octets. replies_to_all server octets ≡ sent)
IsServed server input taken sent (Some Read) = replies_so_far server taken ≡ sent
IsServed server input taken sent (Some Write) = IfSome input (λ octets. IsFront sent (replies_to_all server octets))
IsServed server input taken sent (Some Memory) =
    IsOfLines (replies_so_far server) taken sent × IfSome input (λ octets. IsFront sent (replies_to_all server octets))
IsServed server input taken sent (Some InputTooLong) =
    (2 ^ 63 ≤ length taken) × IfSome input (λ octets. IsFront sent (replies_to_all server octets))
IsServed server input taken sent fault = ⊥

-- A sign is served with some octets of its input, and sends some (own).
pub record Serves (server : ServerData) (input input' output output' : Option (List ℕ)) (fault : Option ToolFault) : Type 0 where
  pub taken : List ℕ
  pub sent : List ℕ
  pub takes : Consumes input input' taken
  pub writes : Appends output output' sent
  pub served : IsServed server input taken sent fault

-- ---- the steps of a run

-- The next line is answered and there are others after it, or it doesn't end here; or memory was refused for its reply (own).
abbrev pub AnswersNext : ServerData → ServerData → Bool → List ℕ → List ℕ → List ℕ → Result FirstLine AllocError → Type 0
AnswersNext old new is_cut octets ready ready' (Ok (Answered count)) =
    (line others : List ℕ) × Begins octets line others × (count ≡ length line + 1)
    × (ready' ≡ ready ++ (told_cut old is_cut line).text) × (new ≡ record { sign = old.sign; state = (told_cut old is_cut line).state })
AnswersNext old new is_cut octets ready ready' (Ok Open) = IsOneLine octets × (new ≡ old) × (ready' ≡ ready)
AnswersNext old new is_cut octets ready ready' (Ok line) = ⊥
AnswersNext old new is_cut octets ready ready' (Err refused) = ready' ≡ ready

-- The reply to what stands after the last line feed, if anything does (own).
abbrev pub last_reply : ServerData → Bool → List ℕ → List ℕ
last_reply server true line = (told_cut server true line).text
last_reply server false [] = []
last_reply server false (c ∷ cs) = (told_cut server false (c ∷ cs)).text

-- It is added to what is ready, unless memory was refused (own).
abbrev pub AnswersLast : ServerData → Bool → List ℕ → List ℕ → List ℕ → Result (Unit {0}) AllocError → Type 0
AnswersLast server is_cut line ready ready' (Ok done) = ready' ≡ ready ++ last_reply server is_cut line
AnswersLast server is_cut line ready ready' (Err refused) = ready' ≡ ready

-- A run ends with what is ready and the last reply; or memory was refused for that, or the writer failed (own).
abbrev pub EndsServed : ServerData → Bool → List ℕ → List ℕ → Option (List ℕ) → Option (List ℕ) → Result (Unit {0}) ToolFault → Type 0
EndsServed server is_cut line ready output output' (Ok done) = Appends output output' (ready ++ last_reply server is_cut line)
EndsServed server is_cut line ready output output' (Err e) =
    ((e ≡ Memory) × Appends output output' ready) ⊎ WritesWhole output output' (ready ++ last_reply server is_cut line) (Err e)

-- What waits is passed over if it is of a line with too many octets (own).
abbrev pub PassesCut : List ℕ → List ℕ → Bool → Bool → Type 0
PassesCut old new is_cut true = (new ≡ []) × ((is_cut ≡ true) ⊎ (8301 < length old))
PassesCut old new is_cut false = (new ≡ old) × (is_cut ≡ false) × (length old ≤ 8301)
