-- One message after the other, of those that are explained.
use Rattle.std.specs.Prelude.{◌≡◌, ◌⊎◌, ℕ, ◌+◌, ◌-◌, ◌^◌, ◌<◌, ◌≤◌, min, List, [], ◌∷◌, ◌++◌, length, take, Option, Result, Ok, Err, if◌then◌else◌}
use Rattle.std.specs.Io.KnownBytes.{Appends, Consumes, IsAtEnd, prepend_known}
use Rattle.message_cures.specs.Taking.{takes}
use Rattle.message_report.specs.Explanation.{Explains}
use Rattle.message_report.specs.declared.format.Told.{Told}
use Rattle.tool_streams.specs.declared.fault.ToolFault.{ToolFault}
use Rattle.tool_streams.specs.declared.fault.ToolFault.TheVariants as faults
use Rattle.tool_streams.specs.declared.lines.LineStart.{LineStart}
use Rattle.tool_streams.specs.Lines.{IsOneLine, input_limit, octets_of, text_of}
use Rattle.tool_streams.specs.Streams.{WritesWhole}
use Rattle.sign_aids.specs.declared.explain.NextTold.{NextTold}
use Rattle.sign_aids.specs.declared.explain.NextTold.TheVariants as tells
use Rattle.sign_aids.specs.Explain.{Asking, BeginsAfter, ExplainsLines, mended_of, refused_of, refused_one, warnings_of}
use Rattle.sign_aids.specs.declared.explain.Counts.{Counts}

-- ---- what is held and what is ready

-- some octets from this place on are held, no more than what shows that an input is too long, and the first line ends after these (own)
pub record IsHeld (place : LineStart) (held : List ℕ) (seen : ℕ) : Type 0 where
  pub few : place.number + place.left ≤ input_limit + 1
  pub most : length held ≤ place.left + 1
  pub looked : seen ≤ length (take place.left held)
  pub none : IsOneLine (take seen (take place.left held))

-- a front of some octets is written and the others are ready, or the writer fails and has taken a beginning of them (own)
abbrev pub WritesFront : Option (List ℕ) → Option (List ℕ) → List ℕ → List ℕ → Result (Unit {0}) ToolFault → Type 0
WritesFront old new all ready (Ok done) = (sent : List ℕ) × Appends old new sent × (sent ++ ready ≡ all)
WritesFront old new all ready (Err e) = WritesWhole old new all (Err e)

-- what is ready is written before a run ends with this fault, or the writer fails (own)
abbrev pub EndsAfter : Option (List ℕ) → Option (List ℕ) → List ℕ → ToolFault → ToolFault → Type 0
EndsAfter old new ready fault e = ((e ≡ fault) × Appends old new ready) ⊎ WritesWhole old new ready (Err e)

-- ---- messages

-- some lines are read, from this place on to another, and their explanations are written or ready, after those that were ready (own)
pub record Explained (asking : Asking) (place place' : LineStart) (input input' output output' : Option (List ℕ)) (ready ready' : List ℕ)
    (messages refused : ℕ) (tolds : List Told) : Type 0 where
  pub lines : List (List ℕ)
  pub text : List ℕ
  pub sent : List ℕ
  pub reads : Consumes input input' (octets_of lines)
  pub number : place'.number ≡ place.number + length lines
  pub left : length (octets_of lines) + place'.left ≡ place.left
  pub explains : ExplainsLines asking place.number lines tolds text
  pub writes : Appends output output' sent
  pub parts : sent ++ ready' ≡ ready ++ text
  pub messages_is : messages ≡ length lines
  pub refused_is : refused ≡ refused_of asking.sign lines

-- so many proposals and warnings are counted of messages, of which this is told (own)
pub record IsCounted (counts : Counts) (tolds : List Told) : Type 0 where
  pub mended : counts.mended ≡ mended_of tolds
  pub warnings : counts.warnings ≡ min (warnings_of tolds) (2 ^ 64 - 1)

-- the message of a line, which has this number in the input, is explained; or memory was refused and what was ready is written, or the
-- writer fails (own)
abbrev pub TellsMessage :
    Asking → ℕ → List ℕ → List ℕ → List ℕ → Option (List ℕ) → Option (List ℕ) → Result Told ToolFault → Type 0
TellsMessage asking number line ready ready' output output' (Ok told) = (text : List ℕ)
    × Explains asking.telling asking.sign asking.most asking.name (number - asking.before) (text_of line) told text
    × WritesFront output output' (ready ++ text) ready' (Ok tt) × (told.is_taken ≡ takes asking.sign (text_of line))
TellsMessage asking number line ready ready' output output' (Err e) = EndsAfter output output' ready faults.Memory e
    ⊎ ((text : List ℕ) × (kept : Told)
    × Explains asking.telling asking.sign asking.most asking.name (number - asking.before) (text_of line) kept text
    × WritesWhole output output' (ready ++ text) (Err e))

-- what stands after the last line feed is explained, unless it has too many octets (own)
abbrev pub TellsLast : Asking → ℕ → List ℕ → Option (List ℕ) → Option (List ℕ) → Result Told ToolFault → Type 0
TellsLast asking number line output output' (Ok told) = (length line ≤ 8300) × ((text : List ℕ)
    × Explains asking.telling asking.sign asking.most asking.name (number - asking.before) (text_of line) told text
    × Appends output output' text × (told.is_taken ≡ takes asking.sign (text_of line)))
TellsLast asking number line output output' (Err e) =
    ((e ≡ faults.LineTooLong number) × (8300 < length line) × Appends output output' [])
    ⊎ ((length line ≤ 8300) × (((e ≡ faults.Memory) × Appends output output' [])
    ⊎ ((text : List ℕ) × (kept : Told)
    × Explains asking.telling asking.sign asking.most asking.name (number - asking.before) (text_of line) kept text
    × WritesWhole output output' text (Err e))))

-- what stands after the last line feed is explained, and all is written (own)
pub record ExplainsLast (asking : Asking) (place : LineStart) (input input' output output' : Option (List ℕ)) (ready : List ℕ)
    (refused : ℕ) (tolds : List Told) : Type 0 where
  pub line : List ℕ
  pub text : List ℕ
  pub reads : Consumes input input' line
  pub end : IsAtEnd input'
  pub some : 0 < length line
  pub explains : ExplainsLines asking place.number (line ∷ []) tolds text
  pub writes : Appends output output' (ready ++ text)
  pub refused_is : refused ≡ refused_one asking.sign line

-- the next message is explained, or more is read, or the input is at its end, or there is a fault (own)
abbrev pub ExplainsNext :
    Asking → LineStart → LineStart → Option (List ℕ) → Option (List ℕ) → List ℕ → Option (List ℕ) → Option (List ℕ) → List ℕ → List ℕ
    → Result NextTold ToolFault → Type 0
ExplainsNext asking place place' input input' held' output output' ready ready' (Ok (tells.Whole told)) =
    Explained asking place place' input (prepend_known held' input') output output' ready ready' 1 (if told.is_taken then 0 else 1)
    (told ∷ [])
ExplainsNext asking place place' input input' held' output output' ready ready' (Ok tells.More) =
    Explained asking place place' input (prepend_known held' input') output output' ready ready' 0 0 []
ExplainsNext asking place place' input input' held' output output' ready ready' (Ok (tells.Last told)) =
    ExplainsLast asking place input input' output output' ready (if told.is_taken then 0 else 1) (told ∷ [])
ExplainsNext asking place place' input input' held' output output' ready ready' (Ok tells.End) =
    Consumes input input' [] × IsAtEnd input' × Appends output output' ready
ExplainsNext asking place place' input input' held' output output' ready ready' (Err e) =
    BeginsAfter asking place input input' output output' ready e

-- after a message a place is further on in an input, and after a read more octets are held there (own)
abbrev pub IsFurther : LineStart → LineStart → List ℕ → List ℕ → ℕ → NextTold → Type 0
IsFurther place place' held held' seen (tells.Whole told) =
    (place'.left < place.left) × (place.left + length held' ≡ place'.left + length held) × IsHeld place' held' seen
IsFurther place place' held held' seen tells.More =
    (place'.left ≡ place.left) × (length held < length held') × IsHeld place' held' seen
IsFurther place place' held held' seen next = Unit {0}
