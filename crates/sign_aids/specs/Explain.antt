-- What is written of messages that are explained.
use Rattle.std.specs.Prelude.{◌≡◌, ◌≢◌, ◌⊎◌, ℕ, ◌+◌, ◌-◌, ◌<◌, ◌≤◌, ◌^◌, min, Bool, List, [], ◌∷◌, ◌++◌, length, Option, None, Some, Result, Ok, Err, if◌then◌else◌}
use Rattle.std.specs.List.{sum_by}
use Rattle.std.specs.Io.KnownBytes.{Appends, Consumes, IsAtEnd}
use Rattle.sign_font.specs.Sign.{SignData}
use Rattle.message_cures.specs.Taking.{takes}
use Rattle.message_cures.specs.declared.mending.Kind.{Kind}
use Rattle.message_report.specs.Explanation.{Explains}
use Rattle.message_report.specs.declared.format.Telling.{Telling}
use Rattle.message_report.specs.declared.format.Told.{Told}
use Rattle.tool_streams.specs.declared.fault.ToolFault.{ToolFault}
use Rattle.tool_streams.specs.declared.fault.ToolFault.TheVariants as faults
use Rattle.tool_streams.specs.declared.lines.LineStart.{LineStart}
use Rattle.sign_tool.specs.declared.setup.Setup.{Setup}
use Rattle.tool_streams.specs.Lines.{IsOneLine, octets_of, text_of}
use Rattle.sign_tool.specs.Runs.{Fails, Leads}
use Rattle.sign_tool.specs.Serving.{last_line}
use Rattle.tool_streams.specs.Streams.{IsLineFault}
use Rattle.sign_aids.specs.declared.explain.Counts.{Counts}

-- what is asked for: a sign, the most octets of a text that its message table takes, how messages are told of, the name of their file, and
-- how many lines stand before them in the input (own)
pub record Asking : Type 0 where
  pub sign : SignData
  pub most : ℕ
  pub telling : Telling
  pub name : List ℕ
  pub before : ℕ

-- what is asked for on the sign of a setup (own)
abbrev pub asking_of : Setup → Telling → List ℕ → ℕ → Asking
asking_of setup telling name before = record {
  sign = setup.sign;
  most = setup.store.limits.max_string;
  telling = telling;
  name = name;
  before = before;
}

-- 1 for a message in place of which something is proposed (own)
abbrev pub proposed_one : Option Kind → ℕ
proposed_one None = 0
proposed_one (Some kind) = 1

-- a text explains some lines, the first of which has this number in the input, one after the other, and this is told of each (own)
abbrev pub ExplainsLines : Asking → ℕ → List (List ℕ) → List Told → List ℕ → Type 0
ExplainsLines asking number [] tolds text = (tolds ≡ []) × (text ≡ [])
ExplainsLines asking number (line ∷ lines) tolds text = IsOneLine line × (length (text_of line) ≤ 8300) × ((first rest : List ℕ)
    × (told : Told) × (others : List Told)
    × Explains asking.telling asking.sign asking.most asking.name (number - asking.before) (text_of line) told first
    × ExplainsLines asking (number + 1) lines others rest × (tolds ≡ told ∷ others) × (text ≡ first ++ rest))

-- in place of how many messages something is proposed, of which this is told (own)
abbrev pub mended_of : List Told → ℕ
mended_of tolds = sum_by (λ (told : Told). proposed_one told.proposal) tolds

-- how many warnings are told of messages, of which this is told (own)
abbrev pub warnings_of : List Told → ℕ
warnings_of tolds = sum_by (λ (told : Told). told.warnings) tolds

-- 1 for a line that a sign doesn't take (own)
abbrev pub refused_one : SignData → List ℕ → ℕ
refused_one sign line = if takes sign (text_of line) then 0 else 1

-- how many of some lines a sign doesn't take (own)
abbrev pub refused_of : SignData → List (List ℕ) → ℕ
refused_of sign lines = sum_by (refused_one sign) lines

-- a fault at a message, with which what is read begins. What stands after the last line feed is a message too, unless it has too many
-- octets (own)
abbrev pub IsMessageFault : ℕ → ℕ → List ℕ → Option (List ℕ) → ToolFault → Type 0
IsMessageFault number left more input (faults.BadLine line) = ⊥
IsMessageFault number left more input (faults.LineTooLong line) =
    ((first behind : List ℕ) × (more ≡ first ++ behind) × IsLineFault number left first input (faults.LineTooLong line))
    ⊎ ((line ≡ number) × IsOneLine more × (length more ≤ left) × IsAtEnd input × (8300 < length more))
IsMessageFault number left more input e = IsLineFault number left more input e

-- some lines are read, from this place on, and perhaps more, which has this fault, and what was ready and their explanations are written,
-- or their beginning, if the writer fails, also at what stands after the last line feed. No more is read than what shows that an input is
-- too long (own)
pub record BeginsAfter (asking : Asking) (place : LineStart) (input input' output output' : Option (List ℕ)) (ready : List ℕ)
    (e : ToolFault) : Type 0 where
  pub lines : List (List ℕ)
  pub more : List ℕ
  pub told : List (List ℕ)
  pub text : List ℕ
  pub tolds : List Told
  pub sent : List ℕ
  pub unsent : List ℕ
  pub left : ℕ
  pub reads : Consumes input input' (octets_of lines ++ more)
  pub room : length (octets_of lines) + left ≡ place.left
  pub most : length more ≤ left + 1
  pub fault : IsMessageFault (place.number + length lines) left more input' e
  pub last : (told ≡ []) ⊎ ((told ≡ more ∷ []) × (e ≡ faults.Write) × IsAtEnd input')
  pub explains : ExplainsLines asking place.number (lines ++ told) tolds text
  pub writes : Appends output output' sent
  pub parts : sent ++ unsent ≡ ready ++ text
  pub whole : e ≢ faults.Write → unsent ≡ []

-- all messages that are left are read and explained, with what stands after the last line feed, and counted (own)
pub record ExplainedAll (asking : Asking) (place : LineStart) (input input' output output' : Option (List ℕ)) (counts : Counts) : Type 0
  where
    pub lines : List (List ℕ)
    pub rest : List ℕ
    pub tolds : List Told
    pub text : List ℕ
    pub reads : Consumes input input' (octets_of lines ++ rest)
    pub end : IsAtEnd input'
    pub explains : ExplainsLines asking place.number (lines ++ last_line rest) tolds text
    pub writes : Appends output output' text
    pub messages_is : counts.messages ≡ length (lines ++ last_line rest)
    pub refused_is : counts.refused ≡ refused_of asking.sign (lines ++ last_line rest)
    pub mended_is : counts.mended ≡ mended_of tolds
    -- or as many as can be counted
    pub warnings_is : counts.warnings ≡ min (warnings_of tolds) (2 ^ 64 - 1)

-- the messages that are left are read to their end and explained, or there is a fault (own)
abbrev pub ExplainsRest :
    Asking → LineStart → Option (List ℕ) → Option (List ℕ) → Option (List ℕ) → Option (List ℕ) → Result Counts ToolFault → Type 0
ExplainsRest asking place input input' output output' (Ok counts) = ExplainedAll asking place input input' output output' counts
ExplainsRest asking place input input' output output' (Err e) = BeginsAfter asking place input input' output output' [] e

-- what is taken leads to a sign, and the messages after that are explained on it; or it leads to none, for the same reason as in the
-- other modes, and nothing is written (own)
abbrev pub ExplainsInput :
    Bool → Telling → List ℕ → ℕ → Option (List ℕ) → Option (List ℕ) → Option (List ℕ) → Option (List ℕ) → Result Counts ToolFault → Type 0
ExplainsInput sample telling name before input input' output output' result =
    ((taken : List ℕ) × (setup : Setup) × (place : LineStart) × (between : Option (List ℕ)) × Leads sample taken (Ok setup) place
    × Consumes input between taken
    × ExplainsRest (asking_of setup telling name before) place between input' output output' result)
    ⊎ ((e : ToolFault) × (result ≡ Err e) × Fails sample input input' e × Appends output output' [])
