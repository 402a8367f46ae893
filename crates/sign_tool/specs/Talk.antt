-- What happens while a sign is served, in order.
use Rattle.std.specs.Prelude.{◌≡◌, ℕ, List, [], ◌∷◌, ◌++◌, Option, None, Some, Result, Ok, Err}
use Rattle.std.specs.List.{flat_map}
use Rattle.tool_streams.specs.declared.fault.ToolFault.{ToolFault}
use Rattle.sign_tool.specs.Runs.{IsFront}
use Rattle.sign_tool.specs.Serving.{ServerData, replies_so_far, replies_to_all}

-- These octets are read, none at the end or where the reader fails; or these are written (own).
pub data Event : Type 0 where
  Heard : List ℕ → Event
  Said : List ℕ → Event

-- The octets that one of them reads (own).
abbrev pub heard_by : Event → List ℕ
heard_by (Heard octets) = octets
heard_by (Said octets) = []

-- The octets that one of them writes (own).
abbrev pub said_by : Event → List ℕ
said_by (Heard octets) = []
said_by (Said octets) = octets

-- All octets that are read (own).
abbrev pub heard : List Event → List ℕ
heard events = flat_map heard_by events

-- All octets that are written (own).
abbrev pub said : List Event → List ℕ
said events = flat_map said_by events

-- Where these were read and written before: at each read the replies to all whole lines that were read before it are written (own).
abbrev pub IsTimelyAfter : ServerData → List ℕ → List ℕ → List Event → Type 0
IsTimelyAfter server read written [] = Unit {0}
IsTimelyAfter server read written (Heard octets ∷ events) =
    (written ≡ replies_so_far server read) × IsTimelyAfter server (read ++ octets) written events
IsTimelyAfter server read written (Said octets ∷ events) = IsTimelyAfter server read (written ++ octets) events

-- Nothing is read while the reply to a whole line that was read isn't written (own).
abbrev pub IsTimely : ServerData → List Event → Type 0
IsTimely server events = IsTimelyAfter server [] [] events

-- A read adds the octets that are read to those that wait (own).
abbrev pub Hears : (List Event → Type 0) → List ℕ → List ℕ → Result ℕ ToolFault → Type 0
Hears Did held held' (Ok count) = (more : List ℕ) × Did (Heard more ∷ []) × (held' ≡ held ++ more)
Hears Did held held' (Err fault) = Did (Heard [] ∷ [])

-- Octets are written, or a beginning of them if that fails (own).
abbrev pub Says : (List Event → Type 0) → List ℕ → Result (Unit {0}) ToolFault → Type 0
Says Did octets (Ok done) = Did (Said octets ∷ [])
Says Did octets (Err fault) = (sent : List ℕ) × IsFront sent octets × Did (Said sent ∷ [])

-- What is written is the replies to all lines of what is read, if no fault ends the run (own).
abbrev pub AreAnswers : ServerData → List Event → Option ToolFault → Type 0
AreAnswers server events None = said events ≡ replies_to_all server (heard events)
AreAnswers server events (Some fault) = Unit {0}

-- A sign is served in time, and each line is answered (own).
abbrev pub ServesInTime : ServerData → (List Event → Type 0) → Option ToolFault → Type 0
ServesInTime server Did fault = (events : List Event) × Did events × IsTimely server events × AreAnswers server events fault

-- ---- the steps of a run

-- Nothing is written, or these octets at once (own).
abbrev pub AreSaid : List Event → List ℕ → Type 0
AreSaid [] sent = sent ≡ []
AreSaid (Said octets ∷ []) sent = sent ≡ octets
AreSaid events sent = ⊥

-- A front of what is ready is written, and the others are kept; where that fails some of it (own).
abbrev pub SaysReady : (List Event → Type 0) → List ℕ → List ℕ → Result (Unit {0}) ToolFault → Type 0
SaysReady Did ready ready' (Ok done) = (events : List Event) × (sent : List ℕ) × Did events × AreSaid events sent × (sent ++ ready' ≡ ready)
SaysReady Did ready ready' (Err fault) = (sent : List ℕ) × Did (Said sent ∷ [])

-- Octets are written, whichever they are, or nothing (own).
abbrev pub SaysSome : (List Event → Type 0) → Type 0
SaysSome Did = (events : List Event) × (sent : List ℕ) × Did events × AreSaid events sent

-- These octets are written at once, or where that fails some or none (own).
abbrev pub SaysLast : (List Event → Type 0) → List ℕ → Result (Unit {0}) ToolFault → Type 0
SaysLast Did octets (Ok done) = Did (Said octets ∷ [])
SaysLast Did octets (Err fault) = SaysSome Did
