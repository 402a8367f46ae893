-- Runs: octets that go into a room by a table of numbers, with a gap before each.
use Rattle.std.specs.Prelude.{◌≡◌, ℕ, ◌+◌, ◌-◌, ◌<◌, ◌≤◌, List, length, take, drop, min, slice_get, slice_index, Option, Some, None}
use Rattle.std.specs.List.{All, sum_by}
use Rattle.multi_token.specs.declared.source.Entry.{Entry}
use Rattle.multi_token.specs.declared.source.Space.{Space}

-- an octet, with its number in a table (own)
abbrev pub entry_of : List ℕ → ℕ → Entry
entry_of table octet = record { octet = octet; advance = slice_index table octet }

-- the steps of reading what stands at an offset of this many octets: an octet takes its read and a look at a table, the end its read (own)
abbrev pub look_steps : ℕ → ℕ → ℕ
look_steps n at = min 2 (n - at + 1)

-- what octets take by a table: for each of them a gap and its number in the table (own)
abbrev pub taken : List ℕ → ℕ → List ℕ → ℕ
taken table gap octets = sum_by (λ octet. gap + slice_index table octet) octets

-- this many octets are the longest front that goes into the room (own)
pub record IsRun (table : List ℕ) (gap room : ℕ) (octets : List ℕ) (len : ℕ) : Type 0 where
  pub within : len ≤ length octets
  pub fits : taken table gap (take len octets) ≤ room
  pub longest : (longer : ℕ) → len < longer → longer ≤ length octets → room < taken table gap (take longer octets)

-- an octet is no space (own)
abbrev pub IsNoSpace : ℕ → Type 0
IsNoSpace octet = octet ≡ 32 → ⊥

-- the last space of octets, with what those before it take and what they take with it; none where they have no space (own)
abbrev pub IsLastSpace : List ℕ → ℕ → List ℕ → Option Space → Type 0
IsLastSpace table gap octets None = All IsNoSpace octets
IsLastSpace table gap octets (Some space) =
    (slice_get octets space.at ≡ Some 32)
    × All IsNoSpace (drop (space.at + 1) octets)
    × (space.before ≡ taken table gap (take space.at octets))
    × (space.through ≡ taken table gap (take (space.at + 1) octets))
