-- What is written of a font.
use Rattle.std.specs.Prelude.{◌≡◌, ◌≢◌, ◌⊎◌, ℕ, ◌≤◌, List, [], ◌++◌, length, Option, None, Result, Ok, Err}
use Rattle.std.specs.Io.KnownBytes.{Appends, Consumes, IsAtEnd}
use Rattle.font_bdf.specs.declared.fault.BdfProblem.{BdfProblem}
use Rattle.font_bdf.specs.declared.fault.BdfProblem.TheVariants as problems
use Rattle.font_bdf.specs.declared.fault.Untaken.{Untaken}
use Rattle.font_bdf.specs.declared.setting.FontSetting.{FontSetting}
use Rattle.font_bdf.specs.Listed.{font_listed}
use Rattle.font_bdf.specs.Tables.{IsFontTable, IsListedTable, IsRefused}
use Rattle.tool_streams.specs.declared.fault.ToolFault.TheVariants.{Write}
use Rattle.file_aids.specs.declared.font.FontFault.{FontFault}
use Rattle.file_aids.specs.declared.font.FontFault.TheVariants as faults
use Rattle.tool_streams.specs.Lines.{input_limit}
use Rattle.tool_streams.specs.Streams.{IsReadFault}

-- octets are no font in BDF that a sign can show, or their number is 0, unless memory was refused or the table isn't read back (own)
abbrev pub IsNoFont : FontSetting → List ℕ → BdfProblem → Type 0
IsNoFont setting octets problem = problem ≢ problems.Memory → problem ≢ problems.Unread → IsRefused setting octets problem

-- octets are no font table of NTCIP 1203, unless memory was refused or no sign takes one of its characters (own)
abbrev pub IsNoListing : List ℕ → BdfProblem → Type 0
IsNoListing octets problem = problem ≢ problems.Memory → ((why : Untaken) → problem ≢ problems.CellNotTaken why) → font_listed octets ≡ None

-- the whole input is a font, and its table is written, or its beginning, if the writer fails; or it
-- is none, or it isn't read whole, or memory is refused, and nothing is written (own)
abbrev pub Writes :
    (List ℕ → List ℕ → Type 0) → (List ℕ → BdfProblem → Type 0)
    → Option (List ℕ) → Option (List ℕ) → Option (List ℕ) → Option (List ℕ) → Result (Unit {0}) FontFault → Type 0
Writes IsItsTable IsNone input input' output output' (Ok done) = (octets table : List ℕ)
    × Consumes input input' octets × IsAtEnd input' × (length octets ≤ input_limit) × IsItsTable octets table
    × Appends output output' table
Writes IsItsTable IsNone input input' output output' (Err (faults.Font fault)) = (octets : List ℕ)
    × Consumes input input' octets × IsAtEnd input' × IsNone octets fault.problem × Appends output output' []
Writes IsItsTable IsNone input input' output output' (Err (faults.Tool fault)) =
    (Appends output output' [] × IsReadFault input input' fault)
    ⊎ ((fault ≡ Write)
    × ((octets sent unsent : List ℕ) × Consumes input input' octets × IsAtEnd input' × IsItsTable octets (sent ++ unsent)
    × Appends output output' sent))

-- that of a font in BDF, by a setting (own)
abbrev pub WritesTable :
    FontSetting → Option (List ℕ) → Option (List ℕ) → Option (List ℕ) → Option (List ℕ) → Result (Unit {0}) FontFault → Type 0
WritesTable setting input input' output output' result = Writes (IsFontTable setting) (IsNoFont setting) input input' output output' result

-- that of a font table of NTCIP 1203 (own)
abbrev pub WritesListing :
    Option (List ℕ) → Option (List ℕ) → Option (List ℕ) → Option (List ℕ) → Result (Unit {0}) FontFault → Type 0
WritesListing input input' output output' result = Writes IsListedTable IsNoListing input input' output output' result
