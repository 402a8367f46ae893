-- What is written of a message that is drawn.
use Rattle.std.specs.Prelude.{◌≡◌, ◌⊎◌, ℕ, ◌+◌, ◌<◌, ◌≤◌, Bool, List, [], ◌∷◌, ◌++◌, length, Option, None, Some, true, false, Result, Ok, Err}
use Rattle.std.specs.Io.KnownBytes.{Appends, Consumes, IsAtEnd}
use Rattle.sign_font.specs.Sign.{SignData}
use Rattle.multi_meaning.specs.Verdict.{Accepted, Refused, verdict}
use Rattle.message_picture.specs.declared.draw.DrawFault.{DrawFault}
use Rattle.message_picture.specs.declared.draw.DrawFault.TheVariants as draws
use Rattle.message_picture.specs.declared.view.View.{View}
use Rattle.message_picture.specs.Drawn as drawing
use Rattle.message_picture.specs.Drawn.{IsDrawn}
use Rattle.tool_streams.specs.declared.fault.ToolFault.{ToolFault}
use Rattle.tool_streams.specs.declared.fault.ToolFault.TheVariants.{Memory, Write}
use Rattle.tool_streams.specs.declared.lines.LineStart.{LineStart}
use Rattle.sign_aids.specs.Lit.{lit_file}
use Rattle.sign_aids.specs.declared.lit.Lit.{Lit}
use Rattle.sign_aids.specs.declared.picture.PictureFault.{PictureFault}
use Rattle.sign_aids.specs.declared.picture.PictureFault.TheVariants as faults
use Rattle.sign_tool.specs.declared.setup.Setup.{Setup}
use Rattle.tool_streams.specs.Lines.{IsOneLine, octets_of, text_of}
use Rattle.sign_tool.specs.Runs.{Fails, Leads}
use Rattle.tool_streams.specs.Streams.{IsLineFault}

-- this line is taken, and is the last of the input (own)
pub record TakesLast (input input' : Option (List ℕ)) (line : List ℕ) : Type 0 where
  pub reads : Consumes input input' (line ++ 10 ∷ [])
  pub one : IsOneLine line
  pub short : length (text_of line) ≤ 8300
  pub ends : IsAtEnd input'

-- the whole input is what leads to a sign, and one line after that (own)
pub record HasMessage (sample : Bool) (input input' : Option (List ℕ)) (setup : Setup) (line : List ℕ) : Type 0 where
  pub taken : List ℕ
  pub place : LineStart
  pub between : Option (List ℕ)
  pub leads : Leads sample taken (Ok setup) place
  pub reads : Consumes input between taken
  pub last : TakesLast between input' line

-- octets are the file that is asked for, of a message of at most 4,096 octets that the sign takes (own)
pub record DrawsMessage (side : ℕ) (sign : SignData) (octets : List ℕ) (view : View) (file : List ℕ) : Type 0 where
  pub short : length octets ≤ 4096
  pub pages : ℕ
  pub accepted : verdict sign octets ≡ Accepted pages
  pub drawn : IsDrawn side sign octets view file

-- why a message isn't drawn, in the words of the program (own)
abbrev pub picture_fault : DrawFault → PictureFault
picture_fault draws.Memory = faults.Tool Memory
picture_fault (draws.NoPage pages) = faults.NoPage pages
picture_fault (draws.TooLarge tenths) = faults.LargeFilm tenths
picture_fault (draws.TooLong tenths) = faults.LongFilm tenths

-- the sign refuses the message so, or it has too many octets; or the sign takes it, and it isn't drawn for such a reason (own)
abbrev pub IsFaultOf : ℕ → SignData → List ℕ → View → PictureFault → Type 0
IsFaultOf side sign octets view (faults.Refused code at) = verdict sign octets ≡ Refused code at
IsFaultOf side sign octets view faults.TooLong = 4096 < length octets
IsFaultOf side sign octets view faults.NoMessage = ⊥
IsFaultOf side sign octets view (faults.SecondMessage line) = ⊥
IsFaultOf side sign octets view fault =
    (pages : ℕ) × (verdict sign octets ≡ Accepted pages)
    × ((why : DrawFault) × (fault ≡ picture_fault why) × drawing.IsUndrawn side sign octets view why)

-- octets are that file: on a sign of one colour in the colour that is asked for, where one is (own)
abbrev pub DrawsLit : Option Lit → ℕ → SignData → List ℕ → View → List ℕ → Type 0
DrawsLit None side sign octets view file = DrawsMessage side sign octets view file
DrawsLit (Some lit) side sign octets view file =
    (plain : List ℕ) × DrawsMessage side sign octets view plain × (sign.classic ≡ false) × (file ≡ lit_file lit view plain)

-- why it isn't drawn: that message isn't, or the sign has other colours than the one that is asked for (own)
abbrev pub IsFaultOfLit : Option Lit → ℕ → SignData → List ℕ → View → PictureFault → Type 0
IsFaultOfLit None side sign octets view fault = IsFaultOf side sign octets view fault
IsFaultOfLit (Some lit) side sign octets view fault =
    ((fault ≡ faults.ManyColours) × (sign.classic ≡ true)) ⊎ IsFaultOf side sign octets view fault

-- what stands after the sign isn't one message: it is nothing, or a second line begins, or a line has a fault (own)
abbrev pub IsNoMessage : LineStart → Option (List ℕ) → Option (List ℕ) → PictureFault → Type 0
IsNoMessage place input input' faults.NoMessage = Consumes input input' [] × IsAtEnd input'
IsNoMessage place input input' (faults.SecondMessage line) =
    (line ≡ place.number + 1) × ((first more : List ℕ) × Consumes input input' (first ++ 10 ∷ more) × IsOneLine first × (0 < length more))
IsNoMessage place input input' (faults.Tool e) =
    (lines : List (List ℕ)) × (more : List ℕ) × (left : ℕ) × Consumes input input' (octets_of lines ++ more)
    × (length (octets_of lines) + left ≡ place.left) × IsLineFault (place.number + length lines) left more input' e
IsNoMessage place input input' fault = ⊥

-- why nothing is drawn: there is no sign, for the same reason as in the other modes, or after it
-- isn't one message, or that isn't drawn (own)
abbrev pub IsUndrawn : Option Lit → Bool → ℕ → View → Option (List ℕ) → Option (List ℕ) → PictureFault → Type 0
IsUndrawn lit sample side view input input' fault =
    ((e : ToolFault) × (fault ≡ faults.Tool e) × Fails sample input input' e)
    ⊎ ((taken : List ℕ) × (setup : Setup) × (place : LineStart) × (between : Option (List ℕ)) × Leads sample taken (Ok setup) place
    × Consumes input between taken × IsNoMessage place between input' fault)
    ⊎ ((setup : Setup) × (line : List ℕ) × HasMessage sample input input' setup line
    × IsFaultOfLit lit side setup.sign (text_of line) view fault)

-- the whole input is read, and octets are the file of its one message (own)
abbrev pub IsPicture : Option Lit → Bool → ℕ → View → Option (List ℕ) → Option (List ℕ) → List ℕ → Type 0
IsPicture lit sample side view input input' file = (setup : Setup) × (line : List ℕ) × HasMessage sample input input' setup line
    × DrawsLit lit side setup.sign (text_of line) view file

-- the file of the one message of an input is written, or its beginning, if the writer fails; or
-- there is a fault, and nothing is written (own)
abbrev pub DrawsInput :
    Option Lit → Bool → ℕ → View → Option (List ℕ) → Option (List ℕ) → Option (List ℕ) → Option (List ℕ) → Result (Unit {0}) PictureFault
    → Type 0
DrawsInput lit sample side view input input' output output' (Ok done) =
    (file : List ℕ) × IsPicture lit sample side view input input' file × Appends output output' file
DrawsInput lit sample side view input input' output output' (Err e) =
    (Appends output output' [] × IsUndrawn lit sample side view input input' e)
    ⊎ ((e ≡ faults.Tool Write)
    × ((sent unsent : List ℕ) × IsPicture lit sample side view input input' (sent ++ unsent) × Appends output output' sent))
