-- The table of a script's lines: how each thing that may be asked for is spelled.
use Rattle.std.specs.Prelude.{◌≡◌, ℕ, ◌≤◌, ◌⊎◌, List, [], ◌∷◌, ◌++◌, length, codes, Ok}
use Rattle.std.specs.Str.Parse.{IsNumeral, digits_value}
use Rattle.hex.specs.Hex.{decode_of, decode_sized}
use Rattle.message_store.specs.declared.message.MsgRef.{MsgRef}
use Rattle.sign_control.specs.declared.command.Command.TheVariants as command
use Rattle.sign_script.specs.declared.ask.Ask.{Ask}
use Rattle.sign_script.specs.declared.ask.Ask.TheVariants as ask
use Rattle.sign_script.specs.Verbs.{name}

-- a number of 1 to 10 decimal digits, at most `most` (own)
pub record IsNumber (most n : ℕ) (digits : List ℕ) : Type 0 where
  pub numeral : IsNumeral 10 digits
  pub short : length digits ≤ 10
  pub value : digits_value 10 digits ≡ n
  pub within : n ≤ most

-- a field of a line, with the space before it (own)
pub data Field : Type 0 where
  -- a number that is at most the first one
  Number : ℕ → ℕ → Field
  -- a name as it stands
  Name : List ℕ → Field
  -- these many octets, in hexadecimal
  Octets : ℕ → List ℕ → Field
  -- text up to the end of the line; its space may be left out where it is empty
  Text : List ℕ → Field
  -- octets in hexadecimal up to the end of the line; the space may be left out where there are none
  Hex : List ℕ → Field

-- the octets by which a field stands in a line: a space, octet 32, and what is written after it (own)
abbrev pub IsField : Field → List ℕ → Type 0
IsField (Number most n) part = (digits : List ℕ) × IsNumber most n digits × (part ≡ 32 ∷ digits)
IsField (Name w) part = part ≡ 32 ∷ w
IsField (Octets count octets) part = (digits : List ℕ) × (decode_sized digits count ≡ Ok octets) × (part ≡ 32 ∷ digits)
IsField (Text octets) part = (part ≡ 32 ∷ octets) ⊎ ((part ≡ []) × (octets ≡ []))
IsField (Hex octets) part = ((digits : List ℕ) × (decode_of digits ≡ Ok octets) × (part ≡ 32 ∷ digits)) ⊎ ((part ≡ []) × (octets ≡ []))

-- fields, one after the other (own)
abbrev pub AreFields : List Field → List ℕ → Type 0
AreFields [] parts = parts ≡ []
AreFields (field ∷ fields) parts =
    (part : List ℕ) × (others : List ℕ) × (parts ≡ part ++ others) × IsField field part × AreFields fields others

-- a word and its fields (own)
abbrev pub IsLine : List ℕ → List Field → List ℕ → Type 0
IsLine w fields line = (parts : List ℕ) × (line ≡ w ++ parts) × AreFields fields parts

-- a message is named by its memory type, 0 to 255, and its number, 0 to 65535 (own)
abbrev pub of_message : MsgRef → List Field → List Field
of_message message fields = Number 255 message.memory ∷ Number 65535 message.number ∷ fields

-- the lines by which a thing is asked for (own)
abbrev pub IsSpelled : Ask → List ℕ → Type 0
IsSpelled ask.Nothing line = (line ≡ []) ⊎ ((rest : List ℕ) × (line ≡ 35 ∷ rest))
IsSpelled (ask.Command (command.Request message code)) line = IsLine (codes "request") (of_message message (Number 255 code ∷ [])) line
IsSpelled (ask.Command (command.SetMulti message text)) line =
    IsLine (codes "multi") (of_message message (Text text.now ∷ [])) line
    ⊎ IsLine (codes "multix") (of_message message (Hex text.now ∷ [])) line
IsSpelled (ask.Command (command.SetOwner message owner)) line = IsLine (codes "owner") (of_message message (Hex owner.now ∷ [])) line
IsSpelled (ask.Command (command.SetPriority message value)) line =
    IsLine (codes "priority") (of_message message (Number 255 value ∷ [])) line
IsSpelled (ask.Command (command.SetBeacon message value)) line = IsLine (codes "beacon") (of_message message (Number 255 value ∷ [])) line
IsSpelled (ask.Command (command.SetPixelService message value)) line =
    IsLine (codes "pixel") (of_message message (Number 255 value ∷ [])) line
IsSpelled (ask.Command command.Clear) line = IsLine (codes "clear") [] line
IsSpelled (ask.Command command.Work) line = IsLine (codes "work") [] line
IsSpelled (ask.Command (command.Activate octets)) line = IsLine (codes "activate") (Octets 12 octets ∷ []) line
IsSpelled (ask.Command (command.SetEnd octets)) line = IsLine (codes "end") (Octets 5 octets ∷ []) line
IsSpelled (ask.Command (command.Tick tenths)) line = IsLine (codes "tick") (Number 4294967295 tenths ∷ []) line
IsSpelled (ask.Command (command.SetDefault field value)) line = IsLine (codes "default") (Name (name field) ∷ Number 255 value ∷ []) line
IsSpelled (ask.Frame colour) line = IsLine (codes "frame") (Number 255 colour ∷ []) line
IsSpelled (ask.Row message) line = IsLine (codes "row") (of_message message []) line
IsSpelled ask.Report line = IsLine (codes "report") [] line
IsSpelled ask.Defaults line = IsLine (codes "defaults") [] line
