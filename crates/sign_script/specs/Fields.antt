-- The fields of a line, which are parted by one space each.
use Rattle.std.specs.Prelude.{◌≡◌, ℕ, Bool, true, ◌==◌, ◌&&◌, nat_le, List, [], ◌∷◌, length, if◌then◌else◌, Option, None, Some, Result, Ok, Err}
use Rattle.std.specs.List.{list_all}
use Rattle.std.specs.Borrow.{Bor}
use Rattle.std.specs.Str.Parse.{digits_value}
use Rattle.octet_text.specs.Digits.{is_digit}
use Rattle.hex.specs.Hex.{decode_of, decode_sized}
use Rattle.hex.specs.declared.error.FromHexError.{FromHexError}
use Rattle.message_store.specs.declared.message.MsgRef.{MsgRef}
use Rattle.sign_script.specs.declared.ask.LineFault.{LineFault}
use Rattle.sign_script.specs.declared.ask.LineFault.TheVariants.{Bad, Memory}

-- what comes next is read from what was read, where something was (own)
infixl 10 ◌>>=◌
abbrev pub ◌>>=◌ : {A B : Type 0} → Option A → (A → Option B) → Option B
None >>= next = None
(Some x) >>= next = next x

-- the first field of a text, and the text after the space that ends it, where one does (own)
pub record Parted : Type 0 where
  pub field : List ℕ
  pub rest : Option (List ℕ)

-- an octet other than a space belongs to the first field (own)
abbrev pub with_first : ℕ → Parted → Parted
with_first c parts = record { field = c ∷ parts.field; rest = parts.rest }

-- the first space, octet 32, ends the first field and belongs to none (own)
unfoldable pub parted : List ℕ → Parted
parted [] = record { field = []; rest = None }
parted (c ∷ cs) = if c == 32 then record { field = []; rest = Some cs } else with_first c (parted cs)

-- the number that 1 to 10 decimal digits write, where it is at most `most` (own)
abbrev pub number_of : ℕ → List ℕ → Option ℕ
number_of most digits =
    if nat_le 1 (length digits) && nat_le (length digits) 10 && list_all is_digit digits && nat_le (digits_value 10 digits) most
    then Some (digits_value 10 digits) else None

-- the next field of what is left of a line, and what is left after it; nothing is left where no space came (own)
abbrev pub next_field : Option (List ℕ) → Option (List ℕ × Option (List ℕ))
next_field None = None
next_field (Some text) = Some ((parted text).field, (parted text).rest)

-- the number that the next field is, at most `most` (own)
abbrev pub next_number : ℕ → Option (List ℕ) → Option (ℕ × Option (List ℕ))
next_number most rest = do
  field ← next_field rest
  number ← number_of most field.0
  Some (number, field.1)

-- what was read, where nothing is left after it (own)
abbrev pub at_end : {A : Type 0} → A → Option (List ℕ) → Option A
at_end x None = Some x
at_end x (Some text) = None

-- the number that the last field is, at most `most` (own)
abbrev pub last_number : ℕ → Option (List ℕ) → Option ℕ
last_number most rest = do
  number ← next_number most rest
  at_end number.0 number.1

-- the message that the next two fields name: its memory type and its number (own)
abbrev pub next_message : Option (List ℕ) → Option (MsgRef × Option (List ℕ))
next_message rest = do
  memory ← next_number 255 rest
  number ← next_number 65535 memory.1
  Some (record { memory = memory.0; number = number.0 }, number.1)

-- the message that the last two fields name (own)
abbrev pub last_message : Option (List ℕ) → Option MsgRef
last_message rest = do
  message ← next_message rest
  at_end message.0 message.1

-- the message of the next two fields, and the number of the last one, 0 to 255 (own)
abbrev pub message_value : Option (List ℕ) → Option (MsgRef × ℕ)
message_value rest = do
  message ← next_message rest
  value ← last_number 255 message.1
  Some (message.0, value)

-- a field has ended before octets that begin with a space, octet 32, and where there are none (own)
abbrev pub is_ended : List ℕ → Bool
is_ended [] = true
is_ended (c ∷ cs) = c == 32

-- what is left of a line after the space that stands first; nothing is left where there are no octets (own)
abbrev pub left : List ℕ → Option (List ℕ)
left [] = None
left (c ∷ cs) = Some cs

-- what was read and what is left of a line, wherever that lies in memory (own)
abbrev pub seen : {A : Type 0} → Option (A × Bor (List ℕ)) → Option (A × Option (List ℕ))
seen None = None
seen (Some read) = Some (read.0, left read.1.now)

-- all that is left of a line is text; where nothing is left, the text is empty (own)
abbrev pub text_of : Option (List ℕ) → List ℕ
text_of None = []
text_of (Some text) = text

-- the octets that digits write in hexadecimal, where they do (own)
abbrev pub if_decoded : Result (List ℕ) FromHexError → Option (List ℕ)
if_decoded (Ok octets) = Some octets
if_decoded (Err e) = None

-- the octets of an even number of hexadecimal digits, in either case (own)
abbrev pub octets_of : List ℕ → Option (List ℕ)
octets_of digits = if_decoded (decode_of digits)

-- the message that the next two fields name, and the octets that the rest of the line writes in hexadecimal (own)
abbrev pub message_octets : Option (List ℕ) → Option (MsgRef × List ℕ)
message_octets rest = do
  message ← next_message rest
  octets ← octets_of (text_of message.1)
  Some (message.0, octets)

-- these many octets, in hexadecimal, are all that is left of a line (own)
abbrev pub last_octets : ℕ → Option (List ℕ) → Option (List ℕ)
last_octets count rest = do
  digits ← rest
  if_decoded (decode_sized digits count)

-- what was read, seen by `view`, is what is written; it is bad where nothing is written so, and memory may have been
-- refused (own)
abbrev pub Gives : {X Y : Type 0} → (X → Y) → Result X LineFault → Option Y → Type 0
Gives view (Ok x) written = written ≡ Some (view x)
Gives view (Err Bad) written = written ≡ None
Gives view (Err Memory) written = Unit {0}
