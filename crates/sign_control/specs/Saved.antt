-- The octets in which a state is saved, and what restoring octets gives.
use Rattle.std.specs.Prelude.{◌≡◌, ◌≤◌, ◌<◌, ℕ, ◌+◌, ◌*◌, ◌||◌, ◌==◌, nat_lt, is_some, if◌then◌else◌, List, [], ◌∷◌, ◌++◌, drop, length, slice_index, Option, Some, None, Result, Ok, Err, IsOk}
use Rattle.byteorder.specs.Endian.{big_bytes, big_number}
use Rattle.sign_font.specs.declared.parts.Defaults.{Defaults}
use Rattle.sign_font.specs.Defaults.{default_fault, under}
use Rattle.sign_font.specs.Sign.{SignData}
use Rattle.multi_meaning.specs.Verdict.{verdict}
use Rattle.message_store.specs.declared.limits.StoreLimits.{StoreLimits}
use Rattle.message_store.specs.Judged.{is_accepted}
use Rattle.message_store.specs.Slot.{SlotData, StoreData}
use Rattle.saved_octets.specs.declared.fault.StateFault.{StateFault}
use Rattle.saved_octets.specs.declared.fault.StateFault.TheVariants as fault
use Rattle.saved_octets.specs.Field.{◌>>=◌, placed, text_in, text_octets}
use Rattle.saved_octets.specs.Seal.{sealed, unsealed}
use Rattle.saved_octets.specs.Slots.{is_unranged, table_in, table_octets}
use Rattle.sign_control.specs.declared.code.ActivateError.{ActivateError}
use Rattle.sign_control.specs.declared.code.ActivateError.TheVariants as error
use Rattle.sign_control.specs.declared.code.IdCode.{IdCode}
use Rattle.sign_control.specs.declared.code.SourceMode.{SourceMode}
use Rattle.sign_control.specs.declared.code.SourceMode.TheVariants as mode
use Rattle.sign_control.specs.declared.display.Display.{Display}
use Rattle.sign_control.specs.declared.display.Registers.{Registers}
use Rattle.sign_control.specs.declared.parts.Parts.{Parts}
use Rattle.sign_control.specs.Code.{error_code, id_code, mode_code}
use Rattle.sign_control.specs.State.{StateData}

-- ---- what is saved

-- defaults, in an octet each (own)
abbrev pub defaults_octets : Defaults → List ℕ
defaults_octets d = d.font ∷ d.line ∷ d.page ∷ d.page_on ∷ d.page_off ∷ d.flash_on ∷ d.flash_off ∷ d.fore ∷ d.back ∷ []

-- a message and its CRC, as they are named (NTCIP 1203 v03, MessageIDCode)
abbrev pub end_octets : IdCode → List ℕ
end_octets code = code.message.memory ∷ [] ++ big_bytes 2 code.message.number ++ big_bytes 2 code.crc

-- the errors of the last activation, validation and text, in an octet each, and the position in two (own)
abbrev pub registers_octets : Registers → List ℕ
registers_octets r = error_code r.activate ∷ r.validate ∷ r.multi ∷ [] ++ big_bytes 2 r.position

-- what is left of a duration: every bit is set where there is no end (own)
abbrev pub remaining_number : Option ℕ → ℕ
remaining_number None = 0xFFFFFFFF
remaining_number (Some tenths) = tenths

-- what the display shows beside its text, without its defaults (own)
abbrev pub shown_octets : Display → List ℕ
shown_octets d =
    d.source.memory ∷ [] ++ big_bytes 2 d.source.number ++ d.priority ∷ d.beacon ∷ d.pixel ∷ mode_code d.mode ∷ []
    ++ big_bytes 2 d.crc ++ big_bytes 4 d.requester ++ big_bytes 4 (remaining_number d.remaining) ++ big_bytes 8 d.clock

-- the parts of a state of which the size is known (own)
abbrev pub parts_octets : Parts → List ℕ
parts_octets parts =
    defaults_octets parts.defaults ++ end_octets parts.end ++ registers_octets parts.registers ++ shown_octets parts.display
    ++ defaults_octets parts.display.defaults

-- the parts of a state (own)
abbrev pub parts_of : StateData → Parts
parts_of state = record { defaults = state.defaults; end = state.end; registers = state.registers; display = state.display }

-- a state: its parts, the display's text, and the messages (own)
abbrev pub body_octets : StateData → List ℕ
body_octets state = parts_octets (parts_of state) ++ text_octets state.text ++ table_octets state.store.slots

-- a state, sealed (own)
abbrev pub saved_octets : StateData → List ℕ
saved_octets state = sealed (body_octets state)

-- the most octets of the saved states of a table with these limits (own)
abbrev pub save_size : StoreLimits → ℕ
save_size limits = 66 + limits.max_string + 8 * limits.slots + limits.bytes

-- the state stands at the front of a buffer, and all after it is as before; or there is less room than any state may need, and nothing
-- is written (own)
abbrev pub Saves : ℕ → List ℕ → List ℕ → List ℕ → Option ℕ → Type 0
Saves size octets old new None = (length old < size) × (new ≡ old)
Saves size octets old new (Some count) = (size ≤ length old) × (count ≡ length octets) × (new ≡ placed old 0 octets)

-- ---- what is restored

-- the defaults in nine octets (own)
abbrev pub defaults_in : List ℕ → Defaults
defaults_in octets = record {
  font = slice_index octets 0;
  line = slice_index octets 1;
  page = slice_index octets 2;
  page_on = slice_index octets 3;
  page_off = slice_index octets 4;
  flash_on = slice_index octets 5;
  flash_off = slice_index octets 6;
  fore = slice_index octets 7;
  back = slice_index octets 8;
}

-- the activate error of a number (NTCIP 1203 v03, dmsActivateMsgError)
abbrev pub error_numbered : ℕ → Option ActivateError
error_numbered number =
    if number == 2 then Some error.None
    else (if number == 3 then Some error.Priority
    else (if number == 4 then Some error.MessageStatus
    else (if number == 5 then Some error.MessageMemoryType
    else (if number == 6 then Some error.MessageNumber
    else (if number == 7 then Some error.MessageCrc
    else (if number == 8 then Some error.SyntaxMulti else None))))))

-- the source mode of a number (NTCIP 1203 v03, dmsMsgSourceMode)
abbrev pub mode_numbered : ℕ → Option SourceMode
mode_numbered number =
    if number == 1 then Some mode.Other
    else (if number == 8 then Some mode.Central
    else (if number == 14 then Some mode.EndDuration else None))

-- the registers with this activate error, in five octets (own)
abbrev pub registers_with : List ℕ → Option ActivateError → Result Registers StateFault
registers_with octets None = Err fault.Value
registers_with octets (Some activate) =
    Ok (record {
      activate = activate;
      validate = slice_index octets 1;
      multi = slice_index octets 2;
      position = big_number 2 (drop 3 octets);
    })

-- the registers in five octets (own)
unfoldable pub registers_in : List ℕ → Result Registers StateFault
registers_in octets = registers_with octets (error_numbered (slice_index octets 0))

-- what is left of a duration, unless it is longer than any (own)
unfoldable pub remaining_in : ℕ → Result (Option ℕ) StateFault
remaining_in number =
    if number == 0xFFFFFFFF then Ok None
    else (if nat_lt (65534 * 600) number then Err fault.Value else Ok (Some number))

-- the display with this mode, what is left of its duration, and these defaults, in 25 octets (own)
abbrev pub display_with : List ℕ → Defaults → Option ℕ → Option SourceMode → Result Display StateFault
display_with octets defaults remaining None = Err fault.Value
display_with octets defaults remaining (Some mode) =
    if is_unranged (slice_index octets 3) (slice_index octets 4) (slice_index octets 5) then Err fault.Value
    else Ok (record {
      source = record { memory = slice_index octets 0; number = big_number 2 (drop 1 octets) };
      priority = slice_index octets 3;
      beacon = slice_index octets 4;
      pixel = slice_index octets 5;
      crc = big_number 2 (drop 7 octets);
      defaults = defaults;
      clock = big_number 8 (drop 17 octets);
      remaining = remaining;
      requester = big_number 4 (drop 9 octets);
      mode = mode;
    })

-- the display in 25 octets, and its defaults in nine after them (own)
unfoldable pub display_in : List ℕ → Result Display StateFault
display_in octets = do
  remaining ← remaining_in (big_number 4 (drop 13 octets))
  display_with octets (defaults_in (drop 25 octets)) remaining (mode_numbered (slice_index octets 6))

-- the parts of a state in 53 octets (own)
unfoldable pub parts_in : List ℕ → Result Parts StateFault
parts_in octets = do
  registers ← registers_in (drop 14 octets)
  display ← display_in (drop 19 octets)
  Ok (record { defaults = defaults_in octets; end = id_code (drop 9 octets); registers = registers; display = display })

-- the parts at the front, and the octets after them (own)
unfoldable pub front_in : List ℕ → Result (Parts × List ℕ) StateFault
front_in octets = if nat_lt (length octets) 53 then Err fault.Length else (parts_in octets >>= λ parts. Ok (parts, drop 53 octets))

-- what was saved, and not judged yet: its parts, the display's text, and the octets of the messages (own)
pub record ReadData : Type 0 where
  pub parts : Parts
  pub text : List ℕ
  pub rest : List ℕ

-- what sealed octets have in them, with a text of at most so many octets (own)
unfoldable pub read_in : ℕ → List ℕ → Result ReadData StateFault
read_in most octets = do
  body ← unsealed octets
  front ← front_in body
  text ← text_in most front.1
  Ok (record { parts = front.0; text = text.0; rest = text.1 })

-- why a sign refuses what was saved: the defaults in force or those of the display, or the display's text by these (own)
unfoldable pub sign_fault : SignData → Parts → List ℕ → Option StateFault
sign_fault sign parts text =
    if is_some (default_fault sign parts.defaults) || is_some (default_fault sign parts.display.defaults) then Some fault.Defaults
    else (if is_accepted (verdict (under sign parts.display.defaults) text) then None else Some fault.Text)

-- a value, unless there is a refusal (own)
abbrev pub unless : {A : Type 0} → Option StateFault → A → Result A StateFault
unless None x = Ok x
unless (Some fault) x = Err fault

-- the state of what was read, with these messages in a store (own)
abbrev pub state_with : StoreData → ReadData → List SlotData → StateData
state_with store read slots = record {
  store = record store { slots = slots };
  defaults = read.parts.defaults;
  display = read.parts.display;
  text = read.text;
  registers = read.parts.registers;
  end = read.parts.end;
}

-- the state that octets give a sign with a store, or the first reason why they give none (own)
unfoldable pub restored : SignData → StoreData → List ℕ → Result StateData StateFault
restored sign store octets = do
  read ← read_in store.limits.max_string octets
  taken ← unless (sign_fault sign read.parts read.text) read
  slots ← table_in store.limits taken.rest
  Ok (state_with store taken slots)

-- the state is restored; or there is a refusal, and it stays as it is (own)
abbrev pub Restores : Result StateData StateFault → StateData → StateData → Result (Unit {0}) StateFault → Type 0
Restores (Ok state) old new result = IsOk result × (new ≡ state)
Restores (Err fault) old new result = (result ≡ Err fault) × (new ≡ old)

-- a law: a sign with a store of the same limits and permanent messages gets this state from the octets in which it is saved (own)
abbrev pub IsRestorable : SignData → StateData → Type 0
IsRestorable sign state =
    (store : StoreData) → store.limits ≡ state.store.limits → store.permanent ≡ state.store.permanent
    → restored sign store (saved_octets state) ≡ Ok state
