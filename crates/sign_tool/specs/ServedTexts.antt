-- The texts of the answers that a served sign gives and a script doesn't.
use Rattle.std.specs.Prelude.{ℕ, ◌+◌, ◌*◌, ◌==◌, List, [], ◌∷◌, ◌++◌, length, map, nat_lt, slice_range, if◌then◌else◌, codes, decimal, Result, Ok, Err}
use Rattle.std.specs.Int.{w16, to_be_bytes}
use Rattle.std.specs.List.{flat_map, range_with_len}
use Rattle.hex.specs.Hex.{encode_lower}
use Rattle.sign_font.specs.Defaults.{under}
use Rattle.sign_font.specs.Sign.{SignData}
use Rattle.message_store.specs.declared.fault.StoreFault.{StoreFault}
use Rattle.message_store.specs.declared.message.MsgRef.{MsgRef}
use Rattle.message_store.specs.Fault.{fault_code}
use Rattle.message_store.specs.Crc.{message_crc}
use Rattle.message_store.specs.Row.{RowData}
use Rattle.page_picture.specs.Shown.{colours}
use Rattle.sign_control.specs.Headline.{shown_by, shown_now}
use Rattle.sign_control.specs.State.{StateData}
use Rattle.sign_tool.specs.Frame.{head_text}
use Rattle.sign_tool.specs.Replies.{crc_text, fault_text}
use Rattle.sign_tool.specs.Reply.{check_answer, too_long_text}

-- A colour is written by its digit (own).
abbrev pub digits_text : List ℕ → List ℕ
digits_text colours = map (λ c. 48 + c) colours

-- A row of pixels is a line of as many digits as it has pixels; the rows stand one after the other in the colours (own).
abbrev pub digit_row : ℕ → List ℕ → ℕ → List ℕ
digit_row width colours row = digits_text (slice_range colours (width * row) (width * row + width)) ++ 10 ∷ []

-- The first rows, from the top (own).
unfoldable pub digit_rows : ℕ → List ℕ → ℕ → List ℕ
digit_rows width colours count = flat_map (digit_row width colours) (range_with_len 0 count)

-- The colours of all pixels of what the display shows: the first line of a frame, and then a line for each row (own).
abbrev pub colours_text : SignData → StateData → List ℕ
colours_text sign state =
    head_text (shown_now sign state) ++ digit_rows sign.width (colours (shown_by sign state) state.text (shown_now sign state)) sign.height

-- The verdict on a text, as the check writes it, by the defaults in force (own).
abbrev pub verdict_reply : SignData → StateData → List ℕ → List ℕ
verdict_reply sign state text = check_answer (under sign state.defaults) text

-- The CRC of a message with this text, whose beacon and pixel service are 0 (own).
abbrev pub crc_reply : List ℕ → List ℕ
crc_reply text = codes "crc " ++ crc_text (message_crc text 0 0) ++ codes "\n"

-- The tenths until what the display shows changes; `never` if it doesn't within 4,294,967,295 of them (own).
abbrev pub tenths_text : ℕ → List ℕ
tenths_text tenths = if tenths == 4294967295 then codes "next never\n" else codes "next " ++ decimal tenths ++ codes "\n"

-- The twelve octets of an activation code, whose source address is 0 (NTCIP 1203 v03, MessageActivationCode).
abbrev pub code_octets : MsgRef → ℕ → ℕ → ℕ → List ℕ
code_octets message duration priority crc =
    to_be_bytes w16 duration ++ (priority ∷ message.memory ∷ []) ++ to_be_bytes w16 message.number ++ to_be_bytes w16 crc
    ++ (0 ∷ 0 ∷ 0 ∷ 0 ∷ [])

-- The activation code of a message as it stands, or the refusal where there is no such message (own).
abbrev pub code_reply : MsgRef → ℕ → ℕ → Result RowData StoreFault → List ℕ
code_reply message duration priority (Ok row) = codes "code " ++ encode_lower (code_octets message duration priority row.crc) ++ codes "\n"
code_reply message duration priority (Err fault) = fault_text (fault_code fault)

-- The lines that may be asked (own).
abbrev pub help_text : List ℕ
help_text =
    codes "help: request M N C, multi M N TEXT, multix M N HEX, owner M N HEX, priority M N V, beacon M N V, pixel M N V, clear, work, "
    ++ codes "activate HEX, end HEX, tick T, default FIELD V, frame C, row M N, report, defaults, "
    ++ codes "colours, verdict TEXT, crc TEXT, next, code M N D P, verdictx HEX, crcx HEX, save, restore HEX, help\n"

-- The octets of a state, if they fit into a line that restores them (own).
abbrev pub octets_reply : List ℕ → List ℕ
octets_reply octets = if nat_lt 4146 (length octets) then too_long_text else codes "save " ++ encode_lower octets ++ codes "\n"
