-- The texts of replies to a script's lines.
use Rattle.std.specs.Prelude.{ℕ, List, [], ◌∷◌, ◌++◌, codes, decimal, Result, Ok, Err}
use Rattle.std.specs.Int.{w16, w32, to_be_bytes}
use Rattle.std.specs.List.{flat_map}
use Rattle.hex.specs.Hex.{encode_lower}
use Rattle.sign_font.specs.declared.parts.Defaults.{Defaults}
use Rattle.sign_font.specs.Fault.{default_code}
use Rattle.message_store.specs.declared.fault.StoreFault.{StoreFault}
use Rattle.message_store.specs.declared.message.MsgRef.{MsgRef}
use Rattle.message_store.specs.Fault.{fault_code}
use Rattle.message_store.specs.Row.{RowData}
use Rattle.sign_control.specs.declared.command.Reply.{Reply}
use Rattle.sign_control.specs.declared.command.Reply.TheVariants as reply
use Rattle.sign_control.specs.declared.report.Report.{Report}

-- Numbers in decimal, each after a space, octet 32 (own).
abbrev pub numbers_text : List ℕ → List ℕ
numbers_text numbers = flat_map (λ n. 32 ∷ decimal n) numbers

-- A refused call of the store, or a default that isn't taken, is answered by the number of its fault (own).
abbrev pub fault_text : ℕ → List ℕ
fault_text code = codes "refused " ++ decimal code ++ codes "\n"

-- The reply to a command (own).
abbrev pub reply_text : Reply → List ℕ
reply_text reply.Done = codes "done\n"
reply_text (reply.Refused fault) = fault_text (fault_code fault)
reply_text reply.Idle = codes "idle\n"
reply_text (reply.Worked number status validate multi position) =
    codes "worked" ++ numbers_text (number ∷ status ∷ validate ∷ multi ∷ position ∷ []) ++ codes "\n"
reply_text reply.Shown = codes "shown\n"
reply_text (reply.NotShown error) = codes "not shown " ++ decimal error ++ codes "\n"
reply_text (reply.NotSet fault) = fault_text (default_code fault)
reply_text reply.Ticked = codes "ticked\n"
reply_text reply.Ended = codes "ended\n"

-- A CRC is four digits in hexadecimal, in lower case (own).
abbrev pub crc_text : ℕ → List ℕ
crc_text crc = encode_lower (to_be_bytes w16 crc)

-- Octets are written in hexadecimal, in lower case, and no octets as `-` (own).
abbrev pub octets_text : List ℕ → List ℕ
octets_text [] = codes "-"
octets_text (c ∷ cs) = encode_lower (c ∷ cs)

-- The row of a message: its memory type and number, status, priority, beacon and pixel service, CRC, owner and text (own).
abbrev pub fields_text : MsgRef → RowData → List ℕ
fields_text message row =
    codes "row" ++ numbers_text (message.memory ∷ message.number ∷ row.status ∷ row.priority ∷ row.beacon ∷ row.pixel ∷ [])
    ++ codes " " ++ crc_text row.crc ++ codes " " ++ octets_text row.owner ++ codes " " ++ octets_text row.multi ++ codes "\n"

-- The row of a message, or the refusal where there is no such message (own).
abbrev pub row_reply : MsgRef → Result RowData StoreFault → List ℕ
row_reply message (Ok row) = fields_text message row
row_reply message (Err fault) = fault_text (fault_code fault)

-- The part of a report on the message table: the used slots and the free bytes (own).
abbrev pub table_text : Report → List ℕ
table_text r = codes " used=" ++ decimal r.used ++ codes " free=" ++ decimal r.free

-- The part of a report on what is shown: why, of which message, and its CRC (own).
abbrev pub shown_text : Report → List ℕ
shown_text r =
    codes " mode=" ++ decimal r.mode ++ codes " shown=" ++ decimal r.shown_memory ++ codes "/" ++ decimal r.shown_number
    ++ codes " crc=" ++ crc_text r.crc

-- The part of a report on time and who asked; the address is eight digits in hexadecimal (own).
abbrev pub asked_text : Report → List ℕ
asked_text r =
    codes " priority=" ++ decimal r.priority ++ codes " remaining=" ++ decimal r.remaining
    ++ codes " requester=" ++ encode_lower (to_be_bytes w32 r.requester)

-- The part of a report on errors, and the clock (own).
abbrev pub errors_text : Report → List ℕ
errors_text r =
    codes " activate=" ++ decimal r.activate ++ codes " validate=" ++ decimal r.validate ++ codes " multi=" ++ decimal r.multi
    ++ codes " position=" ++ decimal r.position ++ codes " clock=" ++ decimal r.clock ++ codes "\n"

-- The report, in one line (own).
abbrev pub report_text : Report → List ℕ
report_text r = codes "report" ++ table_text r ++ shown_text r ++ asked_text r ++ errors_text r

-- The defaults in force, in the order in which sign files have them (own).
abbrev pub defaults_text : Defaults → List ℕ
defaults_text d =
    codes "defaults" ++ numbers_text (d.font ∷ d.line ∷ d.page ∷ d.page_on ∷ d.page_off ∷ d.flash_on ∷ d.flash_off ∷ d.fore ∷ d.back ∷ [])
    ++ codes "\n"
