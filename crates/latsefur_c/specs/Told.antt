-- What a controller tells of itself, in numbers.
use Rattle.std.specs.Prelude.{◌≡◌, ◌⊎◌, ◌<◌, ℕ, List, Option, Some, None, IsSomeAnd, Result, Ok, Err, ◌++◌, drop, length}
use Rattle.message_store.specs.Fault.{fault_code}
use Rattle.message_store.specs.declared.fault.StoreFault.{StoreFault}
use Rattle.message_store.specs.declared.message.MsgRef.{MsgRef}
use Rattle.message_store.specs.Row.{RowData}
use Rattle.sign_control.specs.Change.{next_change}
use Rattle.sign_control.specs.Report.{row_shown}
use Rattle.sign_control.specs.declared.report.Report.{Report}
use Rattle.sign_control.specs.State.{ControllerData}
use Rattle.sign_font.specs.declared.parts.Defaults.{Defaults}
use Rattle.latsefur_c.specs.declared.defaults.LatsefurDefaults.{LatsefurDefaults}
use Rattle.latsefur_c.specs.declared.report.LatsefurReport.{LatsefurReport}
use Rattle.latsefur_c.specs.declared.row.LatsefurRow.{LatsefurRow}
use Rattle.latsefur_c.specs.Held.{IsIn}

-- the numbers of a report (own)
abbrev pub report_numbers : Report → LatsefurReport
report_numbers r =
    record {
      clock = r.clock;
      free = r.free;
      requester = r.requester;
      used = r.used;
      shown_number = r.shown_number;
      crc = r.crc;
      remaining = r.remaining;
      position = r.position;
      mode = r.mode;
      shown_memory = r.shown_memory;
      priority = r.priority;
      activate = r.activate;
      validate = r.validate;
      multi = r.multi;
    }

-- something is told of the controller, which stays as it is; or there is none (9), and nothing is told (own)
abbrev pub Tells : {T : Type 0} → (ControllerData → T) → Option ControllerData → Option ControllerData → T → T → ℕ → Type 0
Tells of None new was told outcome = (outcome ≡ 9) × (new ≡ None) × (told ≡ was)
Tells of (Some held) new was told outcome = (outcome ≡ 0) × (new ≡ Some held) × (told ≡ of held)

-- the numbers of defaults (own)
abbrev pub default_numbers : Defaults → LatsefurDefaults
default_numbers d =
    record {
      font = d.font;
      line = d.line;
      page = d.page;
      page_on = d.page_on;
      page_off = d.page_off;
      flash_on = d.flash_on;
      flash_off = d.flash_off;
      fore = d.fore;
      back = d.back;
    }

-- the numbers of a message that there is (own)
abbrev pub row_numbers : RowData → LatsefurRow
row_numbers row =
    record {
      multi = length row.multi;
      owner = length row.owner;
      crc = row.crc;
      code = 0;
      status = row.status;
      priority = row.priority;
      beacon = row.beacon;
      pixel = row.pixel;
    }

-- the numbers of a message that there isn't: why (own)
abbrev pub no_row : StoreFault → LatsefurRow
no_row fault = record { multi = 0; owner = 0; crc = 0; code = fault_code fault; status = 0; priority = 0; beacon = 0; pixel = 0 }

-- a list stands at the front of a buffer, and what is after it is as it was (own)
abbrev pub in_front : List ℕ → List ℕ → List ℕ
in_front octets old = octets ++ drop (length octets) old

-- a message is told, with its text and its owner at the front of two buffers; or one of them is too
-- small (5), or there is no such message (1), which is told, and the buffers stay as they were (own)
abbrev pub TellsRow : Result RowData StoreFault → LatsefurRow → LatsefurRow → List ℕ → List ℕ → List ℕ → List ℕ → ℕ → Type 0
TellsRow (Err fault) was told old_text new_text old_owner new_owner outcome =
    (outcome ≡ 1) × (told ≡ no_row fault) × (new_text ≡ old_text) × (new_owner ≡ old_owner)
TellsRow (Ok row) was told old_text new_text old_owner new_owner outcome =
    ((outcome ≡ 5) × ((length old_text < length row.multi) ⊎ (length old_owner < length row.owner)) × (told ≡ was) × (new_text ≡ old_text)
    × (new_owner ≡ old_owner))
    ⊎ ((outcome ≡ 0) × (told ≡ row_numbers row) × (new_text ≡ in_front row.multi old_text) × (new_owner ≡ in_front row.owner old_owner))

-- the same of a message of the controller of a handle, which stays as it is; or there is none (9), and nothing is told (own)
abbrev pub Rows :
    Option ControllerData → MsgRef → Option ControllerData → LatsefurRow → LatsefurRow → List ℕ → List ℕ → List ℕ → List ℕ → ℕ → Type 0
Rows None message new was told old_text new_text old_owner new_owner outcome =
    (outcome ≡ 9) × (new ≡ None) × (told ≡ was) × (new_text ≡ old_text) × (new_owner ≡ old_owner)
Rows (Some held) message new was told old_text new_text old_owner new_owner outcome =
    (new ≡ Some held) × TellsRow (row_shown held.state message) was told old_text new_text old_owner new_owner outcome

-- it is told for how many tenths, at most this many, what the display shows stays, and so do state and sign; or there is no controller
-- (9), and nothing is told (own)
abbrev pub TellsChange : Option ControllerData → ℕ → Option ControllerData → ℕ → ℕ → ℕ → Type 0
TellsChange None most new was told outcome = (outcome ≡ 9) × (new ≡ None) × (told ≡ was)
TellsChange (Some held) most new was told outcome =
    (outcome ≡ 0) × IsSomeAnd new (IsIn held) × (told ≡ next_change held.sign held.state most)
