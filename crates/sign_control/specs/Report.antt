-- What is told of a controller, and of what the display shows.
use Rattle.std.specs.Prelude.{ℕ, ◌+◌, ◌/◌, ◌==◌, if◌then◌else◌, [], Option, Some, None, Result, Ok, Err}
use Rattle.message_store.specs.declared.fault.StoreFault.{StoreFault}
use Rattle.message_store.specs.declared.fault.StoreFault.TheVariants as fault
use Rattle.message_store.specs.declared.message.MsgRef.{MsgRef}
use Rattle.message_store.specs.Row.{RowData, row_at}
use Rattle.message_store.specs.Slot.{used_slots}
use Rattle.sign_control.specs.declared.report.Report.{Report}
use Rattle.sign_control.specs.Code.{error_code, mode_code}
use Rattle.sign_control.specs.Run.{free_bytes}
use Rattle.sign_control.specs.State.{StateData}

-- what is left of a duration in minutes, rounded up, 65535 where there is no end (NTCIP 1203 v03, dmsMessageTimeRemaining)
abbrev pub minutes_left : Option ℕ → ℕ
minutes_left None = 65535
minutes_left (Some tenths) = (tenths + 599) / 600

-- what is told of a state (own)
abbrev pub report_of : StateData → Report
report_of state = record {
  used = used_slots state.store;
  free = free_bytes state.store;
  mode = mode_code state.display.mode;
  shown_memory = state.display.source.memory;
  shown_number = state.display.source.number;
  crc = state.display.crc;
  priority = state.display.priority;
  remaining = minutes_left state.display.remaining;
  requester = state.display.requester;
  activate = error_code state.registers.activate;
  validate = state.registers.validate;
  multi = state.registers.multi;
  position = state.registers.position;
  clock = state.display.clock;
}

-- the row of the currentBuffer: what the display shows; it is valid and has no owner (NTCIP 1203 v03, dmsMessageMemoryType)
abbrev pub current_row : StateData → RowData
current_row state = record {
  status = 4;
  multi = state.text;
  owner = [];
  priority = state.display.priority;
  beacon = state.display.beacon;
  pixel = state.display.pixel;
  crc = state.display.crc;
}

-- the row of a message: currentBuffer 1 is what the display shows, and every other one is in the store
-- (NTCIP 1203 v03, object dmsMessageTable)
abbrev pub row_shown : StateData → MsgRef → Result RowData StoreFault
row_shown state message =
    if message.memory == 5 then (if message.number == 1 then Ok (current_row state) else Err fault.Number)
    else row_at state.store message
