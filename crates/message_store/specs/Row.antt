-- A message as it is told.
use Rattle.std.specs.Prelude.{ℕ, ◌-◌, Bool, true, false, if◌then◌else◌, List, [], Option, Some, None, Result, Ok, Err}
use Rattle.message_store.specs.declared.fault.StoreFault.{StoreFault}
use Rattle.message_store.specs.declared.fault.StoreFault.TheVariants as fault
use Rattle.message_store.specs.declared.message.MemoryType.{MemoryType}
use Rattle.message_store.specs.declared.message.MemoryType.TheVariants.{Permanent, Changeable, CurrentBuffer, Blank}
use Rattle.message_store.specs.declared.message.MsgRef.{MsgRef}
use Rattle.message_store.specs.declared.row.Row.{Row}
use Rattle.message_store.specs.declared.slot.Status.TheVariants as status
use Rattle.message_store.specs.Codes.{memory_numbered, status_code}
use Rattle.message_store.specs.Crc.{message_crc}
use Rattle.message_store.specs.Slot.{SlotData, PermanentData, StoreData, permanent_at, slot_at}
use Rattle.message_store.specs.Step.{found}

-- the fields of a message, with its CRC (NTCIP 1203 v03, object dmsMessageTable)
pub record RowData : Type 0 where
  pub status : ℕ
  pub multi : List ℕ
  pub owner : List ℕ
  pub priority : ℕ
  pub beacon : ℕ
  pub pixel : ℕ
  pub crc : ℕ

-- the row of a changeable message, with the CRC of its present fields (NTCIP 1203 v03, dmsMessageCRC)
abbrev pub slot_row : SlotData → RowData
slot_row slot = record {
  status = status_code slot.status;
  multi = slot.multi;
  owner = slot.owner;
  priority = slot.priority;
  beacon = slot.beacon;
  pixel = slot.pixel;
  crc = message_crc slot.multi slot.beacon slot.pixel;
}

-- the row of a permanent message, which is valid and has no owner (own)
abbrev pub permanent_row : PermanentData → RowData
permanent_row message = record {
  status = status_code status.Valid;
  multi = message.multi;
  owner = [];
  priority = message.priority;
  beacon = message.beacon;
  pixel = message.pixel;
  crc = message_crc message.multi message.beacon message.pixel;
}

-- the row of a blank message, which is valid: its priority is its number, and its CRC is 0 (own)
abbrev pub blank_row : ℕ → RowData
blank_row number = record { status = status_code status.Valid; multi = []; owner = []; priority = number; beacon = 0; pixel = 0; crc = 0 }

-- the row of a number in a memory type: refused 1 for the currentBuffer, which isn't in the store (own)
abbrev pub row_in : StoreData → ℕ → MemoryType → Result RowData StoreFault
row_in store number Permanent = Ok (permanent_row (permanent_at store (number - 1)))
row_in store number Changeable = Ok (slot_row (slot_at store (number - 1)))
row_in store number CurrentBuffer = Err fault.MemoryType
row_in store number Blank = Ok (blank_row number)

-- the row of a message that there is (own)
abbrev pub row_of : StoreData → ℕ → Result MemoryType StoreFault → Result RowData StoreFault
row_of store number (Ok memory) = row_in store number memory
row_of store number (Err fault) = Err fault

-- it is the currentBuffer (NTCIP 1203 v03, dmsMessageMemoryType)
abbrev pub is_current_buffer : Option MemoryType → Bool
is_current_buffer None = false
is_current_buffer (Some Permanent) = false
is_current_buffer (Some Changeable) = false
is_current_buffer (Some CurrentBuffer) = true
is_current_buffer (Some Blank) = false

-- the row of a message: refused 1 for a memory type other than permanent, changeable and blank, 2 where there is no such
-- message (NTCIP 1203 v03, dmsMessageMemoryType)
abbrev pub row_at : StoreData → MsgRef → Result RowData StoreFault
row_at store message =
    if is_current_buffer (memory_numbered message.memory) then Err fault.MemoryType
    else row_of store message.number (found store message)

-- the row that was answered (own)
abbrev pub data_of : Row → RowData
data_of row = record {
  status = row.status;
  multi = row.multi.now;
  owner = row.owner.now;
  priority = row.priority;
  beacon = row.beacon;
  pixel = row.pixel;
  crc = row.crc;
}

-- the row that was answered, or the refusal (own)
abbrev pub row_result : Result Row StoreFault → Result RowData StoreFault
row_result (Ok row) = Ok (data_of row)
row_result (Err fault) = Err fault
