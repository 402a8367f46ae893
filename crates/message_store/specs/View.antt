-- A changeable message with its texts, as it is answered and put in.
use Rattle.std.specs.Prelude.{ℕ, ◌==◌, if◌then◌else◌, Option, Some, None}
use Rattle.message_store.specs.declared.slot.Status.{Status}
use Rattle.message_store.specs.declared.slot.Status.TheVariants.{NotUsed, Modifying, Validating, Valid, Error}
use Rattle.message_store.specs.declared.view.SlotView.{SlotView}
use Rattle.message_store.specs.Slot.{SlotData}

-- the slot that was answered, or that is put in (own)
abbrev pub seen : SlotView → SlotData
seen view = record {
  status = view.status;
  multi = view.multi.now;
  owner = view.owner.now;
  priority = view.priority;
  beacon = view.beacon;
  pixel = view.pixel;
}

-- the status of a number (NTCIP 1203 v03, dmsMessageStatus)
abbrev pub status_numbered : ℕ → Option Status
status_numbered number =
    if number == 1 then Some NotUsed
    else (if number == 2 then Some Modifying
    else (if number == 3 then Some Validating
    else (if number == 4 then Some Valid
    else (if number == 5 then Some Error else None))))
