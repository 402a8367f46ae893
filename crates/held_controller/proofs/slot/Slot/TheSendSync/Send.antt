-- A slot may go to another thread, as what it owns may.
use Rattle.std.specs.Prelude.{Option, Some, None}
use Rattle.std.specs.Global.{Global}
use Rattle.std.proofs.Crossing.{frees}
use Rattle.std.proofs.alloc.Global.TheSendSync as global
use base.Fraction.{full_share}
use base.Shift.{Keyless}
use denote.Memory.{lone}
use denote.RawPtr.{Ptr, block_ptr, null_ptr, lies_at}
use denote.Struct.Owning.{fields}
use denote.Param.Send.{IsSend, AllSend, part_keyless, owning_send, sendable}
use mir.Raw.{raw}
use Rattle.held_controller.specs.Slot.{slot_owns}
use Rattle.sign_control.specs.State.{ControllerData}
use Rattle.sign_control.specs.contracts.controller.Controller as Controller
use Rattle.sign_control.proofs.controller.Controller.TheSendSync.{the_send}
use Rattle.held_controller.specs.contracts.slot.Slot.{the_row, the_type}

-- a controller in memory names no key
lies : (at : Ptr) (controller : ControllerData) → Keyless (lies_at Controller.the_row full_share at controller)
lies (block_ptr b o) controller = part_keyless Controller.the_row the_send full_share controller b o
lies null_ptr controller = tt

owns : (alloc : Global) (at : Ptr) (held : Option ControllerData) → Keyless (slot_owns alloc at held)
owns alloc at None = tt
owns alloc at (Some controller) = (lies at controller, frees.frees alloc (raw (lone Controller.the_row.mir)) at)

pub send : IsSend the_row
send =
    let all : AllSend (fields the_type) = (search sendable, (global.the_field_send, tt)) in
    owning_send the_type all (λ slot. owns slot.alloc slot.at slot.held) (λ k slot left. tt)
