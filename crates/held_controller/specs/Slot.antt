-- What a slot owns.
use Rattle.std.specs.Prelude.{Option, Some, None}
use base.Fml.{Fml, ftrue}
use denote.RawPtr.{Ptr}
use Rattle.std.specs.Box.Ownership.{box_owns}
use Rattle.std.specs.Global.{Global}
use Rattle.std.specs.contracts.impls.GlobalAllocator.TheImpl.{ghosts}
use Rattle.sign_control.specs.State.{ControllerData}
use Rattle.sign_control.specs.contracts.controller.Controller.{the_row}

-- nothing, or a controller on the heap and the right to free its block (own)
abbrev pub slot_owns : Global → Ptr → Option ControllerData → Fml
slot_owns alloc at None = ftrue
slot_owns alloc at (Some controller) = box_owns (ghosts.dealloc_token alloc) the_row at controller
