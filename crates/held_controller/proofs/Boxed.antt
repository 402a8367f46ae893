-- A controller's box, its parts and its slot, under the names of the walks.
use mir.Syntax.{impl, tnil, dnil}
use Rattle.std.proofs.Common.{[], ◌≡◌, refl, sym, true≢false}
use Rattle.std.specs.Prelude.{Option, Some, None, IsSome}
use denote.Signature.{Slot, plain}
use Rattle.std.proofs.BoxSteps.Form.{Bx}
use Rattle.std.specs.contracts.alloc.Global as Global
use Rattle.std.specs.contracts.impls.GlobalAllocator.TheImpl.{ghosts, dict}
use Rattle.std.proofs.alloc.Global.TheLaws as global_laws
use Rattle.sign_control.specs.contracts.controller.Controller as Controller
use Rattle.sign_control.proofs.controller.Controller.TheLaws as controller_laws
use Rattle.held_controller.specs.contracts.parts.Parts as Parts
use Rattle.held_controller.specs.contracts.slot.Slot as HeldSlot

abbrev pub boxed : Bx
boxed = record { row = Controller.the_row; laws = controller_laws.the_row_laws; al = record { row = Global.the_row; laws = global_laws.the_row_laws; g = ghosts; d = dict; drops = impl [] tnil dnil } }

-- how the functions take what they use up
abbrev pub in_parts : Slot 0
in_parts = plain (λ _. Parts.the_row Controller.the_row Global.the_row ghosts)

abbrev pub in_slot : Slot 0
in_slot = plain (λ _. HeldSlot.the_row)

abbrev pub in_global : Slot 0
in_global = plain (λ _. Global.the_row)

-- what stands in an option that isn't empty
pub some_of : {X : Type 0} (held : Option X) → IsSome held → (x : X) × (held ≡ Some x)
some_of None full = absurd (true≢false (sym full))
some_of (Some x) full = (x, refl)
