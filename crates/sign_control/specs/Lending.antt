-- What holds of a controller once the frame that it lent is gone.
use Rattle.std.specs.Prelude.{◌≡◌, ⊤}
use Rattle.std.specs.Borrow.{follows_so, MutBor, Fml}
use mathlib.Core.Option.{none}
use Rattle.step_count.specs.Count.{raised}
use Rattle.sign_control.specs.State.{ControllerData}
use Rattle.sign_control.specs.declared.frame.Frame.{Frame}
use Rattle.sign_control.specs.contracts.controller.Controller.{the_row}

-- nothing but the plane and the count has changed, and the frame showed that plane (own)
pub record Framed (old new : ControllerData) (frame : Frame) : Type 0 where
  pub sign_kept : new.sign ≡ old.sign
  pub state_kept : new.state ≡ old.state
  pub revision_kept : new.revision ≡ old.revision
  pub counted : new.steps ≡ raised old.steps frame.steps
  pub lent : frame.plane.now ≡ new.plane

-- the controller, once the frame that it gave is gone (own)
abbrev pub FramedAfter : MutBor ControllerData → Frame → Fml
FramedAfter controller frame =
    follows_so the_row the_row controller.ghost_name none (λ _ _. ⊤) (λ last. Framed controller.now last frame)
