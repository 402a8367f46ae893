-- The pages of a text on the sign that is held, and the state of the controller.
use Rattle.std.proofs.Common.{◌≡◌, ℕ, List, Option, Some, ap, ◌∙◌, refl, subst, sym}
use Rattle.sign_control.specs.State.{ControllerData}
use Rattle.latsefur_c.specs.HeldPage.{DrawsHeld, DrawsPage, PaintsHeld, PaintsPage}
use Rattle.latsefur_c.specs.HeldSign.{sign_in_force}
use Rattle.latsefur_c.specs.Saved.{SavesHeld, SavesState}

-- what is drawn on the sign of a controller is drawn on the sign that a handle holds, if it held this one and holds it after the drawing
pub drawn_held : (old new : Option ControllerData) (held drawing after : ControllerData) (text : List ℕ) (page phase colour : ℕ) (before now : List ℕ) (outcome : ℕ)
    → old ≡ Some held → drawing ≡ held → new ≡ Some after → after.state ≡ drawing.state → after.sign ≡ drawing.sign → after.revision ≡ drawing.revision
    → DrawsPage (sign_in_force drawing) text page phase colour before now outcome → DrawsHeld old text page phase colour new before now outcome
drawn_held old new held drawing after text page phase colour before now outcome is same then state sign revision drawn =
    rw (is ∙ ap Some (sym same), then) ((state, sign, revision), drawn)

pub painted_held : (old new : Option ControllerData) (held drawing after : ControllerData) (text : List ℕ) (page phase : ℕ) (before now : List ℕ) (outcome : ℕ)
    → old ≡ Some held → drawing ≡ held → new ≡ Some after → after.state ≡ drawing.state → after.sign ≡ drawing.sign → after.revision ≡ drawing.revision
    → PaintsPage (sign_in_force drawing) text page phase before now outcome → PaintsHeld old text page phase new before now outcome
painted_held old new held drawing after text page phase before now outcome is same then state sign revision drawn =
    rw (is ∙ ap Some (sym same), then) ((state, sign, revision), drawn)

-- what is saved of a controller is saved of the one that a handle holds before and after
pub saved_held : (old new : Option ControllerData) (held given : ControllerData) (was octets : List ℕ) (before count outcome : ℕ)
    → old ≡ Some held → given ≡ held → new ≡ Some held → SavesState given.state was octets before count outcome → SavesHeld old new was octets before count outcome
saved_held old new held given was octets before count outcome is same then saves =
    let P : ControllerData → Type 0 = λ h. SavesState h.state was octets before count outcome in
    rw (is, then) (refl, subst P same saves)
