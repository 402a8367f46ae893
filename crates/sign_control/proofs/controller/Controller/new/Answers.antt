use Rattle.std.proofs.Common.{arith, ◌∙◌, ap}
use Rattle.message_store.specs.declared.limits.StoreLimits.{StoreLimits}
use Rattle.sign_font.specs.declared.parts.Defaults.{Defaults}
use Rattle.sign_font.specs.Defaults.{default_fault}
use Rattle.sign_control.specs.declared.display.Display.{Display}
use Rattle.sign_control.proofs.StepLemmas.{ready-none, start-limited, start-ranged}
use Rattle.sign_control.proofs.controller.Controller.new.Goals as goal

pub invariant_of-result : goal.invariant_of-result
invariant_of-result c =
    let taken = ap (λ (d : Defaults). default_fault c.args.sign d) c.defaults-defaults.ensures.defaults ∙ c.defaults-defaults.ensures.taken in
    ready-none c.args.sign c.args.store c.defaults-defaults.result c.start.result c.in-Ok.text.items _ c.in_ok-plane.plane
    c.width.ensures.sound taken (ap (λ (d : Display). default_fault c.args.sign d.defaults) c.start.ensures ∙ taken)
    (omega (arith, c.limits.ensures.kept.sound.longest)) c.in-Ok.ensures.items
    (omega (arith, c.in-Ok.ensures.capacity, ap (λ (l : StoreLimits). l.max_string) c.limits.ensures.limits, c.from-room.ensures))
    (c.in_ok-plane.ensures.width ∙ c.width.ensures.width, c.in_ok-plane.ensures.height ∙ c.height.ensures.height)
    (start-limited c.defaults-defaults.result c.start.result c.start.ensures)
    (start-ranged c.defaults-defaults.result c.start.result c.start.ensures)
