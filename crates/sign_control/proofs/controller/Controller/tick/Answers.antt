use Rattle.sign_control.proofs.StepLemmas.{ready-passed}
use Rattle.sign_control.proofs.controller.Controller.tick.Goals as goal

pub invariant_of-self : goal.invariant_of-self
invariant_of-self c =
    let s = c.self-in_default.inside in
    ready-passed s.sign s.store s.defaults s.display c.passed-self-inside.result s.text.items _ s.plane c.args.tenths c.self-in_default.invariant c.passed-self-inside.ensures
