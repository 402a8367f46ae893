use Rattle.std.proofs.Common.{◌-◌, ◌≤◌, List, ℕ, length, subst}
use Rattle.step_count.specs.Count.{raised}
use Rattle.sign_font.specs.Defaults.{under}
use Rattle.multi_meaning.specs.Steps.{judging_steps}
use Rattle.sign_control.specs.Colours.{colours_limit}
use Rattle.sign_control.proofs.controller.Controller.colours.Goals as goal

pub returns-clause-steps : goal.returns-clause-steps
returns-clause-steps c =
    let steps = c.write_shown-shown.result.1 in
    let few = subst (λ (l : List ℕ). steps ≤ colours_limit c.self.inside.sign (length l)) c.deref.ensures.value c.write_shown-shown.ensures.most in
    let least = subst (λ (l : List ℕ). raised (judging_steps (under c.self.inside.sign c.self.inside.display.defaults) l) (c.write_shown-shown.new.plane.steps - c.self.inside.plane.steps) ≤ steps) c.deref.ensures.value c.write_shown-shown.ensures.least in
    rw (← c.self.view_is) (steps, least, few, c.raised-self-inside.ensures)
