use Rattle.std.proofs.Common.{◌≡◌, ◌≤◌, ◌+◌, List, ℕ, ap, ◌∙◌, length, subst}
use Rattle.step_count.specs.Count.{raised}
use Rattle.sign_font.specs.Defaults.{under}
use Rattle.multi_meaning.specs.Steps.{judging_steps}
use Rattle.multi_layout.specs.Finding.{change_steps}
use Rattle.sign_control.specs.Change.{change_limit}
use Rattle.sign_control.proofs.controller.Controller.next_change.Goals.{After-no_later}
use Rattle.sign_control.proofs.controller.Controller.next_change.Goals as goal

-- the steps of judging the display's own text, and of passing its pages
counted : (c : After-no_later) → let shown = under c.self.inside.sign c.self.inside.display.defaults in let text = c.self.inside.text.items in
    c.change_left-left.result.1 ≡ judging_steps shown text + change_steps shown text c.self.inside.display.clock
counted c =
    let shown = under c.self.inside.sign c.self.inside.display.defaults in
    subst (λ (l : List ℕ). c.change_left-left.result.1 ≡ judging_steps shown l + change_steps shown l c.self.inside.display.clock) c.deref.ensures.value c.change_left-left.ensures.steps

pub returns-clause-steps : goal.returns-clause-steps
returns-clause-steps c = rw (← c.self.view_is) (c.raised-self-inside.ensures ∙ ap (raised c.self.inside.steps) (counted c))

pub returns-clause-most : goal.returns-clause-most
returns-clause-most c =
    let few = subst (λ (l : List ℕ). c.change_left-left.result.1 ≤ change_limit (length l)) c.deref.ensures.value c.change_left-left.ensures.most in
    rw (← c.self.view_is) (subst (λ n. n ≤ change_limit (length c.self.inside.text.items)) (counted c) few)
