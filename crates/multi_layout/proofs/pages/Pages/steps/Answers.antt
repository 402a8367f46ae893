use Rattle.multi_layout.proofs.Common.{arith}
use Rattle.multi_layout.proofs.PagesLemmas.{all_drawn, all_few, risen_few}
use Rattle.multi_layout.proofs.pages.Pages.steps.Goals as goal

pub overflow_add-result : goal.overflow_add-result
overflow_add-result c =
    let few = all_few _ c.self.inside.start.cursor c.self.invariant in
    let risen = risen_few _ c.self.inside.start.cursor c.self.invariant in
    omega (arith, c.steps.ensures, c.steps-2.ensures, few, risen)

pub returns-clause-drawn : goal.returns-clause-drawn
returns-clause-drawn c = rw (← c.self.view_is) (all_drawn _ c.self.inside.start.cursor c.self.invariant)

pub returns-clause-most : goal.returns-clause-most
returns-clause-most c = rw (← c.self.view_is) (rw (c.steps.ensures, c.steps-2.ensures) (risen_few _ c.self.inside.start.cursor c.self.invariant))
