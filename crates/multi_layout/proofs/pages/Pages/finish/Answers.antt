use Rattle.multi_layout.proofs.PagesLemmas.{all_drawn}
use Rattle.multi_layout.proofs.pages.Pages.finish.Goals as goal

pub returns-clause-drawn : goal.returns-clause-drawn
returns-clause-drawn c = rw (← c.self.view_is) (all_drawn _ c.self.inside.start.cursor c.self.invariant)
