use Rattle.multi_layout.proofs.Common.{refl}
use Rattle.multi_layout.proofs.PagesLemmas.{at_start, first_starts, under_way_first}
use Rattle.multi_layout.proofs.checked.Checked.each_page.Goals as goal

pub invariant_of-result : goal.invariant_of-result
invariant_of-result c =
    let told = c.self.invariant in
    let start = c.new.ensures.start in
    let size = rw (← c.self.view_is) at c.requires.size in
    rw (← c.self.view_is) (under_way_first _ c.new.result c.new.ensures.sound told.short size refl c.steps.ensures c.steps-2.ensures (first_starts told start) (at_start told start).1)
