use Rattle.multi_layout.proofs.Common.{arith}
use Rattle.multi_layout.proofs.PagesLemmas.{at_start, first_starts}
use Rattle.multi_layout.proofs.checked.Checked.first_page.Goals as goal

pub returns : goal.returns
returns c =
    let start = c.new-cursor.ensures.start in
    rw (← c.self.view_is) (λ more. (first_starts c.self.invariant start, omega (arith, (at_start c.self.invariant start).1)))
