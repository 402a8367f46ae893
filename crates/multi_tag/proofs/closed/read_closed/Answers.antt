use Rattle.multi_tag.proofs.ClosedTagLemmas.{no_closed_name}
use Rattle.multi_tag.proofs.closed.read_closed.Goals as goal

pub returns-in_err-name-clause-none : goal.returns-in_err-name-clause-none
returns-in_err-name-clause-none c = rw c.from_residual.ensures (no_closed_name _ c.in_err-name.ensures.none)
