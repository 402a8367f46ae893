use Rattle.multi_tag.proofs.ClosedTagLemmas.{closed_tag, no_closed_rest}
use Rattle.multi_tag.proofs.closed.read_named.Goals as goal

pub returns-in_err-tag-clause-none : goal.returns-in_err-tag-clause-none
returns-in_err-tag-clause-none c = rw c.from_residual.ensures (no_closed_rest _ _ c.args.name c.requires.name c.in_err-tag.ensures.none)

pub overflow_sub-result : goal.overflow_sub-result
overflow_sub-result c = (closed_tag _ _ c.args.name c.requires.name _ _ c.in_ok-tag.ensures.some).0

pub returns-clause-some : goal.returns-clause-some
returns-clause-some c = (closed_tag _ _ c.args.name c.requires.name _ _ c.in_ok-tag.ensures.some).1
