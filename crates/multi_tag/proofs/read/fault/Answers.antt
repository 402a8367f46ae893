use Rattle.multi_tag.specs.Body.{HasName, HasNameAtFront}
use Rattle.multi_tag.proofs.read.fault.Goals as goal

pub returns-in-Some-clause-value : goal.returns-in-Some-clause-value
unfolding HasName HasNameAtFront
returns-in-Some-clause-value c _ = (c.in-Some.field-0.0, _, c.in-Some.ensures.name)

pub returns-in-None-clause-unsupported : goal.returns-in-None-clause-unsupported
unfolding HasName
returns-in-None-clause-unsupported c _ = c.in-None.ensures.none
