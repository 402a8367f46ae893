use Rattle.multi_layout.proofs.ChangesLemmas
use Rattle.multi_layout.proofs.laws.does_change.Goals as goal

pub returns : goal.returns
returns c = ChangesLemmas.does_change
