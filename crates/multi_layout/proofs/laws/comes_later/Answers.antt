use Rattle.multi_layout.proofs.LaterLemmas
use Rattle.multi_layout.proofs.laws.comes_later.Goals as goal

pub returns : goal.returns
returns c = LaterLemmas.comes_later
