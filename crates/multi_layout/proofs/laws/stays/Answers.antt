use Rattle.multi_layout.proofs.StayLemmas
use Rattle.multi_layout.proofs.laws.stays.Goals as goal

pub returns : goal.returns
returns c = StayLemmas.stays
