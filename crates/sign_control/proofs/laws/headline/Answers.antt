use Rattle.sign_control.proofs.HeadlineLemmas as lemmas
use Rattle.sign_control.proofs.laws.headline.Goals as goal

pub returns : goal.returns
returns c = lemmas.headline
