use Rattle.sign_control.proofs.RestoredLemmas as lemmas
use Rattle.sign_control.proofs.laws.answers_as_saved.Goals as goal

pub returns : goal.returns
returns c = lemmas.answers_as_saved
