use Rattle.sign_control.proofs.RevisionLemmas as lemmas
use Rattle.sign_control.proofs.laws.changes_the_time_at_most.Goals as goal

pub returns : goal.returns
returns c = lemmas.changes_the_time_at_most
