use Rattle.sign_control.proofs.ChangeLemmas as lemmas
use Rattle.sign_control.proofs.laws.stays_until_next_change.Goals as goal

pub returns : goal.returns
returns c = lemmas.until_next_change c.stays.ensures
