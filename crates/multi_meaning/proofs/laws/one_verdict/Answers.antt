use Rattle.multi_meaning.proofs.VerdictLemmas as lemmas
use Rattle.multi_meaning.proofs.laws.one_verdict.Goals as goal

pub returns : goal.returns
returns c = lemmas.one_verdict
