use Rattle.multi_token.proofs.SpellingLemmas as lemmas
use Rattle.multi_token.proofs.laws.one_reading.Goals as goal

pub returns : goal.returns
returns c = lemmas.one_reading
