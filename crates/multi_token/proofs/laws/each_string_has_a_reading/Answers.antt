use Rattle.multi_token.proofs.ReadingLemmas as lemmas
use Rattle.multi_token.proofs.laws.each_string_has_a_reading.Goals as goal

pub returns : goal.returns
returns c = lemmas.each_string_has_a_reading
