use Rattle.multi_token.proofs.BrokenLemmas as lemmas
use Rattle.multi_token.proofs.laws.what_can_be_mended.Goals as goal

pub returns : goal.returns
returns c = record { broken = lemmas.open_or_broken; mended = lemmas.open_is_mended }
