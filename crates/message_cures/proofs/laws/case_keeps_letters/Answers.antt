use Rattle.message_cures.proofs.CaseLemmas
use Rattle.message_cures.proofs.laws.case_keeps_letters.Goals as goal

pub returns : goal.returns
returns c = CaseLemmas.case_keeps_letters
